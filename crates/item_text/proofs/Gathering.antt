-- Stamped items with one more.
use Rattle.std.proofs.Common.{◌≡◌, ℕ, suc, ◌+◌, ◌-◌, ◌≤◌, List, [], ◌∷◌, ◌++◌, length, refl, ap, arith, length-append}
use Rattle.code_event.specs.ItemList.{IsStampedBehind}
use Rattle.code_event.specs.declared.event.EventRecord.{EventRecord}
use Rattle.code_event.specs.declared.tick.Item.{Item}
use Rattle.code_event.specs.declared.tick.Item.TheVariants as item
use Rattle.code_event.specs.declared.tick.Tick.{Tick}
use Rattle.item_text.specs.ItemDraft.{ticks_in, AreGathered}

few_ticks : (items : List Item) → ticks_in items ≤ length items
few_ticks [] = omega arith
few_ticks (item.Event e ∷ items) = omega (arith, few_ticks items)
few_ticks (item.Tick t ∷ items) = omega (arith, few_ticks items)

stamped_event : (events ticks n : ℕ) (items : List Item) (r : EventRecord) → n + ticks_in items ≡ length items → r.number ≡ suc (events + n) → r.ticks_before ≡ ticks + ticks_in items
    → IsStampedBehind events ticks items → IsStampedBehind events ticks (items ++ item.Event r ∷ [])
stamped_event events ticks n [] r all number before is = (omega (arith, number, all), omega (arith, before), tt)
stamped_event events ticks n (item.Event e ∷ items) r all number before is =
    let few = few_ticks items in
    (is.0, is.1, stamped_event (suc events) ticks (n - 1) items r (omega (arith, all, few)) (omega (arith, all, few, number)) before is.2)
stamped_event events ticks n (item.Tick t ∷ items) r all number before is =
    (is.0, is.1, stamped_event events (suc ticks) n items r (omega (arith, all)) number (omega (arith, before)) is.2)

stamped_tick : (events ticks n : ℕ) (items : List Item) (t : Tick) → n + ticks_in items ≡ length items → t.tick_number ≡ suc (ticks + ticks_in items) → t.order ≡ events + n
    → IsStampedBehind events ticks items → IsStampedBehind events ticks (items ++ item.Tick t ∷ [])
stamped_tick events ticks n [] t all number order is = (omega (arith, number), omega (arith, order, all), tt)
stamped_tick events ticks n (item.Event e ∷ items) t all number order is =
    let few = few_ticks items in
    (is.0, is.1, stamped_tick (suc events) ticks (n - 1) items t (omega (arith, all, few)) number (omega (arith, all, few, order)) is.2)
stamped_tick events ticks n (item.Tick first ∷ items) t all number order is =
    (is.0, is.1, stamped_tick events (suc ticks) n items t (omega (arith, all)) (omega (arith, number)) order is.2)

ticks_with_event : (items : List Item) (r : EventRecord) → ticks_in (items ++ item.Event r ∷ []) ≡ ticks_in items
ticks_with_event [] r = refl
ticks_with_event (item.Event e ∷ items) r = ticks_with_event items r
ticks_with_event (item.Tick t ∷ items) r = ap (λ (z : ℕ). suc z) (ticks_with_event items r)

ticks_with_tick : (items : List Item) (t : Tick) → ticks_in (items ++ item.Tick t ∷ []) ≡ suc (ticks_in items)
ticks_with_tick [] t = refl
ticks_with_tick (item.Event e ∷ items) t = ticks_with_tick items t
ticks_with_tick (item.Tick first ∷ items) t = ap (λ (z : ℕ). suc z) (ticks_with_tick items t)

pub gathered_event : (items : List Item) (ticks : ℕ) (r : EventRecord) → AreGathered items ticks → r.number ≡ length items - ticks + 1 → r.ticks_before ≡ ticks → AreGathered (items ++ item.Event r ∷ []) ticks
gathered_event items ticks r are number before = record {
  stamped = stamped_event 0 0 (length items - ticks) items r (omega (arith, are.count, are.bound)) (omega (arith, number)) (omega (arith, before, are.count)) are.stamped;
  count = omega (arith, are.count, ticks_with_event items r);
  bound = omega (arith, are.bound, length-append items (item.Event r ∷ []));
}

pub gathered_tick : (items : List Item) (ticks : ℕ) (t : Tick) → AreGathered items ticks → t.tick_number ≡ ticks + 1 → t.order ≡ length items - ticks → AreGathered (items ++ item.Tick t ∷ []) (ticks + 1)
gathered_tick items ticks t are number order = record {
  stamped = stamped_tick 0 0 (length items - ticks) items t (omega (arith, are.count, are.bound)) (omega (arith, number, are.count)) (omega (arith, order)) are.stamped;
  count = omega (arith, are.count, ticks_with_tick items t);
  bound = omega (arith, are.bound, length-append items (item.Tick t ∷ []));
}
