-- Ticks and events of item lists.
use Rattle.std.proofs.Common.{◌≡◌, ◌+◌, List, [], ◌∷◌, length, refl, arith}
use Rattle.std.specs.Prelude.{count_by}
use Rattle.code_event.proofs.Counts.{count_cons}
use Rattle.code_event.specs.declared.tick.Item.{Item}
use Rattle.code_event.specs.declared.tick.Item.TheVariants as item
use Rattle.prof_top.specs.PrintedText.{is_tick, is_event}

-- each item is one or the other
pub ticks_and_events : (items : List Item) → length items ≡ count_by is_event items + count_by is_tick items
ticks_and_events [] = refl
ticks_and_events (item.Event e ∷ items) =
    omega (arith, count_cons is_event (item.Event e) items, count_cons is_tick (item.Event e) items, ticks_and_events items)
ticks_and_events (item.Tick t ∷ items) =
    omega (arith, count_cons is_event (item.Tick t) items, count_cons is_tick (item.Tick t) items, ticks_and_events items)
