-- What is raised and what is taken keep the lists in order.
use Rattle.std.proofs.Common.{◌≡◌, ℕ, suc, ◌+◌, List, [], ◌∷◌, ◌++◌, ap, sym, subst, ◌∙◌, arith, append_assoc, append-nil}
use Rattle.std.proofs.lemmas.Bool.Decides.{nat_tests}
use Rattle.std.specs.Prelude.{true}
use Rattle.code_event.specs.ItemList.{IsStampedBehind, IsStamped}
use Rattle.code_event.specs.declared.event.CodeEvent.{CodeEvent}
use Rattle.code_event.specs.declared.event.EventRecord.{EventRecord}
use Rattle.code_event.specs.declared.tick.Item.{Item}
use Rattle.code_event.specs.declared.tick.Item.TheVariants as item
use Rattle.code_event.specs.declared.tick.Tick.{Tick}
use Rattle.pipe_core.proofs.Joined.{joined_turned, joined_more}
use Rattle.pipe_core.proofs.StampedRest.{event_count-append, tick_count-append, events_of-append, ticks_of-append, behind_back, stamped_event_more, stamped_tick_more, next_event, next_tick, BeginsWithEvent}
use Rattle.pipe_core.specs.CoreOrder.{IsJoined}
use Rattle.pipe_core.specs.Next.{is_event_next, is_tick_next}
use Rattle.pipe_core.specs.Stamps.{event_stamp, tick_stamp, events_of, ticks_of, event_count, tick_count, event_after, tick_after}

-- the lists: what was raised and taken, and the rest, which the queues and the ring have
pub record HasLists (raised taken rest : List Item) (applied ticked : ℕ) (events : List EventRecord) (vm_ticks ring : List Tick) : Type 0 where
  pub stamped : IsStamped raised
  pub split : raised ≡ taken ++ rest
  pub applied_is : applied ≡ event_count taken
  pub ticked_is : ticked ≡ tick_count taken
  pub events_are : events ≡ events_of rest
  pub ticks_are : IsJoined vm_ticks ring (ticks_of rest)

module _ (raised taken rest : List Item) (applied ticked : ℕ) (events : List EventRecord) (vm_ticks ring : List Tick) (has : HasLists raised taken rest applied ticked events vm_ticks ring) where
  pub rest_stamped : IsStampedBehind applied ticked rest
  rest_stamped =
      let all : IsStamped (taken ++ rest) = subst IsStamped has.split has.stamped in
      let e : 0 + event_count taken ≡ applied = let is = has.applied_is in omega arith in
      let t : 0 + tick_count taken ≡ ticked = let is = has.ticked_is in omega arith in
      subst (λ n. IsStampedBehind applied n rest) t (subst (λ n. IsStampedBehind n (0 + tick_count taken) rest) e (behind_back 0 0 taken rest all))

  longer : (x : Item) → raised ++ x ∷ [] ≡ taken ++ (rest ++ x ∷ [])
  longer x = ap (λ (xs : List Item). xs ++ x ∷ []) has.split ∙ append_assoc taken rest (x ∷ [])

  pub event_raised : (event : CodeEvent) → let e = event_after raised event in HasLists (raised ++ item.Event e ∷ []) taken (rest ++ item.Event e ∷ []) applied ticked (events ++ e ∷ []) vm_ticks ring
  event_raised event =
      let e = event_after raised event in
      let x : Item = item.Event e in
      record {
        stamped = stamped_event_more raised event has.stamped;
        split = longer x;
        applied_is = has.applied_is;
        ticked_is = has.ticked_is;
        events_are = ap (λ (es : List EventRecord). es ++ e ∷ []) has.events_are ∙ sym (events_of-append rest (x ∷ []));
        ticks_are = subst (IsJoined vm_ticks ring) (sym (ticks_of-append rest (x ∷ []) ∙ append-nil (ticks_of rest))) has.ticks_are;
      }

  -- a tick is raised, into one of the two
  tick_raised : (tick : Tick) → let t = tick_after raised tick in (one other : List Tick)
      → IsJoined one other (ticks_of rest ++ t ∷ []) → HasLists (raised ++ item.Tick t ∷ []) taken (rest ++ item.Tick t ∷ []) applied ticked events one other
  tick_raised tick one other joined =
      let t = tick_after raised tick in
      let x : Item = item.Tick t in
      record {
        stamped = stamped_tick_more raised tick has.stamped;
        split = longer x;
        applied_is = has.applied_is;
        ticked_is = has.ticked_is;
        events_are = has.events_are ∙ sym (events_of-append rest (x ∷ []) ∙ append-nil (events_of rest));
        ticks_are = subst (IsJoined one other) (sym (ticks_of-append rest (x ∷ []))) joined;
      }

  pub vm_tick_raised : (tick : Tick) → let t = tick_after raised tick in HasLists (raised ++ item.Tick t ∷ []) taken (rest ++ item.Tick t ∷ []) applied ticked events (vm_ticks ++ t ∷ []) ring
  vm_tick_raised tick = let t = tick_after raised tick in tick_raised tick (vm_ticks ++ t ∷ []) ring (joined_more vm_ticks ring (ticks_of rest) t has.ticks_are)

  pub ring_tick_raised : (tick : Tick) → let t = tick_after raised tick in HasLists (raised ++ item.Tick t ∷ []) taken (rest ++ item.Tick t ∷ []) applied ticked events vm_ticks (ring ++ t ∷ [])
  ring_tick_raised tick =
      let t = tick_after raised tick in
      tick_raised tick vm_ticks (ring ++ t ∷ []) (joined_turned (ring ++ t ∷ []) vm_ticks (ticks_of rest ++ t ∷ []) (joined_more ring vm_ticks (ticks_of rest) t (joined_turned vm_ticks ring (ticks_of rest) has.ticks_are)))

  -- the first of the rest is taken
  taken_split : (x : Item) (others : List Item) → rest ≡ x ∷ others → raised ≡ (taken ++ x ∷ []) ++ others
  taken_split x others is = has.split ∙ ap (λ (xs : List Item). taken ++ xs) is ∙ sym (append_assoc taken (x ∷ []) others)

  pub event_goes : (e : EventRecord) (more : List EventRecord) → events ≡ e ∷ more → is_event_next applied ticked (event_stamp e) ≡ true
      → (others : List Item) × HasLists raised (taken ++ item.Event e ∷ []) others (suc applied) ticked more vm_ticks ring
  event_goes e more is next =
      let before : e.ticks_before ≡ ticked = grind (arith, nat_tests, next) in
      let found : BeginsWithEvent e more rest = next_event applied ticked e more rest rest_stamped (sym is ∙ has.events_are) before in
      let x : Item = item.Event e in
      let applied_more = event_count-append taken (x ∷ []) in
      let ticked_more = tick_count-append taken (x ∷ []) in
      let applied_had = has.applied_is in
      let ticked_had = has.ticked_is in
      let joined : IsJoined vm_ticks ring (ticks_of (x ∷ found.0)) = subst (λ (xs : List Item). IsJoined vm_ticks ring (ticks_of xs)) {x = rest} {y = x ∷ found.0} found.1 has.ticks_are in (
        found.0,
        record {
          stamped = has.stamped;
          split = taken_split x found.0 found.1;
          applied_is = omega arith;
          ticked_is = omega arith;
          events_are = found.2;
          ticks_are = joined;
        },
      )

  tick_goes : (t : Tick) (more others : List Tick) → IsJoined (t ∷ more) others (ticks_of rest) → is_tick_next applied ticked (tick_stamp t) ≡ true
      → (behind : List Item) × (rest ≡ item.Tick t ∷ behind) × IsJoined more others (ticks_of behind)
  tick_goes t more others joined next =
      let order : t.order ≡ applied = grind (arith, nat_tests, next) in
      let number : t.tick_number ≡ suc ticked = grind (arith, nat_tests, next) in
      next_tick applied ticked t more others rest rest_stamped joined order number

  with_tick_taken : (t : Tick) (behind : List Item) (one other : List Tick) → rest ≡ item.Tick t ∷ behind → IsJoined one other (ticks_of behind) → HasLists raised (taken ++ item.Tick t ∷ []) behind applied (suc ticked) events one other
  with_tick_taken t behind one other is joined =
      let x : Item = item.Tick t in
      let applied_more = event_count-append taken (x ∷ []) in
      let ticked_more = tick_count-append taken (x ∷ []) in
      let applied_had = has.applied_is in
      let ticked_had = has.ticked_is in
      record {
        stamped = has.stamped;
        split = taken_split x behind is;
        applied_is = omega arith;
        ticked_is = omega arith;
        events_are = has.events_are ∙ ap events_of is;
        ticks_are = joined;
      }

  pub vm_tick_goes : (t : Tick) (more : List Tick) → vm_ticks ≡ t ∷ more → is_tick_next applied ticked (tick_stamp t) ≡ true
      → (others : List Item) × HasLists raised (taken ++ item.Tick t ∷ []) others applied (suc ticked) events more ring
  vm_tick_goes t more is next =
      let found = tick_goes t more ring (subst (λ (xs : List Tick). IsJoined xs ring (ticks_of rest)) is has.ticks_are) next in
      (found.0, with_tick_taken t found.0 more ring found.1 found.2)

  pub ring_tick_goes : (t : Tick) (more : List Tick) → ring ≡ t ∷ more → is_tick_next applied ticked (tick_stamp t) ≡ true
      → (others : List Item) × HasLists raised (taken ++ item.Tick t ∷ []) others applied (suc ticked) events vm_ticks more
  ring_tick_goes t more is next =
      let found = tick_goes t more vm_ticks (joined_turned vm_ticks (t ∷ more) (ticks_of rest) (subst (λ (xs : List Tick). IsJoined vm_ticks xs (ticks_of rest)) is has.ticks_are)) next in
      (found.0, with_tick_taken t found.0 vm_ticks more found.1 (joined_turned more vm_ticks (ticks_of found.0) found.2))
