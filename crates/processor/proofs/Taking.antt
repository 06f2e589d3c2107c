-- What is next, by stamps.
use Rattle.std.proofs.Common.{◌≡◌, ℕ, suc, ◌+◌, List, [], ◌∷◌, ◌++◌, refl, sym, ap, subst, ◌∙◌, ⊎_elim, append_assoc, arith}
use Rattle.std.proofs.lemmas.Bool.Decides.{nat_tests}
use Rattle.std.specs.Prelude.{Bool, true, Option, Some, option_map}
use Rattle.code_event.specs.ItemList.{IsStamped, IsStampedBehind}
use Rattle.code_event.specs.declared.event.EventRecord.{EventRecord}
use Rattle.code_event.specs.declared.tick.Item.{Item}
use Rattle.code_event.specs.declared.tick.Item.TheVariants as item
use Rattle.code_event.specs.declared.tick.Tick.{Tick}
use Rattle.pipe_core.proofs.StampedRest.{behind_joins, behind_back, event_count-append, tick_count-append, next_event, next_tick}
use Rattle.pipe_core.proofs.Joined.{joined_turned}
use Rattle.pipe_core.specs.CoreOrder.{IsJoined}
use Rattle.pipe_core.specs.Next.{is_event_next, is_tick_next, is_shown}
use Rattle.pipe_core.specs.Observed.{first_of, LostFirst}
use Rattle.pipe_core.specs.Stamps.{event_stamp, tick_stamp, event_count, tick_count, ticks_of, events_of}
use Rattle.processor.specs.Taking.{HasTaken}
use Rattle.processor.specs.TakingLaws.{TakingAddsTheNext, NothingIsLeft, TheNextIsTheFirstOfTheRest}

pub taking_adds_the_next : TakingAddsTheNext
taking_adds_the_next applied ticked items (item.Event e) has next =
    let applied_is = has.applied_is in
    let ticked_is = has.ticked_is in
    let number : e.number ≡ suc applied = grind (arith, nat_tests, next) in
    let before : e.ticks_before ≡ ticked = grind (arith, nat_tests, next) in
    let x : List Item = item.Event e ∷ [] in
    let events = event_count-append items x in
    let ticks = tick_count-append items x in
    record { stamped = behind_joins 0 0 items x has.stamped (omega arith, omega arith, tt); applied_is = omega arith; ticked_is = omega arith }
taking_adds_the_next applied ticked items (item.Tick t) has next =
    let applied_is = has.applied_is in
    let ticked_is = has.ticked_is in
    let order : t.order ≡ applied = grind (arith, nat_tests, next) in
    let number : t.tick_number ≡ suc ticked = grind (arith, nat_tests, next) in
    let x : List Item = item.Tick t ∷ [] in
    let events = event_count-append items x in
    let ticks = tick_count-append items x in
    record { stamped = behind_joins 0 0 items x has.stamped (omega arith, omega arith, tt); applied_is = omega arith; ticked_is = omega arith }

pub nothing_is_left : NothingIsLeft
nothing_is_left applied ticked items [] events vm_ticks ring has hold none = refl
nothing_is_left applied ticked items (item.Event e ∷ rest) events vm_ticks ring has hold none =
    let stamps = behind_back 0 0 items (item.Event e ∷ rest) hold.stamped in
    let number : e.number ≡ suc (0 + event_count items) = stamps.0 in
    let before : e.ticks_before ≡ 0 + tick_count items = stamps.1 in
    let applied_is = has.applied_is in
    let ticked_is = has.ticked_is in
    let number_is : e.number ≡ suc applied = omega arith in
    let before_is : e.ticks_before ≡ ticked = omega arith in
    let next : is_event_next applied ticked (event_stamp e) ≡ true = grind (arith, nat_tests, number_is, before_is) in
    let shown : is_shown (is_event_next applied ticked) (option_map event_stamp (first_of events)) ≡ true =
    ap (λ (es : List EventRecord). is_shown (is_event_next applied ticked) (option_map event_stamp (first_of es))) hold.events_are ∙ next in
    absurd (cc (shown, none.no_event))
nothing_is_left applied ticked items (item.Tick t ∷ rest) events vm_ticks ring has hold none =
    let stamps = behind_back 0 0 items (item.Tick t ∷ rest) hold.stamped in
    let number : t.tick_number ≡ suc (0 + tick_count items) = stamps.0 in
    let order : t.order ≡ 0 + event_count items = stamps.1 in
    let applied_is = has.applied_is in
    let ticked_is = has.ticked_is in
    let number_is : t.tick_number ≡ suc ticked = omega arith in
    let order_is : t.order ≡ applied = omega arith in
    let next : is_tick_next applied ticked (tick_stamp t) ≡ true = grind (arith, nat_tests, number_is, order_is) in
    let next_of : Option Tick → Bool = λ (o : Option Tick). is_shown (is_tick_next applied ticked) (option_map tick_stamp o) in
    ⊎_elim
    (λ (l : (more : List Tick) × (vm_ticks ≡ t ∷ more) × IsJoined more ring (ticks_of rest)).
    let shown : next_of (first_of vm_ticks) ≡ true = ap (λ (ticks : List Tick). next_of (first_of ticks)) l.1 ∙ next in
    absurd (cc (shown, none.no_vm_tick)))
    (λ (r : (more : List Tick) × (ring ≡ t ∷ more) × IsJoined vm_ticks more (ticks_of rest)).
    let shown : next_of (first_of ring) ≡ true = ap (λ (ticks : List Tick). next_of (first_of ticks)) r.1 ∙ next in
    absurd (cc (shown, none.no_sample))) hold.ticks_are

-- what follows items in a stamped list is stamped by the numbers taken
rest_stamped : (applied ticked : ℕ) (items rest : List Item) → HasTaken applied ticked items → IsStamped (items ++ rest) → IsStampedBehind applied ticked rest
rest_stamped applied ticked items rest has is =
    let events : 0 + event_count items ≡ applied = omega (arith, has.applied_is) in
    let ticks : 0 + tick_count items ≡ ticked = omega (arith, has.ticked_is) in
    subst (λ n. IsStampedBehind applied n rest) ticks (subst (λ n. IsStampedBehind n (0 + tick_count items) rest) events (behind_back 0 0 items rest is))

-- the same list, with its next item among those before
next_moves : (items rest rest' : List Item) (next : Item) → rest ≡ next ∷ rest' → IsStamped (items ++ rest) → IsStamped (items ++ next ∷ [] ++ rest')
next_moves items rest rest' next is stamped = subst IsStamped (ap (λ (r : List Item). items ++ r) is ∙ sym (append_assoc items (next ∷ []) rest')) stamped

pub the_next_is_the_first_of_the_rest : TheNextIsTheFirstOfTheRest
the_next_is_the_first_of_the_rest applied ticked items rest (item.Event e) events events' vm_ticks vm_ticks' ring ring' has next hold lost kept =
    let ticked_is = has.ticked_is in
    let before : e.ticks_before ≡ ticked = grind (arith, nat_tests, next) in
    let now : events' ≡ lost.0 = cc (lost.2) in
    let vm_now : vm_ticks' ≡ vm_ticks = cc (kept.0) in
    let ring_now : ring' ≡ ring = cc (kept.1) in
    let first = next_event applied ticked e lost.0 rest (rest_stamped applied ticked items rest has hold.stamped) (sym lost.1 ∙ hold.events_are) before in
    let same : ticks_of rest ≡ ticks_of first.0 = ap ticks_of first.1 in (
      first.0,
      first.1,
      record {
        stamped = next_moves items rest first.0 (item.Event e) first.1 hold.stamped;
        events_are = now ∙ first.2;
        ticks_are = subst (λ (v : List Tick). IsJoined v ring' (ticks_of first.0)) (sym vm_now)
            (subst (λ (r : List Tick). IsJoined vm_ticks r (ticks_of first.0)) (sym ring_now) (subst (λ (t : List Tick). IsJoined vm_ticks ring t) same hold.ticks_are));
      },
    )
the_next_is_the_first_of_the_rest applied ticked items rest (item.Tick t) events events' vm_ticks vm_ticks' ring ring' has next hold lost kept =
    let order : t.order ≡ applied = grind (arith, nat_tests, next) in
    let number : t.tick_number ≡ suc ticked = grind (arith, nat_tests, next) in
    let now : events' ≡ events = cc lost in
    let stamped = rest_stamped applied ticked items rest has hold.stamped in
    ⊎_elim
    (λ (l : LostFirst (Some vm_ticks) (Some vm_ticks') t × (Some ring' ≡ Some ring)).
    let vm_now : vm_ticks' ≡ l.0.0 = cc (l.0.2) in
    let ring_now : ring' ≡ ring = cc (l.1) in
    let first = next_tick applied ticked t l.0.0 ring rest stamped (subst (λ (v : List Tick). IsJoined v ring (ticks_of rest)) l.0.1 hold.ticks_are) order number in (
      first.0,
      first.1,
      record {
        stamped = next_moves items rest first.0 (item.Tick t) first.1 hold.stamped;
        events_are = now ∙ hold.events_are ∙ ap events_of first.1;
        ticks_are = subst (λ (v : List Tick). IsJoined v ring' (ticks_of first.0)) (sym vm_now) (subst (λ (r : List Tick). IsJoined l.0.0 r (ticks_of first.0)) (sym ring_now) first.2);
      },
    ))
    (λ (r : (Some vm_ticks' ≡ Some vm_ticks) × LostFirst (Some ring) (Some ring') t).
    let vm_now : vm_ticks' ≡ vm_ticks = cc (r.0) in
    let ring_now : ring' ≡ r.1.0 = cc (r.1.2) in
    let turned : IsJoined ring vm_ticks (ticks_of rest) = joined_turned vm_ticks ring (ticks_of rest) hold.ticks_are in
    let first = next_tick applied ticked t r.1.0 vm_ticks rest stamped (subst (λ (x : List Tick). IsJoined x vm_ticks (ticks_of rest)) r.1.1 turned) order number in (
      first.0,
      first.1,
      record {
        stamped = next_moves items rest first.0 (item.Tick t) first.1 hold.stamped;
        events_are = now ∙ hold.events_are ∙ ap events_of first.1;
        ticks_are = joined_turned ring' vm_ticks' (ticks_of first.0)
            (subst (λ (x : List Tick). IsJoined x vm_ticks' (ticks_of first.0)) (sym ring_now) (subst (λ (v : List Tick). IsJoined r.1.0 v (ticks_of first.0)) (sym vm_now) first.2));
      },
    )) kept
