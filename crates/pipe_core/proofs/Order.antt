-- A world that is kept is in order.
use Rattle.std.proofs.Common.{◌≡◌, drop, suc, List, [], ◌∷◌, ◌++◌, length, refl, ap, sym, subst, ◌∙◌, ⊎_elim, arith, append-nil}
use Rattle.std.proofs.lemmas.List.{drop_at}
use Rattle.std.proofs.lemmas.Bool.Decides.{nat_tests}
use Rattle.std.specs.Prelude.{Bool, true, false, Option, Some, None, option_map, if◌then◌else◌}
use Rattle.code_event.specs.ItemList.{IsStamped}
use Rattle.code_event.specs.declared.event.EventRecord.{EventRecord}
use Rattle.code_event.specs.declared.tick.Item.{Item}
use Rattle.code_event.specs.declared.tick.Item.TheVariants as item
use Rattle.code_event.specs.declared.tick.Tick.{Tick}
use Rattle.pipe_core.proofs.InOrder.{IsInOrder}
use Rattle.pipe_core.proofs.Joined.{joined_turned, joined_rising}
use Rattle.pipe_core.proofs.Kept.{IsKept, start_kept}
use Rattle.pipe_core.proofs.KeptLists.{HasLists, rest_stamped}
use Rattle.pipe_core.proofs.KeptRing.{HasRing}
use Rattle.pipe_core.proofs.Rings.{ring_front}
use Rattle.pipe_core.proofs.StampedRest.{behind_front, rest_rising}
use Rattle.pipe_core.proofs.EachStep.{run_kept}
use Rattle.pipe_core.specs.Core.{is_full, tick_in, front_cell}
use Rattle.pipe_core.specs.CoreOrder.{IsJoined, NoneIsNext, AreRising, front_of, not_taken, HasOtherTicks, AfterAnySteps}
use Rattle.pipe_core.specs.Next.{is_event_next, is_tick_next, is_shown}
use Rattle.pipe_core.specs.RingState.{IsRing}
use Rattle.pipe_core.specs.Stamps.{event_stamp, tick_stamp, ticks_of}
use Rattle.pipe_core.specs.Observed.{first_of}
use Rattle.pipe_core.specs.declared.world.Cell.{Cell}
use Rattle.pipe_core.specs.declared.world.Fronting.{Fronting}
use Rattle.pipe_core.specs.declared.world.Fronting.TheVariants as fronting
use Rattle.pipe_core.specs.declared.world.World.{World}

shows : (w : World) (t : Tick) (more gone : List Tick) (is_held : Bool) (offered : Option Tick) → w.removed ≡ length gone → is_held ≡ false → IsRing w.cells gone (t ∷ more) is_held offered
    → (if is_full (front_cell w) then tick_in (front_cell w) else None) ≡ Some t
shows w t more gone is_held offered removed free ring =
    let is : IsRing w.cells gone (t ∷ more) false offered = subst (λ (h : Bool). IsRing w.cells gone (t ∷ more) h offered) free ring in
    let cell : front_cell w ≡ Some (record { full = true; tick = Some t }) = ring_front w.cells gone more t offered w.removed removed is in
    ap (λ (c : Option Cell). if is_full c then tick_in c else None) cell

-- the front shows the first tick that waits in the ring
front_shows : (w : World) (t : Tick) (more : List Tick) (f : Fronting) → HasRing w.cells w.sent w.removed w.offering f (t ∷ more) → front_of w f ≡ Some t
front_shows w t more (fronting.Held x) has = sym has.held.1
front_shows w t more fronting.Idle has = shows w t more has.gone has.is_held has.offered has.removed_is has.held has.cells_are
front_shows w t more fronting.Looked has = shows w t more has.gone has.is_held has.offered has.removed_is has.held.0 has.cells_are

-- the first of the rest, if there is one, is next
none_left : (w : World) (rest : List Item) (ring : List Tick) → HasLists w.raised w.taken rest w.applied w.ticked w.events w.vm_ticks ring
    → HasRing w.cells w.sent w.removed w.offering w.fronting ring → NoneIsNext w → rest ≡ []
none_left w [] ring lists places none = refl
none_left w (item.Event e ∷ rest) ring lists places none =
    let stamps = rest_stamped w.raised w.taken (item.Event e ∷ rest) w.applied w.ticked w.events w.vm_ticks ring lists in
    let number : e.number ≡ suc w.applied = stamps.0 in
    let before : e.ticks_before ≡ w.ticked = stamps.1 in
    let next : is_event_next w.applied w.ticked (event_stamp e) ≡ true = grind (arith, nat_tests) in
    let shown : is_shown (is_event_next w.applied w.ticked) (option_map event_stamp (first_of w.events)) ≡ true =
    ap (λ (events : List EventRecord). is_shown (is_event_next w.applied w.ticked) (option_map event_stamp (first_of events))) lists.events_are ∙ next in
    absurd (cc (shown, none.event))
none_left w (item.Tick t ∷ rest) ring lists places none =
    let stamps = rest_stamped w.raised w.taken (item.Tick t ∷ rest) w.applied w.ticked w.events w.vm_ticks ring lists in
    let number : t.tick_number ≡ suc w.ticked = stamps.0 in
    let order : t.order ≡ w.applied = stamps.1 in
    let next : is_tick_next w.applied w.ticked (tick_stamp t) ≡ true = grind (arith, nat_tests) in
    let next_of : Option Tick → Bool = λ (o : Option Tick). is_shown (is_tick_next w.applied w.ticked) (option_map tick_stamp o) in
    ⊎_elim
    (λ (l : (more : List Tick) × (w.vm_ticks ≡ t ∷ more) × IsJoined more ring (ticks_of rest)).
    let shown : next_of (first_of w.vm_ticks) ≡ true = ap (λ (ticks : List Tick). next_of (first_of ticks)) l.1 ∙ next in
    absurd (cc (shown, none.vm_tick)))
    (λ (r : (more : List Tick) × (ring ≡ t ∷ more) × IsJoined w.vm_ticks more (ticks_of rest)).
    let front : front_of w w.fronting ≡ Some t = front_shows w t r.0 w.fronting (subst (HasRing w.cells w.sent w.removed w.offering w.fronting) r.1 places) in
    let shown : next_of (front_of w w.fronting) ≡ true = ap next_of front ∙ next in
    absurd (cc (shown, none.front))) lists.ticks_are

in_order : (w : World) → IsKept w → IsInOrder w
in_order w k =
    let lists = k.lists in
    let places = k.places in
    let rest_is = rest_stamped w.raised w.taken k.rest w.applied w.ticked w.events w.vm_ticks k.ring lists in
    let rises : AreRising w.ticked (ticks_of k.rest) = rest_rising w.applied w.ticked k.rest rest_is in
    record {
      stamped = lists.stamped;
      rest = k.rest;
      raised = lists.split;
      taken_stamped = behind_front 0 0 w.taken k.rest (subst IsStamped lists.split lists.stamped);
      applied = lists.applied_is;
      ticked = lists.ticked_is;
      events = lists.events_are;
      ring_taken = places.gone;
      ring = k.ring;
      ticks = lists.ticks_are;
      vm_rising = joined_rising w.ticked w.vm_ticks k.ring (ticks_of k.rest) lists.ticks_are rises;
      ring_rising = joined_rising w.ticked k.ring w.vm_ticks (ticks_of k.rest) (joined_turned w.vm_ticks k.ring (ticks_of k.rest) lists.ticks_are) rises;
      sent = places.sent_is;
      removed = places.removed_is;
      is_held = places.is_held;
      held = places.held;
      offered = places.offered;
      offering = places.offering;
      room = places.room;
      cells = places.cells_are;
      all_taken = λ none. sym (lists.split ∙ ap (λ (xs : List Item). w.taken ++ xs) (none_left w k.rest k.ring lists places none) ∙ append-nil w.taken);
    }

pub keeps_its_order : AfterAnySteps IsInOrder
keeps_its_order places steps some = in_order _ (run_kept steps _ (start_kept places some))

-- what was not taken is the rest
pub rest_is : (w : World) (is : IsInOrder w) → not_taken w ≡ is.rest
rest_is w is = ap (λ (xs : List Item). drop (length w.taken) xs) is.raised ∙ drop_at w.taken is.rest (length w.taken) refl

pub other_ticks : (w : World) → IsInOrder w → HasOtherTicks w
other_ticks w is = record {
  gone = is.ring_taken;
  waiting = is.ring;
  sent = is.sent;
  removed = is.removed;
  ticks = subst (λ (rest : List Item). IsJoined w.vm_ticks is.ring (ticks_of rest)) (sym (rest_is w is)) is.ticks;
  vm_rising = is.vm_rising;
  ring_rising = is.ring_rising;
  is_held = is.is_held;
  held = is.held;
  offered = is.offered;
  offering = is.offering;
  room = is.room;
  cells = is.cells;
}
