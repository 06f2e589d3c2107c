-- Each step keeps the world in order.
use Rattle.std.proofs.Common.{◌≡◌, List, [], ◌∷◌, ◌++◌, refl, sym, subst}
use Rattle.std.specs.Prelude.{Bool, true, false, Option, Some, if◌then◌else◌}
use Rattle.code_event.specs.declared.event.CodeEvent.{CodeEvent}
use Rattle.code_event.specs.declared.event.EventRecord.{EventRecord}
use Rattle.code_event.specs.declared.tick.Item.TheVariants as item
use Rattle.code_event.specs.declared.tick.Tick.{Tick}
use Rattle.pipe_core.proofs.Kept.{IsKept}
use Rattle.pipe_core.proofs.KeptLists.{event_raised, vm_tick_raised, ring_tick_raised, event_goes, vm_tick_goes, ring_tick_goes}
use Rattle.pipe_core.proofs.KeptRing.{HasRing, looked, written, under_offer, marked_full, front_looked, moved_out, emptied}
use Rattle.pipe_core.specs.Core.{Outcome, outcome, raise_event, push_vm_tick, slot_look, slot_write, slot_mark_full, mark_full, front_look, front_take, move_out, slot_mark_empty, take_event, event_taken, take_vm_tick, vm_tick_taken, is_full, back_cell, front_cell, run}
use Rattle.pipe_core.specs.Next.{is_event_next, is_tick_next}
use Rattle.pipe_core.specs.Stamps.{event_stamp, tick_stamp, event_after, tick_after}
use Rattle.pipe_core.specs.declared.world.CoreStep.{CoreStep}
use Rattle.pipe_core.specs.declared.world.CoreStep.TheVariants as step
use Rattle.pipe_core.specs.declared.world.Fronting.{Fronting}
use Rattle.pipe_core.specs.declared.world.Fronting.TheVariants as fronting
use Rattle.pipe_core.specs.declared.world.Offering.{Offering}
use Rattle.pipe_core.specs.declared.world.Offering.TheVariants as offering
use Rattle.pipe_core.specs.declared.world.World.{World}

-- by a test, with what it said
by_test : (b : Bool) (one other : Outcome) → (b ≡ true → IsKept one.world) → (b ≡ false → IsKept other.world) → IsKept ((if b then one else other).world)
by_test true one other when_true when_false = when_true refl
by_test false one other when_true when_false = when_false refl

module _ (w : World) (k : IsKept w) where
  event_kept : (event : CodeEvent) (o : Offering) → IsKept (raise_event w event o).world
  event_kept event offering.Idle = record {
    rest = k.rest ++ item.Event (event_after w.raised event) ∷ [];
    ring = k.ring;
    lists = event_raised w.raised w.taken k.rest w.applied w.ticked w.events w.vm_ticks k.ring k.lists event;
    places = k.places;
  }
  event_kept event (offering.Looked t) = k
  event_kept event offering.Written = k

  vm_tick_kept : (tick : Tick) (o : Offering) → IsKept (push_vm_tick w tick o).world
  vm_tick_kept tick offering.Idle = record {
    rest = k.rest ++ item.Tick (tick_after w.raised tick) ∷ [];
    ring = k.ring;
    lists = vm_tick_raised w.raised w.taken k.rest w.applied w.ticked w.events w.vm_ticks k.ring k.lists tick;
    places = k.places;
  }
  vm_tick_kept tick (offering.Looked t) = k
  vm_tick_kept tick offering.Written = k

  look_kept : (tick : Tick) (o : Offering) → w.offering ≡ o → IsKept (slot_look w tick o).world
  look_kept tick offering.Idle is =
      by_test (is_full (back_cell w)) _ _ (λ full. k)
      (λ free. record {
        rest = k.rest;
        ring = k.ring;
        lists = k.lists;
        places = looked w.cells w.sent w.removed w.offering w.fronting k.ring k.places tick is free;
      })
  look_kept tick (offering.Looked t) is = k
  look_kept tick offering.Written is = k

  write_kept : (o : Offering) → w.offering ≡ o → IsKept (slot_write w o).world
  write_kept offering.Idle is = k
  write_kept (offering.Looked tick) is = record {
    rest = k.rest;
    ring = k.ring;
    lists = k.lists;
    places = written w.cells w.sent w.removed w.offering w.fronting k.ring k.places tick is;
  }
  write_kept offering.Written is = k

  mark_kept : (tick : Tick) → w.offering ≡ offering.Written → IsKept (mark_full w (Some tick)).world
  mark_kept tick is = record {
    rest = k.rest ++ item.Tick (tick_after w.raised tick) ∷ [];
    ring = k.ring ++ tick_after w.raised tick ∷ [];
    lists = ring_tick_raised w.raised w.taken k.rest w.applied w.ticked w.events w.vm_ticks k.ring k.lists tick;
    places = marked_full w.cells w.sent w.removed w.offering w.fronting k.ring k.places (tick_after w.raised tick) is;
  }

  mark_full_kept : (o : Offering) → w.offering ≡ o → IsKept (slot_mark_full w o).world
  mark_full_kept offering.Idle is = k
  mark_full_kept (offering.Looked t) is = k
  mark_full_kept offering.Written is =
      let under = under_offer w.cells w.sent w.removed w.offering w.fronting k.ring k.places is in
      subst (λ (o : Option Tick). IsKept (mark_full w o).world) (sym under.1) (mark_kept under.0 is)

  front_kept : (f : Fronting) → w.fronting ≡ f → IsKept (front_look w f).world
  front_kept fronting.Idle is =
      by_test (is_full (front_cell w)) _ _
      (λ full. record {
        rest = k.rest;
        ring = k.ring;
        lists = k.lists;
        places = front_looked w.cells w.sent w.removed w.offering w.fronting k.ring k.places is full;
      })
      (λ free. k)
  front_kept fronting.Looked is = k
  front_kept (fronting.Held t) is = k

  take_kept : (f : Fronting) → w.fronting ≡ f → IsKept (front_take w f).world
  take_kept fronting.Idle is = k
  take_kept fronting.Looked is =
      let out = moved_out w.cells w.sent w.removed w.offering k.ring (subst (λ f. HasRing w.cells w.sent w.removed w.offering f k.ring) is k.places) in
      let after : IsKept (move_out w (Some out.0)).world = record { rest = k.rest; ring = k.ring; lists = k.lists; places = out.2 } in
      subst (λ (o : Option Tick). IsKept (move_out w o).world) (sym out.1) after
  take_kept (fronting.Held t) is = k

  mark_empty_kept : (f : Fronting) → w.fronting ≡ f → IsKept (slot_mark_empty w f).world
  mark_empty_kept fronting.Idle is = k
  mark_empty_kept fronting.Looked is = k
  mark_empty_kept (fronting.Held tick) is =
      by_test (is_tick_next w.applied w.ticked (tick_stamp tick)) _ _
      (λ next.
      let gone = emptied w.cells w.sent w.removed w.offering k.ring tick (subst (λ f. HasRing w.cells w.sent w.removed w.offering f k.ring) is k.places) in
      let lists = ring_tick_goes w.raised w.taken k.rest w.applied w.ticked w.events w.vm_ticks k.ring k.lists tick gone.0 gone.1 next in
      record { rest = lists.0; ring = gone.0; lists = lists.1; places = gone.2 })
      (λ other. k)

  event_taken_kept : (events : List EventRecord) → w.events ≡ events → IsKept (event_taken w events).world
  event_taken_kept [] is = k
  event_taken_kept (e ∷ events) is =
      by_test (is_event_next w.applied w.ticked (event_stamp e)) _ _
      (λ next.
      let lists = event_goes w.raised w.taken k.rest w.applied w.ticked w.events w.vm_ticks k.ring k.lists e events is next in
      record { rest = lists.0; ring = k.ring; lists = lists.1; places = k.places })
      (λ other. k)

  take_event_kept : (f : Fronting) → IsKept (take_event w f).world
  take_event_kept fronting.Idle = event_taken_kept w.events refl
  take_event_kept fronting.Looked = k
  take_event_kept (fronting.Held t) = event_taken_kept w.events refl

  vm_tick_taken_kept : (ticks : List Tick) → w.vm_ticks ≡ ticks → IsKept (vm_tick_taken w ticks).world
  vm_tick_taken_kept [] is = k
  vm_tick_taken_kept (t ∷ ticks) is =
      by_test (is_tick_next w.applied w.ticked (tick_stamp t)) _ _
      (λ next.
      let lists = vm_tick_goes w.raised w.taken k.rest w.applied w.ticked w.events w.vm_ticks k.ring k.lists t ticks is next in
      record { rest = lists.0; ring = k.ring; lists = lists.1; places = k.places })
      (λ other. k)

  take_vm_tick_kept : (f : Fronting) → IsKept (take_vm_tick w f).world
  take_vm_tick_kept fronting.Idle = vm_tick_taken_kept w.vm_ticks refl
  take_vm_tick_kept fronting.Looked = k
  take_vm_tick_kept (fronting.Held t) = vm_tick_taken_kept w.vm_ticks refl

  step_kept : (s : CoreStep) → IsKept (outcome w s).world
  step_kept (step.RaiseEvent event) = event_kept event w.offering
  step_kept (step.PushVmTick tick) = vm_tick_kept tick w.offering
  step_kept (step.SlotLook tick) = look_kept tick w.offering refl
  step_kept step.SlotWrite = write_kept w.offering refl
  step_kept step.SlotMarkFull = mark_full_kept w.offering refl
  step_kept step.FrontLook = front_kept w.fronting refl
  step_kept step.FrontTake = take_kept w.fronting refl
  step_kept step.SlotMarkEmpty = mark_empty_kept w.fronting refl
  step_kept step.TakeEvent = take_event_kept w.fronting
  step_kept step.TakeVmTick = take_vm_tick_kept w.fronting

pub run_kept : (steps : List CoreStep) (w : World) → IsKept w → IsKept (run w steps)
run_kept [] w k = k
run_kept (s ∷ steps) w k = run_kept steps (outcome w s).world (step_kept w k s)
