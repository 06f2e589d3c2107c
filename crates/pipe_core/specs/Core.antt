-- The core: what each step of an isolate and of its processor does to the world between them.
use Rattle.std.specs.Prelude.{ℕ, suc, ◌%◌, List, [], ◌∷◌, ◌++◌, length, replicate, slice_set, Bool, true, false, Option, Some, None, if◌then◌else◌}
use Rattle.std.specs.List.{slice_get}
use Rattle.code_event.specs.declared.event.CodeEvent.{CodeEvent}
use Rattle.code_event.specs.declared.event.EventRecord.{EventRecord}
use Rattle.code_event.specs.declared.tick.Item.TheVariants as item
use Rattle.code_event.specs.declared.tick.Tick.{Tick}
use Rattle.pipe_core.specs.Next.{is_event_next, is_tick_next}
use Rattle.pipe_core.specs.Stamps.{event_stamp, tick_stamp, event_after, tick_after}
use Rattle.pipe_core.specs.declared.world.Cell.{Cell}
use Rattle.pipe_core.specs.declared.world.CoreAnswer.{CoreAnswer}
use Rattle.pipe_core.specs.declared.world.CoreAnswer.TheVariants as answer
use Rattle.pipe_core.specs.declared.world.CoreStep.{CoreStep}
use Rattle.pipe_core.specs.declared.world.CoreStep.TheVariants as step
use Rattle.pipe_core.specs.declared.world.Fronting.{Fronting}
use Rattle.pipe_core.specs.declared.world.Fronting.TheVariants as fronting
use Rattle.pipe_core.specs.declared.world.Offering.{Offering}
use Rattle.pipe_core.specs.declared.world.Offering.TheVariants as offering
use Rattle.pipe_core.specs.declared.world.World.{World}

-- a slot that is marked empty and has nothing in it
abbrev pub empty_cell : Cell
empty_cell = record { full = false; tick = None }

-- nothing was raised, and all places of the ring are empty
abbrev pub start : ℕ → World
start places =
    record {
      raised = [];
      events = [];
      vm_ticks = [];
      cells = replicate places empty_cell;
      sent = 0;
      removed = 0;
      offering = offering.Idle;
      fronting = fronting.Idle;
      applied = 0;
      ticked = 0;
      taken = [];
    }

-- what a step does: the world after it, and the answer
pub record Outcome : Type 0 where
  pub world : World
  pub answer : CoreAnswer

-- the step was done, and this is the world after it
abbrev pub done : World → Outcome
done world = record { world = world; answer = answer.Done }

-- the world is unchanged, and this is the answer
abbrev pub answers : World → CoreAnswer → Outcome
answers world answer = record { world = world; answer = answer }

-- the step does not belong here, or its item is not next
abbrev pub not_next : World → Outcome
not_next world = answers world answer.NotNext

-- the place of the slot of the n-th tick that is sent, from 0
abbrev pub place : World → ℕ → ℕ
place world n = n % length world.cells

-- the slot is marked full
abbrev pub is_full : Option Cell → Bool
is_full None = false
is_full (Some cell) = cell.full

-- the tick that lies in the slot
abbrev pub tick_in : Option Cell → Option Tick
tick_in None = None
tick_in (Some cell) = cell.tick

-- the slot into which the next tick is sent
abbrev pub back_cell : World → Option Cell
back_cell world = slice_get world.cells (place world world.sent)

-- the slot from which the next tick is removed
abbrev pub front_cell : World → Option Cell
front_cell world = slice_get world.cells (place world world.removed)

-- the slots after the one of the n-th tick was changed to this
abbrev pub with_cell : World → ℕ → Cell → List Cell
with_cell world n cell = slice_set world.cells (place world n) cell

-- the event is stamped, and waits in its queue
abbrev pub raise_event : World → CodeEvent → Offering → Outcome
raise_event world event offering.Idle =
    let e = event_after world.raised event in
    done (record world { raised = world.raised ++ item.Event e ∷ []; events = world.events ++ e ∷ [] })
raise_event world event other = not_next world

-- the engine's tick is stamped, and waits in its queue
abbrev pub push_vm_tick : World → Tick → Offering → Outcome
push_vm_tick world tick offering.Idle =
    let t = tick_after world.raised tick in
    done (record world { raised = world.raised ++ item.Tick t ∷ []; vm_ticks = world.vm_ticks ++ t ∷ [] })
push_vm_tick world tick other = not_next world

-- an offer begins, unless its slot is marked full
abbrev pub slot_look : World → Tick → Offering → Outcome
slot_look world tick offering.Idle =
    if is_full (back_cell world) then answers world (answer.Full tick)
    else done (record world { offering = offering.Looked tick })
slot_look world tick other = not_next world

-- the tick is put into its slot, which is still marked empty
abbrev pub slot_write : World → Offering → Outcome
slot_write world (offering.Looked tick) =
    done (record world { cells = with_cell world world.sent (record { full = false; tick = Some tick }); offering = offering.Written })
slot_write world other = not_next world

-- the tick in the slot is stamped, and the slot is marked full: the tick is sent
abbrev pub mark_full : World → Option Tick → Outcome
mark_full world None = not_next world
mark_full world (Some tick) =
    let t = tick_after world.raised tick in
    done (
    record world {
      raised = world.raised ++ item.Tick t ∷ [];
      cells = with_cell world world.sent (record { full = true; tick = Some t });
      sent = suc world.sent;
      offering = offering.Idle;
    })

-- the slot of an offer is marked full
abbrev pub slot_mark_full : World → Offering → Outcome
slot_mark_full world offering.Written = mark_full world (tick_in (back_cell world))
slot_mark_full world other = not_next world

-- the marker of the front slot is read
abbrev pub front_look : World → Fronting → Outcome
front_look world fronting.Idle =
    if is_full (front_cell world) then done (record world { fronting = fronting.Looked })
    else answers world answer.Empty
front_look world other = not_next world

-- the tick moves out of its slot, which is still marked full
abbrev pub move_out : World → Option Tick → Outcome
move_out world None = not_next world
move_out world (Some tick) =
    done (record world { cells = with_cell world world.removed (record { full = true; tick = None }); fronting = fronting.Held tick })

-- the tick of a front slot that was read as full moves out of it
abbrev pub front_take : World → Fronting → Outcome
front_take world fronting.Looked = move_out world (tick_in (front_cell world))
front_take world other = not_next world

-- the held tick is taken, where it is next, and its slot is marked empty
abbrev pub slot_mark_empty : World → Fronting → Outcome
slot_mark_empty world (fronting.Held tick) =
    if is_tick_next world.applied world.ticked (tick_stamp tick)
    then done (
    record world {
      taken = world.taken ++ item.Tick tick ∷ [];
      ticked = suc world.ticked;
      cells = with_cell world world.removed empty_cell;
      removed = suc world.removed;
      fronting = fronting.Idle;
    })
    else not_next world
slot_mark_empty world other = not_next world

-- the first event that waits is taken, where it is next
abbrev pub event_taken : World → List EventRecord → Outcome
event_taken world [] = not_next world
event_taken world (e ∷ events) =
    if is_event_next world.applied world.ticked (event_stamp e)
    then done (record world { taken = world.taken ++ item.Event e ∷ []; applied = suc world.applied; events = events })
    else not_next world

-- an event may be taken unless the front was just read as full
abbrev pub take_event : World → Fronting → Outcome
take_event world fronting.Looked = not_next world
take_event world other = event_taken world world.events

-- the first tick of the engine that waits is taken, where it is next
abbrev pub vm_tick_taken : World → List Tick → Outcome
vm_tick_taken world [] = not_next world
vm_tick_taken world (t ∷ ticks) =
    if is_tick_next world.applied world.ticked (tick_stamp t)
    then done (record world { taken = world.taken ++ item.Tick t ∷ []; ticked = suc world.ticked; vm_ticks = ticks })
    else not_next world

-- a tick of the engine may be taken unless the front was just read as full
abbrev pub take_vm_tick : World → Fronting → Outcome
take_vm_tick world fronting.Looked = not_next world
take_vm_tick world other = vm_tick_taken world world.vm_ticks

-- what each step does
abbrev pub outcome : World → CoreStep → Outcome
outcome world (step.RaiseEvent event) = raise_event world event world.offering
outcome world (step.PushVmTick tick) = push_vm_tick world tick world.offering
outcome world (step.SlotLook tick) = slot_look world tick world.offering
outcome world step.SlotWrite = slot_write world world.offering
outcome world step.SlotMarkFull = slot_mark_full world world.offering
outcome world step.FrontLook = front_look world world.fronting
outcome world step.FrontTake = front_take world world.fronting
outcome world step.SlotMarkEmpty = slot_mark_empty world world.fronting
outcome world step.TakeEvent = take_event world world.fronting
outcome world step.TakeVmTick = take_vm_tick world world.fronting

-- the world after these steps
abbrev pub run : World → List CoreStep → World
run world [] = world
run world (step ∷ steps) = run (outcome world step).world steps
