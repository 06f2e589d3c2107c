-- A step that is not done changes nothing.
use Rattle.std.proofs.Common.{◌≡◌, ◌≢◌, List, [], ◌∷◌, refl}
use Rattle.std.specs.Prelude.{Bool, true, false, Option, Some, None, if◌then◌else◌}
use Rattle.code_event.specs.declared.event.CodeEvent.{CodeEvent}
use Rattle.code_event.specs.declared.event.EventRecord.{EventRecord}
use Rattle.code_event.specs.declared.tick.Tick.{Tick}
use Rattle.pipe_core.specs.Core.{Outcome, outcome, done, answers, raise_event, push_vm_tick, slot_look, slot_write, slot_mark_full, mark_full, front_look, front_take, move_out, slot_mark_empty, take_event, event_taken, take_vm_tick, vm_tick_taken, is_full, back_cell, front_cell, tick_in}
use Rattle.pipe_core.specs.Next.{is_event_next, is_tick_next}
use Rattle.pipe_core.specs.Stamps.{event_stamp, tick_stamp}
use Rattle.pipe_core.specs.declared.world.CoreAnswer.{CoreAnswer}
use Rattle.pipe_core.specs.declared.world.CoreAnswer.TheVariants as answer
use Rattle.pipe_core.specs.declared.world.CoreStep.{CoreStep}
use Rattle.pipe_core.specs.declared.world.CoreStep.TheVariants as step
use Rattle.pipe_core.specs.declared.world.Fronting.{Fronting}
use Rattle.pipe_core.specs.declared.world.Fronting.TheVariants as fronting
use Rattle.pipe_core.specs.declared.world.Offering.{Offering}
use Rattle.pipe_core.specs.declared.world.Offering.TheVariants as offering
use Rattle.pipe_core.specs.declared.world.World.{World}

abbrev Keeps : World → Outcome → Type 0
Keeps w o = o.answer ≢ answer.Done → o.world ≡ w

by_test : (w : World) (b : Bool) (one other : Outcome) → Keeps w one → Keeps w other → Keeps w (if b then one else other)
by_test w true one other first second = first
by_test w false one other first second = second

was_done : (w after : World) → Keeps w (done after)
was_done w after = λ refused. absurd (refused refl)

was_refused : (w : World) (a : CoreAnswer) → Keeps w (answers w a)
was_refused w a = λ refused. refl

module _ (w : World) where
  event_keeps : (event : CodeEvent) (o : Offering) → Keeps w (raise_event w event o)
  event_keeps event offering.Idle = was_done w _
  event_keeps event (offering.Looked t) = λ refused. refl
  event_keeps event offering.Written = λ refused. refl

  vm_tick_keeps : (tick : Tick) (o : Offering) → Keeps w (push_vm_tick w tick o)
  vm_tick_keeps tick offering.Idle = was_done w _
  vm_tick_keeps tick (offering.Looked t) = λ refused. refl
  vm_tick_keeps tick offering.Written = λ refused. refl

  look_keeps : (tick : Tick) (o : Offering) → Keeps w (slot_look w tick o)
  look_keeps tick offering.Idle = by_test w (is_full (back_cell w)) _ _ (was_refused w (answer.Full tick)) (was_done w _)
  look_keeps tick (offering.Looked t) = λ refused. refl
  look_keeps tick offering.Written = λ refused. refl

  write_keeps : (o : Offering) → Keeps w (slot_write w o)
  write_keeps offering.Idle = λ refused. refl
  write_keeps (offering.Looked t) = was_done w _
  write_keeps offering.Written = λ refused. refl

  full_keeps : (o : Option Tick) → Keeps w (mark_full w o)
  full_keeps None = λ refused. refl
  full_keeps (Some t) = was_done w _

  mark_full_keeps : (o : Offering) → Keeps w (slot_mark_full w o)
  mark_full_keeps offering.Idle = λ refused. refl
  mark_full_keeps (offering.Looked t) = λ refused. refl
  mark_full_keeps offering.Written = full_keeps (tick_in (back_cell w))

  front_keeps : (f : Fronting) → Keeps w (front_look w f)
  front_keeps fronting.Idle = by_test w (is_full (front_cell w)) _ _ (was_done w _) (was_refused w answer.Empty)
  front_keeps fronting.Looked = λ refused. refl
  front_keeps (fronting.Held t) = λ refused. refl

  out_keeps : (o : Option Tick) → Keeps w (move_out w o)
  out_keeps None = λ refused. refl
  out_keeps (Some t) = was_done w _

  take_keeps : (f : Fronting) → Keeps w (front_take w f)
  take_keeps fronting.Idle = λ refused. refl
  take_keeps fronting.Looked = out_keeps (tick_in (front_cell w))
  take_keeps (fronting.Held t) = λ refused. refl

  mark_empty_keeps : (f : Fronting) → Keeps w (slot_mark_empty w f)
  mark_empty_keeps fronting.Idle = λ refused. refl
  mark_empty_keeps fronting.Looked = λ refused. refl
  mark_empty_keeps (fronting.Held t) = by_test w (is_tick_next w.applied w.ticked (tick_stamp t)) _ _ (was_done w _) (was_refused w answer.NotNext)

  event_taken_keeps : (events : List EventRecord) → Keeps w (event_taken w events)
  event_taken_keeps [] = λ refused. refl
  event_taken_keeps (e ∷ events) = by_test w (is_event_next w.applied w.ticked (event_stamp e)) _ _ (was_done w _) (was_refused w answer.NotNext)

  take_event_keeps : (f : Fronting) → Keeps w (take_event w f)
  take_event_keeps fronting.Idle = event_taken_keeps w.events
  take_event_keeps fronting.Looked = λ refused. refl
  take_event_keeps (fronting.Held t) = event_taken_keeps w.events

  vm_tick_taken_keeps : (ticks : List Tick) → Keeps w (vm_tick_taken w ticks)
  vm_tick_taken_keeps [] = λ refused. refl
  vm_tick_taken_keeps (t ∷ ticks) = by_test w (is_tick_next w.applied w.ticked (tick_stamp t)) _ _ (was_done w _) (was_refused w answer.NotNext)

  take_vm_tick_keeps : (f : Fronting) → Keeps w (take_vm_tick w f)
  take_vm_tick_keeps fronting.Idle = vm_tick_taken_keeps w.vm_ticks
  take_vm_tick_keeps fronting.Looked = λ refused. refl
  take_vm_tick_keeps (fronting.Held t) = vm_tick_taken_keeps w.vm_ticks

  step_keeps : (s : CoreStep) → Keeps w (outcome w s)
  step_keeps (step.RaiseEvent event) = event_keeps event w.offering
  step_keeps (step.PushVmTick tick) = vm_tick_keeps tick w.offering
  step_keeps (step.SlotLook tick) = look_keeps tick w.offering
  step_keeps step.SlotWrite = write_keeps w.offering
  step_keeps step.SlotMarkFull = mark_full_keeps w.offering
  step_keeps step.FrontLook = front_keeps w.fronting
  step_keeps step.FrontTake = take_keeps w.fronting
  step_keeps step.SlotMarkEmpty = mark_empty_keeps w.fronting
  step_keeps step.TakeEvent = take_event_keeps w.fronting
  step_keeps step.TakeVmTick = take_vm_tick_keeps w.fronting

pub refused_steps : (w : World) (s : CoreStep) → (outcome w s).answer ≢ answer.Done → (outcome w s).world ≡ w
refused_steps w s = step_keeps w s
