-- The list of items that an isolate stands for.
use Rattle.std.specs.Prelude.{◌≡◌, List, Option, Some, None}
use Rattle.guest_program.specs.declared.instr.Func.{Func}
use Rattle.code_event.specs.CodeMap.{ranges}
use Rattle.code_event.specs.MomentLaws.{events_of}
use Rattle.code_event.specs.Symbolizer.{frames_over}
use Rattle.code_event.specs.declared.tick.Item.{Item}
use Rattle.plain_machine.specs.PlainMachine.{plain}
use Rattle.plain_machine.specs.PlainFrames.{plain_frames}
use Rattle.pipe_core.specs.Stamps.{event_count, tick_count}
use Rattle.run_schedule.specs.declared.schedule.EndCause.{EndCause}
use Rattle.raised_so_far.specs.Raised.{IsRaised, IsWhole}
use Rattle.isolate_acts.specs.Progress.{Moment, Progress}

-- the stack of the guest, read through the ranges of its code, is the plain machine's after its steps
abbrev pub IsMoment : Moment → Type 0
IsMoment moment = frames_over moment.code moment.state moment.stack ≡ plain_frames moment.funcs (plain moment.funcs moment.steps)

-- All that was raised while the isolate goes on: it is what the program raises with the entries so far and after this many steps. The guest's code is by its events, and its events and ticks are counted.
pub record IsGoing (funcs : List Func) (moment : Moment) (progress : Progress) (raised : List Item) : Type 0 where
  pub funcs_are : moment.funcs ≡ funcs
  pub raised_is : IsRaised funcs progress.schedule.base progress.schedule.entries progress.step raised
  pub code_is : moment.code ≡ ranges (events_of raised)
  pub step_is : progress.step ≡ moment.steps
  pub events_are : progress.events ≡ event_count raised
  pub ticks_are : progress.ticks ≡ tick_count raised

-- All that was raised, by the end that was entered, if any. After the end nothing is said of the guest.
abbrev pub StandsAt : Option EndCause → List Func → Moment → Progress → List Item → Type 0
StandsAt None funcs moment progress raised = IsGoing funcs moment progress raised
StandsAt (Some cause) funcs moment progress raised = IsWhole funcs progress.schedule raised

-- the isolate of this program stands for what was raised
abbrev pub StandsFor : List Func → Moment → Progress → List Item → Type 0
StandsFor funcs moment progress raised = StandsAt progress.ending funcs moment progress raised
