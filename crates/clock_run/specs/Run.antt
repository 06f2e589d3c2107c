-- A run of a program on the step clock: where it is between its turns, and what it has come to.
use Rattle.std.specs.Prelude.{◌≡◌, List, [], ◌++◌, Bool, false, IfSome}
use Rattle.std.specs.List.{AllByRecursion}
use Rattle.guest_program.specs.declared.instr.Func.{Func}
use Rattle.code_event.specs.declared.event.Options.{Options}
use Rattle.code_event.specs.declared.tick.Item.{Item}
use Rattle.plain_machine.specs.PlainMachine.{plain}
use Rattle.isolate.specs.Fits.{Fits}
use Rattle.isolate.specs.PlainFile.{plain_files}
use Rattle.item_fold.specs.Delivered.{Delivers}
use Rattle.run_schedule.specs.Schedule.{IsLegalSchedule}
use Rattle.run_schedule.specs.declared.schedule.EndCause.{EndCause}
use Rattle.run_schedule.specs.declared.schedule.EndCause.TheVariants as cause
use Rattle.raised_so_far.specs.FileOrder.{ItemLeavesNoFile}
use Rattle.raised_so_far.specs.Raised.{EndsFor, IsRaised}
use Rattle.isolate_acts.specs.Progress.{Moment}
use Rattle.isolate_turns.specs.declared.state.IsoConfig.{IsoConfig}
use Rattle.processor.specs.Filing.{answer_of}
use Rattle.step_clock.specs.ClockTurns.{IsOnClock}
use Rattle.step_clock.specs.StepClock.{IsStepClock, last_step}
use Rattle.one_thread.specs.UnderWay.{IsCounted, IsUnderWay, Outlet, PlainIsolate, PlainProcessor, SameHead, first_progress}

-- Between turns, while the run goes on: its entries are those of the step clock so far, nothing was raised since the opening that leaves a file, and no sample is refused.
pub record IsGoing {S : Type 0} (funcs : List Func) (config : IsoConfig) (recording : Options) (begun : Bool) (before now : Outlet) (isolate : PlainIsolate) (processor : PlainProcessor S) : Type 0 where
  pub moment : Moment
  pub opening : List Item
  pub more : List Item
  pub way : IsUnderWay config.base funcs moment (opening ++ more) before now isolate processor
  pub on : IsOnClock recording begun isolate.progress
  pub opened : IsRaised funcs config.base [] 0 opening
  pub none_filed : AllByRecursion ItemLeavesNoFile more
  pub head : SameHead (first_progress config).schedule isolate.progress.schedule
  pub takes : isolate.ends.ring.refuses ≡ false

-- A run that has ended for this cause. Its schedule has the head that it was opened with, and ends so. Unless memory ran out in the run: the schedule is that of the step clock, it is legal and the program reaches its entries; the program has printed what the plain machine has at its end; and the files are the plain ones, delivered as far as the answer says. Where memory ran out, no file was delivered.
pub record HasEnded {S : Type 0} (funcs : List Func) (config : IsoConfig) (why : EndCause) (before now : Outlet) (isolate : PlainIsolate) (processor : PlainProcessor S) : Type 0 where
  pub head : SameHead (first_progress config).schedule isolate.progress.schedule
  pub ends : EndsFor why isolate.progress.schedule.entries
  pub clock : ¬ (why ≡ cause.Memory) → IsStepClock funcs config.base config.budget config.limit isolate.progress.schedule.entries
  pub legal : ¬ (why ≡ cause.Memory) → IsLegalSchedule isolate.progress.schedule
  pub fits : ¬ (why ≡ cause.Memory) → Fits funcs isolate.progress.schedule
  pub printed : ¬ (why ≡ cause.Memory) → isolate.printed.items ≡ (plain funcs (last_step isolate.progress.schedule.entries)).printed
  pub delivers :
      ¬ (why ≡ cause.Memory)
      → Delivers (plain_files funcs isolate.progress.schedule) (answer_of processor.course.filing.delivery processor.course.filing.is_spent) processor.course.filing.notes before.parts now.parts
  pub cut : why ≡ cause.Memory → IfSome before.parts (λ parts. parts.1 ≡ []) → now.parts ≡ before.parts
  pub counted : IsCounted processor.course.filing before now
