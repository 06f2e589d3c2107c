-- A run of a program by a schedule: where it is between its turns, and what it has come to.
use Rattle.std.specs.Prelude.{◌≡◌, List, ◌++◌}
use Rattle.guest_program.specs.declared.instr.Func.{Func}
use Rattle.code_event.specs.declared.tick.Item.{Item}
use Rattle.plain_machine.specs.PlainMachine.{plain}
use Rattle.isolate.specs.PlainFile.{plain_files}
use Rattle.isolate.specs.RunLaws.{last_step}
use Rattle.item_fold.specs.Delivered.{Delivers}
use Rattle.run_schedule.specs.ScheduleParts.{ScheduleParts}
use Rattle.run_schedule.specs.declared.schedule.EndCause.{EndCause}
use Rattle.run_schedule.specs.declared.schedule.EndCause.TheVariants as cause
use Rattle.run_schedule.specs.declared.schedule.ScheduleEntry.{ScheduleEntry}
use Rattle.raised_so_far.specs.Raised.{EndsFor}
use Rattle.isolate_acts.specs.Progress.{Moment}
use Rattle.processor.specs.Filing.{answer_of}
use Rattle.schedule_ports.specs.ScheduleTurns.{IsOnSchedule, MayReplay}
use Rattle.one_thread.specs.UnderWay.{IsCounted, IsUnderWay, Outlet, PlainIsolate, PlainProcessor}

-- Between turns, while the run goes on: its entries so far and those that are left are those of the schedule.
pub record IsReplaying {S : Type 0} (funcs : List Func) (schedule : ScheduleParts) (left : List ScheduleEntry) (before now : Outlet) (isolate : PlainIsolate) (processor : PlainProcessor S) : Type 0 where
  pub may : MayReplay funcs schedule
  pub moment : Moment
  pub raised : List Item
  pub way : IsUnderWay schedule.base funcs moment raised before now isolate processor
  pub on : IsOnSchedule schedule left isolate.progress

-- A run that has ended for this cause. Unless memory ran out in it, its schedule is the one that it followed, the program has printed what the plain machine has at its end, and the files are the plain ones of this schedule, delivered as far as the answer says. Where memory ran out, what it has entered is the beginning of the schedule and that end.
pub record HasReplayed {S : Type 0} (funcs : List Func) (schedule : ScheduleParts) (why : EndCause) (before now : Outlet) (isolate : PlainIsolate) (processor : PlainProcessor S) : Type 0 where
  pub ends : EndsFor why isolate.progress.schedule.entries
  pub same : ¬ (why ≡ cause.Memory) → isolate.progress.schedule ≡ schedule
  pub begins : (rest : List ScheduleEntry) × (schedule.entries ≡ ends.0 ++ rest)
  pub printed : ¬ (why ≡ cause.Memory) → isolate.printed.items ≡ (plain funcs (last_step schedule.entries)).printed
  pub delivers :
      ¬ (why ≡ cause.Memory)
      → Delivers (plain_files funcs schedule) (answer_of processor.course.filing.delivery processor.course.filing.is_spent) processor.course.filing.notes before.parts now.parts
  pub counted : IsCounted processor.course.filing before now
