-- The items that a run has raised, by the guest's program, the entries of the schedule and the steps that were done.
use Rattle.std.specs.Prelude.{◌≡◌, ℕ, ◌≤◌, List, [], ◌∷◌, ◌++◌, true}
use Rattle.std.specs.List.{AllByRecursion}
use Rattle.prof_base.specs.declared.ids.SessionId.{SessionId}
use Rattle.guest_program.specs.declared.instr.Func.{Func}
use Rattle.code_event.specs.DeoptReasons.{reasons as reasons_after_events}
use Rattle.code_event.specs.FileLaws.{IsOpenItem}
use Rattle.code_event.specs.ItemFile.{item_file}
use Rattle.code_event.specs.ItemList.{IsStamped, IsLegalItems}
use Rattle.code_event.specs.MomentLaws.{events_of}
use Rattle.code_event.specs.Seen.{seen_items}
use Rattle.code_event.specs.declared.entry.Entry.{Entry}
use Rattle.code_event.specs.declared.tick.Item.{Item}
use Rattle.plain_machine.specs.PlainMachine.{plain}
use Rattle.plain_machine.specs.PlainFrames.{reasons_of}
use Rattle.run_schedule.specs.Schedule.{none_yet, course_on}
use Rattle.run_schedule.specs.ScheduleParts.{ScheduleParts}
use Rattle.run_schedule.specs.declared.schedule.EndCause.{EndCause}
use Rattle.run_schedule.specs.declared.schedule.EndCause.TheVariants as cause
use Rattle.run_schedule.specs.declared.schedule.What.TheVariants.{End}
use Rattle.run_schedule.specs.declared.schedule.ScheduleEntry.{ScheduleEntry}
use Rattle.isolate.specs.PlainFile.{plain_file, seen_run}
use Rattle.isolate.specs.RunLaws.{last_step, last_time}
use Rattle.raised_so_far.specs.EntriesSoFar.{has_stop, seen_so_far}
use Rattle.raised_so_far.specs.ItemsSoFar.{list_so_far, SameSessions}

-- What was raised is stamped and legal, and no finish is among it. Its times are not above the last entry's, and its sessions are those of the entries. What is seen of it is what is seen of the entries and of the steps so far, and its reasons are the machine's.
pub record IsRaised (funcs : List Func) (base : ℕ) (entries : List ScheduleEntry) (step : ℕ) (raised : List Item) : Type 0 where
  pub stamped : IsStamped raised
  pub legal : IsLegalItems raised
  pub unfinished : AllByRecursion IsOpenItem raised
  pub time : (list_so_far raised).time ≤ last_time entries
  pub sessions : SameSessions (list_so_far raised) (course_on none_yet entries)
  pub reached : last_step entries ≤ step
  pub seen : seen_items raised ≡ seen_so_far funcs base entries step
  pub reasons : (entry : Entry) → reasons_after_events (events_of raised) entry ≡ reasons_of funcs (plain funcs step) entry

-- the last of the entries is an end for this cause
abbrev pub EndsFor : EndCause → List ScheduleEntry → Type 0
EndsFor cause entries = (before : List ScheduleEntry) × (step : ℕ) × (time : ℕ) × (entries ≡ before ++ record { step = step; time = time; what = End cause } ∷ [])

-- What was raised of a run that has ended. It is stamped and legal. Unless the run ended out of memory, what is seen of it is what is seen of the run. Each session that the schedule stops has its file.
pub record IsWhole (funcs : List Func) (schedule : ScheduleParts) (raised : List Item) : Type 0 where
  pub stamped : IsStamped raised
  pub legal : IsLegalItems raised
  pub seen : ¬ EndsFor cause.Memory schedule.entries → seen_items raised ≡ seen_run funcs schedule
  pub files : (number : SessionId) → has_stop number.0 schedule.entries ≡ true → item_file schedule.base raised number ≡ plain_file funcs schedule number
