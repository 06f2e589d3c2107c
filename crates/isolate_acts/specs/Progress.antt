-- How far an isolate is, apart from its guest and its queues.
use Rattle.std.specs.Prelude.{ℕ, suc, ◌+◌, ◌-◌, ◌^◌, ◌<◌, ◌≤◌, ◌==◌, List, [], ◌∷◌, ◌++◌, length, min, max, Bool, not, Option, is_none}
use Rattle.prof_base.specs.declared.ids.SessionId.{SessionId}
use Rattle.guest_program.specs.declared.instr.Func.{Func}
use Rattle.code_event.specs.declared.code_map.Range.{Range}
use Rattle.code_event.specs.declared.tick.VmState.{VmState}
use Rattle.run_schedule.specs.Schedule.{Running, running_after}
use Rattle.run_schedule.specs.ScheduleParts.{ScheduleParts, IsInRange}
use Rattle.run_schedule.specs.Source.{source_for}
use Rattle.run_schedule.specs.declared.schedule.EndCause.{EndCause}
use Rattle.run_schedule.specs.declared.schedule.ScheduleEntry.{ScheduleEntry}
use Rattle.run_schedule.specs.declared.schedule.What.{What}
use Rattle.isolate.specs.RunLaws.{last_time}
use Rattle.raised_so_far.specs.Laws.{next_number}

-- A guest at a moment: its program, the steps that it has done, the ranges of its code by the events that it has raised, the state of its engine, and the addresses on its stack.
pub record Moment : Type 0 where
  pub funcs : List Func
  pub steps : ℕ
  pub code : List Range
  pub state : VmState
  pub stack : List ℕ

-- How far an isolate is: its schedule so far; how many steps were done, and how many events and ticks were raised; whether a sample was entered at this step; and the cause of its end, if it has ended.
pub record Progress : Type 0 where
  pub schedule : ScheduleParts
  pub step : ℕ
  pub events : ℕ
  pub ticks : ℕ
  pub is_sampled : Bool
  pub ending : Option EndCause

-- the number of entries
abbrev pub entry_count : Progress → ℕ
entry_count progress = length progress.schedule.entries

-- one place is left in the schedule
abbrev pub is_filled : Progress → Bool
is_filled progress = suc (entry_count progress) == progress.schedule.limit

-- no end was entered
abbrev pub goes_on : Progress → Bool
goes_on progress = is_none progress.ending

-- the sessions that run
abbrev pub running_now : Progress → List Running
running_now progress = running_after progress.schedule.entries

-- some session runs
abbrev pub some_runs : Progress → Bool
some_runs progress = not (length (running_now progress) == 0)

-- the source interval of the sessions that run
abbrev pub source_now : Progress → ℕ
source_now progress = source_for progress.schedule.base (running_now progress)

-- the number of the next session
abbrev pub next_session : Progress → SessionId
next_session progress = next_number progress.schedule.entries

-- the time of an entry by a reading of the clock: the greater of the reading and the last entry's time, below 2 ^ 53
abbrev pub entry_time : Progress → ℕ → ℕ
entry_time progress now = min (max now (last_time progress.schedule.entries)) (2 ^ 53 - 1)

-- an entry at the step reached, by a reading of the clock
abbrev pub entry_now : Progress → ℕ → What → ScheduleEntry
entry_now progress now what = record { step = progress.step; time = entry_time progress now; what = what }

-- the entry is put into the schedule
abbrev pub with_entry : Progress → ScheduleEntry → Progress
with_entry progress entry = record progress { schedule = record progress.schedule { entries = progress.schedule.entries ++ entry ∷ [] } }

-- what always holds: the numbers are in their ranges
pub record IsWithin (progress : Progress) : Type 0 where
  pub schedule : IsInRange progress.schedule
  pub step : progress.step ≤ progress.schedule.budget
  pub time : last_time progress.schedule.entries < 2 ^ 53
  pub ticks : progress.ticks ≤ progress.step + entry_count progress
