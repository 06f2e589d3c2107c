-- The rules of a schedule. Each entry is checked against all entries before it.
use Rattle.std.specs.Prelude.{◌≡◌, ℕ, suc, ◌<◌, ◌≤◌, List, [], ◌∷◌, ◌++◌, length, filter, count_by, Contains, Bool, true, false, not, ◌||◌, ◌==◌, Some}
use Rattle.std.specs.List.{AllByRecursion}
use Rattle.code_event.specs.declared.event.TheConstants.{MAX_SESSIONS}
use Rattle.run_schedule.specs.declared.schedule.EndCause.{EndCause}
use Rattle.run_schedule.specs.declared.schedule.EndCause.TheVariants as cause
use Rattle.run_schedule.specs.declared.schedule.What.{What}
use Rattle.run_schedule.specs.declared.schedule.What.TheVariants.{Sampled, Dropped, Start, Stop, End}
use Rattle.run_schedule.specs.declared.schedule.ScheduleEntry.{ScheduleEntry}
use Rattle.run_schedule.specs.ScheduleParts.{ScheduleParts, port_of}

-- a session that runs: its number, the port that started it, and its interval
pub record Running : Type 0 where
  pub session : ℕ
  pub port : ℕ
  pub interval : ℕ

-- the number of sessions that were started, and those that run, in the order of their numbers
pub record Course : Type 0 where
  pub started : ℕ
  pub running : List Running

-- before the first entry
abbrev pub none_yet : Course
none_yet = record { started = 0; running = [] }

-- the sessions after one more entry; they are numbered in the order of their starts, from 1
abbrev pub course_after : Course → What → Course
course_after course (Start options) =
    record {
      started = suc course.started;
      running = course.running ++ record { session = suc course.started; port = options.port; interval = options.interval } ∷ [];
    }
course_after course (Stop port session) = record course { running = filter (λ running. not (running.session == session.0)) course.running }
course_after course other = course

abbrev pub course_on : Course → List ScheduleEntry → Course
course_on course [] = course
course_on course (entry ∷ entries) = course_on (course_after course entry.what) entries

-- the sessions that run after these entries
abbrev pub running_after : List ScheduleEntry → List Running
running_after entries = (course_on none_yet entries).running

-- whether it is a sample, taken or dropped
abbrev pub is_sample : What → Bool
is_sample Sampled = true
is_sample Dropped = true
is_sample other = false

abbrev pub is_sampled : What → Bool
is_sampled Sampled = true
is_sampled other = false

abbrev pub is_end : What → Bool
is_end (End cause) = true
is_end other = false

-- the rule Order, of an entry and one before it: neither step nor time falls, nothing follows an end, only an end follows a sample at the same step, and the commands at one step are in the order of their ports
pub record MayStandBehind (entry before : ScheduleEntry) : Type 0 where
  pub step : before.step ≤ entry.step
  pub time : before.time ≤ entry.time
  pub going_on : is_end before.what ≡ false
  pub one_sample : before.step ≡ entry.step → is_sample before.what ≡ true → is_end entry.what ≡ true
  pub ports : (earlier later : ℕ) → before.step ≡ entry.step → port_of before.what ≡ Some earlier → port_of entry.what ≡ Some later → earlier ≤ later

abbrev pub IsInOrder : List ScheduleEntry → ScheduleEntry → Type 0
IsInOrder before entry = AllByRecursion (MayStandBehind entry) before

-- the rule Session, while these run: a sample is taken or dropped only while some session runs, at most 100 run at once, and a session is stopped while it runs, from the port that started it
abbrev pub HasSession : List Running → What → Type 0
HasSession running Sampled = 1 ≤ length running
HasSession running Dropped = 1 ≤ length running
HasSession running (Start options) = length running < MAX_SESSIONS
HasSession running (Stop port session) = (interval : ℕ) × Contains running (record { session = session.0; port = port; interval = interval })
HasSession running (End cause) = Unit {0}

-- the last of these entries is at this step
abbrev pub IsAtLastStep : List ScheduleEntry → ℕ → Type 0
IsAtLastStep [] step = Unit {0}
IsAtLastStep (entry ∷ []) step = entry.step ≡ step
IsAtLastStep (entry ∷ next ∷ entries) step = IsAtLastStep (next ∷ entries) step

-- the rule Limit of an entry with this number that is not an end: it leaves room for an end, and its step is below the budget
abbrev pub LeavesRoom : ScheduleParts → ℕ → ℕ → Type 0
LeavesRoom schedule number step = (number < schedule.limit) × (step < schedule.budget)

-- the rule Limit of an end with this number: its cause is `full` exactly where it takes the last place, and then it has the step of the entry before it; its cause is `budget` only where the steps have reached the budget
abbrev pub IsEndWithin : ScheduleParts → List ScheduleEntry → ℕ → ℕ → EndCause → Type 0
IsEndWithin schedule before number step cause.Full = (number ≡ schedule.limit) × IsAtLastStep before step × (step ≤ schedule.budget)
IsEndWithin schedule before number step cause.Budget = (number < schedule.limit) × (step ≡ schedule.budget)
IsEndWithin schedule before number step other = (number < schedule.limit) × (step ≤ schedule.budget)

-- the rule Limit: before a sample is dropped, at least as many were taken as the ring has places
abbrev pub IsWithinLimits : ScheduleParts → List ScheduleEntry → ℕ → What → Type 0
IsWithinLimits schedule before step Dropped = LeavesRoom schedule (suc (length before)) step × (schedule.ring ≤ count_by (λ entry. is_sampled entry.what) before)
IsWithinLimits schedule before step (End cause) = IsEndWithin schedule before (suc (length before)) step cause
IsWithinLimits schedule before step other = LeavesRoom schedule (suc (length before)) step

-- an entry keeps the rules after these
pub record MayFollow (schedule : ScheduleParts) (before : List ScheduleEntry) (entry : ScheduleEntry) : Type 0 where
  pub order : IsInOrder before entry
  pub session : HasSession (running_after before) entry.what
  pub limit : IsWithinLimits schedule before entry.step entry.what

-- each of these entries keeps the rules after those before it, the first after `before`
abbrev pub EachMayFollow : ScheduleParts → List ScheduleEntry → List ScheduleEntry → Type 0
EachMayFollow schedule before [] = Unit {0}
EachMayFollow schedule before (entry ∷ entries) = MayFollow schedule before entry × EachMayFollow schedule (before ++ entry ∷ []) entries

abbrev pub has_end : List ScheduleEntry → Bool
has_end [] = false
has_end (entry ∷ entries) = is_end entry.what || has_end entries

-- a schedule that has an end, and whose entries keep the rules Order, Session and Limit
pub record IsLegalSchedule (schedule : ScheduleParts) : Type 0 where
  pub each : EachMayFollow schedule [] schedule.entries
  pub ended : has_end schedule.entries ≡ true
