-- What is kept of a script while its text is read.
use Rattle.std.specs.Prelude.{◌≡◌, ℕ, suc, ◌≤◌, List, [], ◌∷◌, ◌++◌, map, filter, not, ◌==◌, nat_lt}
use Rattle.std.specs.List.{AllByRecursion}
use Rattle.std.specs.List.Sorted.{IsStrictlySortedBy}
use Rattle.std.specs.Ordering.{nat_cmp}
use Rattle.code_event.specs.declared.event.Command.{Command}
use Rattle.code_event.specs.declared.event.Command.TheVariants.{Start, Stop}
use Rattle.run_schedule.specs.Schedule.{Course, none_yet, course_on}
use Rattle.record_text.specs.declared.script.ScriptLine.{ScriptLine}
use Rattle.record_text.specs.ScriptRules.{script_entries, is_passed_by}

-- how many sessions were started, and the numbers of those that run
pub record SessionNumbers : Type 0 where
  pub started : ℕ
  pub running : List ℕ

-- before the first start
abbrev pub no_numbers : SessionNumbers
no_numbers = record { started = 0; running = [] }

-- after one more start
abbrev pub with_start : SessionNumbers → SessionNumbers
with_start sessions = record { started = suc sessions.started; running = sessions.running ++ suc sessions.started ∷ [] }

-- once this session no longer runs
abbrev pub without : SessionNumbers → ℕ → SessionNumbers
without sessions session = record { started = sessions.started; running = filter (λ number. not (number == session)) sessions.running }

abbrev pub numbers_after : SessionNumbers → Command → SessionNumbers
numbers_after sessions (Start options) = with_start sessions
numbers_after sessions (Stop session) = without sessions session.0

-- the numbers rise, and none is above that of the last start
pub record AreNumbered (started : ℕ) (running : List ℕ) : Type 0 where
  pub rising : IsStrictlySortedBy nat_cmp running
  pub bound : AllByRecursion (λ number. number ≤ started) running

-- the numbers of the sessions of a schedule
abbrev pub numbers_of : Course → SessionNumbers
numbers_of course = record { started = course.started; running = map (λ one. one.session) course.running }

-- the numbers of the sessions after these lines
abbrev pub numbers_on : List ScriptLine → SessionNumbers
numbers_on lines = numbers_of (course_on none_yet (script_entries lines))

-- a step is less than that of some line exactly where it is less than the latest
abbrev pub IsLatest : List ScriptLine → ℕ → Type 0
IsLatest lines latest = (step : ℕ) → is_passed_by step lines ≡ nat_lt step latest

-- the latest step and the sessions are those of the lines so far
pub record IsKept (lines : List ScriptLine) (latest : ℕ) (sessions : SessionNumbers) : Type 0 where
  pub is_latest : IsLatest lines latest
  pub numbers : sessions ≡ numbers_on lines
