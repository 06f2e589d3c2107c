-- The sessions that run, as they are kept by their numbers.
use Rattle.std.specs.Prelude.{ℕ, ◌≤◌, List, map}
use Rattle.std.specs.List.{AllByRecursion}
use Rattle.std.specs.List.Sorted.{IsStrictlySortedBy}
use Rattle.std.specs.Map.{keys_of}
use Rattle.std.specs.Ordering.{nat_cmp}
use Rattle.run_schedule.specs.Schedule.{Running}
use Rattle.record_text.specs.declared.schedule_sessions.RunningSession.{RunningSession}

-- a session by its number
abbrev pub running_of : ℕ × RunningSession → Running
running_of kept = record { session = kept.0; port = kept.1.port; interval = kept.1.interval }

-- sessions by their numbers, in the order of these
abbrev pub all_running : List (ℕ × RunningSession) → List Running
all_running kept = map running_of kept

-- the numbers rise, and none is above that of the last start
pub record AreNumbered (started : ℕ) (kept : List (ℕ × RunningSession)) : Type 0 where
  pub rising : IsStrictlySortedBy nat_cmp (keys_of kept)
  pub bound : AllByRecursion (λ one. one.0 ≤ started) kept
