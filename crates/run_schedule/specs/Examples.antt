-- Small schedules that were checked against the rules by hand.
use Rattle.std.proofs.Common.{lit≤}
use Rattle.std.specs.Prelude.{ℕ, ◌≤◌, List, [], ◌∷◌, None}
use Rattle.prof_base.specs.declared.interval.TheConstants.{MAX_INTERVAL}
use Rattle.code_event.specs.declared.event.Mode.TheVariants.{Leaf}
use Rattle.code_event.specs.ItemFile.{session}
use Rattle.run_schedule.specs.declared.schedule.EndCause.TheVariants as cause
use Rattle.run_schedule.specs.declared.schedule.What.{What}
use Rattle.run_schedule.specs.declared.schedule.What.TheVariants.{Sampled, Dropped, Start, Stop, End}
use Rattle.run_schedule.specs.declared.schedule.ScheduleEntry.{ScheduleEntry}
use Rattle.run_schedule.specs.ScheduleParts.{ScheduleParts}

-- a start from port 0 of a session that lists all its samples
abbrev pub start_every : (interval : ℕ) → 1 ≤ interval → interval ≤ MAX_INTERVAL → What
start_every interval low high = Start (record { port = 0; interval = interval; mode = Leaf; max_samples = None; low = low; high = high })

-- what happens at a step, with the step as its time in microseconds
abbrev pub at : ℕ → What → ScheduleEntry
at step what = record { step = step; time = step; what = what }

-- a session of interval 1 is started before the first step
abbrev pub started : ScheduleEntry
started = at 0 (start_every 1 (lit≤ tt) (lit≤ tt))

-- these entries, where the ring has one place and there are at most ten steps and five entries
abbrev pub with_entries : List ScheduleEntry → ScheduleParts
with_entries entries = record { base = 1; ring = 1; budget = 10; limit = 5; entries = entries }

-- an end for the cause `full` takes the last place
abbrev pub full_at_its_limit : ScheduleParts
full_at_its_limit = with_entries (started ∷ at 1 Sampled ∷ at 2 Dropped ∷ at 3 (Stop 0 (session 1)) ∷ at 3 (End cause.Full) ∷ [])

-- the program halts while there is room for more entries
abbrev pub halted_with_room : ScheduleParts
halted_with_room = with_entries (started ∷ at 1 Sampled ∷ at 2 (End cause.Halt) ∷ [])

-- a sample is dropped while the ring has a place for it
abbrev pub dropped_with_room : ScheduleParts
dropped_with_room = with_entries (started ∷ at 1 Dropped ∷ at 2 (End cause.Halt) ∷ [])

-- a session is stopped from a port that did not start it
abbrev pub stopped_from_another_port : ScheduleParts
stopped_from_another_port = with_entries (started ∷ at 1 Sampled ∷ at 2 Dropped ∷ at 3 (Stop 1 (session 1)) ∷ at 3 (End cause.Full) ∷ [])

-- a sample is taken while no session runs
abbrev pub sampled_for_no_session : ScheduleParts
sampled_for_no_session = with_entries (at 1 Sampled ∷ at 2 (End cause.Halt) ∷ [])

-- two samples are taken at one step
abbrev pub sampled_twice_at_a_step : ScheduleParts
sampled_twice_at_a_step = with_entries (started ∷ at 1 Sampled ∷ at 1 Sampled ∷ at 2 (End cause.Halt) ∷ [])

-- the end has the cause `full`, and there is room
abbrev pub full_before_its_limit : ScheduleParts
full_before_its_limit = with_entries (started ∷ at 1 Sampled ∷ at 1 (End cause.Full) ∷ [])

-- an end for another cause takes the last place
abbrev pub halted_at_its_limit : ScheduleParts
halted_at_its_limit = with_entries (started ∷ at 1 Sampled ∷ at 2 Dropped ∷ at 3 (Stop 0 (session 1)) ∷ at 3 (End cause.Halt) ∷ [])

-- there is no end
abbrev pub without_an_end : ScheduleParts
without_an_end = with_entries (started ∷ at 1 Sampled ∷ [])

-- a sample follows the end
abbrev pub sampled_after_its_end : ScheduleParts
sampled_after_its_end = with_entries (started ∷ at 1 Sampled ∷ at 2 (End cause.Halt) ∷ at 3 Sampled ∷ [])

-- a sample is taken when there are no steps left
abbrev pub sampled_at_its_budget : ScheduleParts
sampled_at_its_budget = with_entries (started ∷ at 10 Sampled ∷ at 10 (End cause.Halt) ∷ [])

-- the end is earlier than the sample before it
abbrev pub falling_in_time : ScheduleParts
falling_in_time = with_entries (started ∷ at 1 Sampled ∷ record { step = 2; time = 0; what = End cause.Halt } ∷ [])

-- Two sessions, every 2,000 and every 2,500 microseconds, at base 1,000. The first is stopped.
abbrev pub two_sessions : ScheduleParts
two_sessions =
    record {
      base = 1000;
      ring = 1;
      budget = 10;
      limit = 5;
      entries =
          at 0 (start_every 2000 (lit≤ tt) (lit≤ tt))
          ∷ at 0 (start_every 2500 (lit≤ tt) (lit≤ tt))
          ∷ at 1 (Stop 0 (session 1))
          ∷ at 2 (End cause.Halt)
          ∷ [];
    }
