-- How a line of a schedule's text is read.
use Rattle.std.specs.Prelude.{ℕ, ◌<◌, ◌≤◌, List, Ok, Err, if◌then◌else◌, bytes_eq, codes, Option, ◌⊎◌}
use Rattle.std.proofs.Common.{inl, inr}
use Rattle.std.proofs.lemmas.Bool.{cases_lt}
use Rattle.prof_base.specs.declared.interval.TheConstants.{MAX_INTERVAL}
use Rattle.prof_lines.specs.declared.fault.Cause.TheVariants as causes
use Rattle.prof_lines.specs.Answers.{◌>>=◌}
use Rattle.prof_lines.specs.Words.{of_word, word_at, fixed_at, number_at, end_at}
use Rattle.code_event.specs.declared.event.Mode.{Mode}
use Rattle.run_schedule.specs.declared.limits.TheConstants.{MAX_RING, MAX_BUDGET, MIN_ENTRIES, MAX_ENTRIES, MAX_PORT}
use Rattle.run_schedule.specs.declared.schedule.EndCause.{EndCause}
use Rattle.run_schedule.specs.declared.schedule.EndCause.TheVariants as cause
use Rattle.run_schedule.specs.declared.schedule.What.{What}
use Rattle.run_schedule.specs.declared.schedule.What.TheVariants.{Sampled, Dropped, Start, Stop, End}
use Rattle.run_schedule.specs.declared.schedule.ScheduleEntry.{ScheduleEntry}
use Rattle.record_text.specs.declared.schedule_line.ScheduleHead.{ScheduleHead}
use Rattle.record_text.specs.Words.{Read, mode_of, bound_of, session_at, time_at}

-- `halt`, `overflow`, `offend`, `budget`, `full` or `memory`
abbrev pub cause_of : List ℕ → Read EndCause
cause_of word =
    if bytes_eq word (codes "halt") then Ok cause.Halt
    else if bytes_eq word (codes "overflow") then Ok cause.Overflow
    else if bytes_eq word (codes "offend") then Ok cause.OffEnd
    else if bytes_eq word (codes "budget") then Ok cause.Budget
    else if bytes_eq word (codes "full") then Ok cause.Full
    else if bytes_eq word (codes "memory") then Ok cause.Memory
    else Err causes.Word

-- the first line
unfoldable pub head_at : List ℕ → Read ScheduleHead
head_at bytes = do
  name ← fixed_at (codes "schedule") bytes
  version ← fixed_at (codes "1") name
  base ← number_at 1 MAX_INTERVAL version
  ring ← number_at 1 MAX_RING base.1
  budget ← number_at 1 MAX_BUDGET ring.1
  limit ← number_at MIN_ENTRIES MAX_ENTRIES budget.1
  u ← end_at limit.1
  Ok (record { base = base.0; ring = ring.0; budget = budget.0; limit = limit.0 })

-- the port that comes next
abbrev pub port_at : List ℕ → Read (ℕ × List ℕ)
port_at bytes = number_at 0 MAX_PORT bytes

-- a start, where its interval was found to be in its range
abbrev pub start_by : ℕ → (interval : ℕ) → Mode → Option ℕ → ((interval < 1) ⊎ (1 ≤ interval)) → ((MAX_INTERVAL < interval) ⊎ (interval ≤ MAX_INTERVAL)) → Read What
start_by port interval mode max (inr low) (inr high) = Ok (Start (record { port = port; interval = interval; mode = mode; max_samples = max; low = low; high = high }))
start_by port interval mode max (inr low) (inl over) = Err causes.Number
start_by port interval mode max (inl under) high = Err causes.Number

-- a start, where its interval is in its range
abbrev pub start_of : ℕ → ℕ → Mode → Option ℕ → Read What
start_of port interval mode max = start_by port interval mode max (cases_lt interval 1) (cases_lt MAX_INTERVAL interval)

unfoldable pub start_at : List ℕ → Read What
start_at bytes = do
  port ← port_at bytes
  interval ← number_at 1 MAX_INTERVAL port.1
  mode ← of_word mode_of interval.1
  max ← of_word (bound_of 0) mode.1
  u ← end_at max.1
  start_of port.0 interval.0 mode.0 max.0

unfoldable pub stop_at : List ℕ → Read What
stop_at bytes = do
  port ← port_at bytes
  session ← session_at port.1
  u ← end_at session.1
  Ok (Stop port.0 (record { 0 = session.0 }))

-- the end of a run, by its cause
unfoldable pub ending_at : List ℕ → Read What
ending_at bytes = do
  cause ← of_word cause_of bytes
  u ← end_at cause.1
  Ok (End cause.0)

-- nothing else comes
abbrev pub alone_at : What → List ℕ → Read What
alone_at what bytes = end_at bytes >>= λ u. Ok what

-- what a word names, by the words after it
abbrev pub what_of : List ℕ → List ℕ → Read What
what_of word bytes =
    if bytes_eq word (codes "sampled") then alone_at Sampled bytes
    else if bytes_eq word (codes "dropped") then alone_at Dropped bytes
    else if bytes_eq word (codes "start") then start_at bytes
    else if bytes_eq word (codes "stop") then stop_at bytes
    else if bytes_eq word (codes "end") then ending_at bytes
    else Err causes.Word

-- a line after the first
unfoldable pub entry_at : List ℕ → Read ScheduleEntry
entry_at bytes = do
  step ← number_at 0 MAX_BUDGET bytes
  time ← time_at step.1
  word ← word_at time.1
  what ← what_of word.0 word.1
  Ok (record { step = step.0; time = time.0; what = what })
