-- How a line of a script's text is read.
use Rattle.std.specs.Prelude.{ℕ, ◌<◌, ◌≤◌, ◌⊎◌, List, Ok, Err, if◌then◌else◌, bytes_eq, codes, Option}
use Rattle.std.proofs.Common.{inl, inr}
use Rattle.std.proofs.lemmas.Bool.{cases_lt}
use Rattle.prof_base.specs.declared.interval.TheConstants.{MAX_INTERVAL}
use Rattle.prof_lines.specs.declared.fault.Cause.TheVariants.{Word, Number}
use Rattle.prof_lines.specs.Answers.{◌>>=◌}
use Rattle.prof_lines.specs.Words.{of_word, word_at, number_at, end_at}
use Rattle.code_event.specs.declared.event.Mode.{Mode}
use Rattle.code_event.specs.declared.event.Command.{Command}
use Rattle.code_event.specs.declared.event.Command.TheVariants.{Start, Stop}
use Rattle.run_schedule.specs.declared.limits.TheConstants.{MAX_BUDGET}
use Rattle.record_text.specs.declared.script.ScriptLine.{ScriptLine}
use Rattle.record_text.specs.Words.{Read, mode_of, bound_of, session_at}

-- a start from port 0, where each end of its interval's range was tested
abbrev pub start_within : (interval : ℕ) → Mode → Option ℕ → ((interval < 1) ⊎ (1 ≤ interval)) → ((MAX_INTERVAL < interval) ⊎ (interval ≤ MAX_INTERVAL)) → Read Command
start_within interval mode max (inr low) (inr high) = Ok (Start (record { port = 0; interval = interval; mode = mode; max_samples = max; low = low; high = high }))
start_within interval mode max (inr low) (inl above) = Err Number
start_within interval mode max (inl below) high = Err Number

-- a start from port 0, where its interval is in its range
abbrev pub start_every : ℕ → Mode → Option ℕ → Read Command
start_every interval mode max = start_within interval mode max (cases_lt interval 1) (cases_lt MAX_INTERVAL interval)

-- the words after `start`
unfoldable pub script_start_at : List ℕ → Read Command
script_start_at bytes = do
  interval ← number_at 1 MAX_INTERVAL bytes
  mode ← of_word mode_of interval.1
  max ← of_word (bound_of 0) mode.1
  u ← end_at max.1
  start_every interval.0 mode.0 max.0

-- the words after `stop`
unfoldable pub script_stop_at : List ℕ → Read Command
script_stop_at bytes = do
  session ← session_at bytes
  u ← end_at session.1
  Ok (Stop (record { 0 = session.0 }))

-- the command that a word names, by the words after it
abbrev pub command_of : List ℕ → List ℕ → Read Command
command_of word bytes =
    if bytes_eq word (codes "start") then script_start_at bytes
    else if bytes_eq word (codes "stop") then script_stop_at bytes
    else Err Word

-- a line
unfoldable pub script_line_at : List ℕ → Read ScriptLine
script_line_at bytes = do
  step ← number_at 0 MAX_BUDGET bytes
  word ← word_at step.1
  command ← command_of word.0 word.1
  Ok (record { step = step.0; command = command })
