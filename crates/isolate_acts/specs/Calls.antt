-- What an isolate and its ports say to each other in a turn.
use Rattle.std.specs.Prelude.{ℕ, List, ◌++◌, Bool, Option, option_map}
use Rattle.code_event.specs.declared.event.Answer.{Answer}
use Rattle.code_event.specs.declared.event.Command.{Command}

-- A call of a port, with what it returned: a port gives a command or none; it is given an answer, with the number of entries, and takes it or is out of memory; it says whether a sample is asked for; it gives a reading of the clock; it is told the source interval.
pub data Call : Type 0 where
  commanded : (port step : ℕ) → Option Command → Call
  answered : (port : ℕ) → Answer → (place : ℕ) → (is_taken : Bool) → Call
  asked : (step : ℕ) → Bool → Call
  read : (step now : ℕ) → Call
  told : (interval : ℕ) → Call

-- the calls so far, where they can be observed, and more calls after them
abbrev pub with_calls : Option (List Call) → List Call → Option (List Call)
with_calls calls more = option_map (λ before. before ++ more) calls
