-- The lines of a script's text: the words of each, and the ranges of their numbers.
use Rattle.std.specs.Prelude.{◌≡◌, ℕ, ◌-◌, ◌^◌, List, [], ◌∷◌, codes, decimal}
use Rattle.prof_lines.specs.Words.{InRange}
use Rattle.code_event.specs.declared.event.Command.{Command}
use Rattle.code_event.specs.declared.event.Command.TheVariants.{Start, Stop}
use Rattle.run_schedule.specs.declared.limits.TheConstants.{MAX_BUDGET}
use Rattle.record_text.specs.declared.script.ScriptLine.{ScriptLine}
use Rattle.record_text.specs.Words.{mode_word, max_word, IsMax}

-- the word that names a command
abbrev pub command_name : Command → List ℕ
command_name (Start options) = codes "start"
command_name (Stop session) = codes "stop"

-- the words after it
abbrev pub command_operands : Command → List (List ℕ)
command_operands (Start options) = decimal options.interval ∷ mode_word options.mode ∷ max_word options.max_samples ∷ []
command_operands (Stop session) = decimal session.0 ∷ []

-- the words of a line
abbrev pub script_words : ScriptLine → List (List ℕ)
script_words line = decimal line.step ∷ command_name line.command ∷ command_operands line.command

-- a command of port 0 whose numbers are in their ranges; an interval always is
abbrev pub IsScriptCommand : Command → Type 0
IsScriptCommand (Start options) = (options.port ≡ 0) × IsMax options.max_samples
IsScriptCommand (Stop session) = InRange 1 (2 ^ 32 - 1) session.0

-- a line whose numbers are in their ranges
pub record IsScriptLine (line : ScriptLine) : Type 0 where
  pub step : InRange 0 MAX_BUDGET line.step
  pub command : IsScriptCommand line.command
