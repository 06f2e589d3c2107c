-- Scripts and their text.
use Rattle.std.specs.Prelude.{◌≡◌, ℕ, List, [], Result}
use Rattle.prof_lines.specs.declared.fault.Cause.{Cause}
use Rattle.prof_lines.specs.Lines.{counted}
use Rattle.prof_lines.specs.Folds.{read_lines}
use Rattle.prof_lines.specs.Canonical.{text_of}
use Rattle.prof_lines.specs.Values.{next_value, Keeps, EachIsSpelled}
use Rattle.prof_lines.specs.Refused.{FoundAfter, IsRefusedLine}
use Rattle.record_text.specs.declared.rule.Rule.{Rule}
use Rattle.record_text.specs.declared.refused.LineCause.{LineCause}
use Rattle.record_text.specs.declared.refused.ReadRefused.{ReadRefused}
use Rattle.record_text.specs.declared.refused.ReadRefused.TheVariants as refused
use Rattle.record_text.specs.declared.script.ScriptLine.{ScriptLine}
use Rattle.record_text.specs.Refusals.{line_cause}
use Rattle.record_text.specs.ScriptLine.{script_words, IsScriptLine}
use Rattle.record_text.specs.ScriptForms.{script_line_at}
use Rattle.record_text.specs.ScriptRules.{script_fault}

-- each line has the same form, whatever stands before it
abbrev pub line_after : List ScriptLine → List ℕ → Result ScriptLine (Cause Rule)
line_after before bytes = script_line_at bytes

abbrev pub FitsAfter : List ScriptLine → ScriptLine → Type 0
FitsAfter before line = IsScriptLine line

-- the script so far, with one more line
abbrev pub script_next : List ScriptLine → List ℕ → Result (List ScriptLine) (Cause Rule)
script_next before bytes = next_value line_after script_fault before bytes

-- the script that is read of a text, or its first fault
abbrev pub script_read : List ℕ → Result (List ScriptLine) (ℕ × Cause Rule)
script_read text = read_lines script_next [] (counted text)

-- The numbers of the lines are in their ranges, and each line keeps the rules after those before it.
abbrev pub IsScript : List ScriptLine → Type 0
IsScript script = Keeps FitsAfter script_fault [] script

-- The lines of a text that are not passed over spell this script, line by line.
abbrev pub SpellsScript : List ℕ → List ScriptLine → Type 0
SpellsScript text script = EachIsSpelled script_words script (counted text)

-- the canonical text of a script
abbrev pub script_text : List ScriptLine → List ℕ
script_text script = text_of script_words script

-- The first line at fault is here, and its first fault has this cause: its words are at fault, or spell a line that breaks a rule after the lines before it, which spell a script.
abbrev pub IsRefusedAt : List ℕ → ℕ → LineCause → Type 0
IsRefusedAt text number cause =
    (own : Cause Rule) × IsRefusedLine FitsAfter script_words script_fault (FoundAfter line_after) (counted text) (number, own) × (cause ≡ line_cause own)

-- what a refusal says of the text; out of memory says nothing of it
abbrev pub IsRefusedScript : List ℕ → ReadRefused → Type 0
IsRefusedScript text (refused.At number cause) = IsRefusedAt text number cause
IsRefusedScript text refused.Memory = Unit {0}
