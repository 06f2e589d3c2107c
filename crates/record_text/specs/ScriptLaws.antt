-- What holds of all scripts and their texts.
use Rattle.std.specs.Prelude.{◌≡◌, ◌↔◌, ℕ, ◌<◌, List, [], length, false, Ok}
use Rattle.std.specs.List.{AllByRecursion}
use Rattle.run_schedule.specs.Schedule.{HasSession, IsInOrder, EachMayFollow}
use Rattle.run_schedule.specs.ScheduleParts.{ScheduleParts}
use Rattle.record_text.specs.declared.script.ScriptLine.{ScriptLine}
use Rattle.record_text.specs.ScriptLine.{IsScriptLine}
use Rattle.record_text.specs.ScriptRules.{what_of, entry_of, script_entries, running_after_lines, is_passed_by, breaks_session}
use Rattle.record_text.specs.Scripts.{script_read, script_text, IsScript, SpellsScript}

-- all numbers of these lines are in their ranges
abbrev pub AreScriptLines : List ScriptLine → Type 0
AreScriptLines lines = AllByRecursion IsScriptLine lines

-- the test of the rule Order is the rule of schedules
abbrev pub OrderIsThatOfSchedules : Type 0
OrderIsThatOfSchedules =
    (before : List ScriptLine) (line : ScriptLine) → AreScriptLines before → (is_passed_by line.step before ≡ false) ↔ IsInOrder (script_entries before) (entry_of line)

-- the test of the rule Session is the rule of schedules
abbrev pub SessionIsThatOfSchedules : Type 0
SessionIsThatOfSchedules =
    (before : List ScriptLine) (line : ScriptLine) → AreScriptLines before
    → (breaks_session (running_after_lines before) line.command ≡ false) ↔ HasSession (running_after_lines before) (what_of line.command)

-- a schedule has room for the lines and an end, and has the steps of all of them
pub record HasRoom (schedule : ScheduleParts) (lines : List ScriptLine) : Type 0 where
  pub entries : length lines < schedule.limit
  pub steps : AllByRecursion (λ line. line.step < schedule.budget) lines

-- lines are a script exactly where their numbers are in their ranges, and each entry that they stand for may follow those before it in each schedule that has room for them
abbrev pub ScriptsAreLegal : Type 0
ScriptsAreLegal =
    (schedule : ScheduleParts) (lines : List ScriptLine) → HasRoom schedule lines → IsScript lines ↔ (AreScriptLines lines × EachMayFollow schedule [] (script_entries lines))

-- the canonical text of a script spells it
abbrev pub CanonicalTextsSpell : Type 0
CanonicalTextsSpell = (script : List ScriptLine) → IsScript script → SpellsScript (script_text script) script

-- a text spells one script at most
abbrev pub TextsSpellOneScript : Type 0
TextsSpellOneScript = (text : List ℕ) (one other : List ScriptLine) → IsScript one → IsScript other → SpellsScript text one → SpellsScript text other → one ≡ other

-- scripts with the same canonical text are equal
abbrev pub ScriptsHaveTheirTexts : Type 0
ScriptsHaveTheirTexts = (one other : List ScriptLine) → IsScript one → IsScript other → script_text one ≡ script_text other → one ≡ other

-- the canonical text of a script is read as this script
abbrev pub CanonicalTextsAreRead : Type 0
CanonicalTextsAreRead = (script : List ScriptLine) → IsScript script → script_read (script_text script) ≡ Ok script
