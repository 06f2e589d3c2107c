-- What is read of the text of a script.
use Rattle.std.proofs.Common.{◌≡◌, ◌∙◌, ℕ, List, [], Ok, Err, sym, subst}
use Rattle.prof_lines.specs.declared.fault.Cause.{Cause}
use Rattle.prof_lines.specs.Lines.{counted}
use Rattle.prof_lines.specs.Refused.{FoundAfter, IsRefusedLine}
use Rattle.prof_lines.proofs.Causes.{refuses_found}
use Rattle.prof_lines.proofs.Refusals.{lines_refused}
use Rattle.prof_lines.proofs.Steps.{ok_same}
use Rattle.prof_lines.proofs.Values.{values_taken, values_again}
use Rattle.record_text.specs.declared.rule.Rule.{Rule}
use Rattle.record_text.specs.declared.script.ScriptLine.{ScriptLine}
use Rattle.record_text.specs.ScriptLine.{script_words}
use Rattle.record_text.specs.ScriptForms.{script_line_at}
use Rattle.record_text.specs.ScriptRules.{script_fault}
use Rattle.record_text.specs.ScriptLaws.{TextsSpellOneScript}
use Rattle.record_text.specs.Scripts.{line_after, FitsAfter, script_read, IsScript, SpellsScript}
use Rattle.record_text.proofs.ScriptForms.{line_form}

script_taken : (text : List ℕ) (script : List ScriptLine) → script_read text ≡ Ok script → IsScript script × SpellsScript text script
script_taken text script h =
    let v = values_taken line_after FitsAfter script_words script_fault (λ before. line_form) [] script (counted text) h in
    subst (λ (z : List ScriptLine). IsScript z × SpellsScript text z) (sym v.1) v.2

pub spelled : (text : List ℕ) (script : List ScriptLine) → script_read text ≡ Ok script → SpellsScript text script
spelled text script h = (script_taken text script h).1

pub keeps_rules : (text : List ℕ) (script : List ScriptLine) → script_read text ≡ Ok script → IsScript script
keeps_rules text script h = (script_taken text script h).0

-- a script that a text spells is read
pub script_again : (text : List ℕ) (script : List ScriptLine) → IsScript script → SpellsScript text script → script_read text ≡ Ok script
script_again text script is s = values_again line_after FitsAfter script_words script_fault (λ before. line_form) [] script (counted text) (is, s)

pub only_script : (text : List ℕ) (read script : List ScriptLine) → script_read text ≡ Ok read → IsScript script → SpellsScript text script → read ≡ script
only_script text read script h is s = ok_same _ _ (sym h ∙ script_again text script is s)

pub never_refused : (text : List ℕ) (place : ℕ × Cause Rule) (script : List ScriptLine) → script_read text ≡ Err place → IsScript script → SpellsScript text script → ⊥
never_refused text place script h is s = let again : script_read text ≡ Ok script = script_again text script is s in absurd cc

pub refused_first : (text : List ℕ) (place : ℕ × Cause Rule) → script_read text ≡ Err place
    → IsRefusedLine FitsAfter script_words script_fault (FoundAfter line_after) (counted text) place
refused_first text place h =
    (lines_refused line_after FitsAfter script_words script_fault (FoundAfter line_after) (λ before. line_form) (λ before. refuses_found script_line_at) (counted text) place).0 h

-- a text spells one script at most
pub texts_spell_one : TextsSpellOneScript
texts_spell_one text one other is_one is_other spells_one spells_other =
    ok_same _ _ (sym (script_again text one is_one spells_one) ∙ script_again text other is_other spells_other)
