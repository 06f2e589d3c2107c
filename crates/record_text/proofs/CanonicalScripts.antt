-- The lines of the canonical text of a script spell it.
use Rattle.std.proofs.Common.{ℕ, ◌^◌, ◌<◌, List, ◌∷◌, sym, subst, refl, arith, decimal, lit<}
use Rattle.std.specs.List.{AllByRecursion}
use Rattle.prof_lines.specs.Words.{InRange}
use Rattle.prof_lines.specs.Canonical.{IsLine, IsOneLine}
use Rattle.prof_lines.proofs.Canonical.{canonical_spells}
use Rattle.prof_lines.proofs.CanonicalLines.{is_line, word_one_line, decimal_begins_line}
use Rattle.prof_lines.proofs.Numbers.{decimal_word}
use Rattle.code_event.specs.declared.event.Command.{Command}
use Rattle.code_event.specs.declared.event.Command.TheVariants.{Start, Stop}
use Rattle.record_text.specs.declared.script.ScriptLine.{ScriptLine}
use Rattle.record_text.specs.ScriptLine.{command_name, command_operands, script_words, IsScriptCommand, IsScriptLine}
use Rattle.record_text.specs.ScriptRules.{script_fault}
use Rattle.record_text.specs.ScriptLaws.{CanonicalTextsSpell, CanonicalTextsAreRead, ScriptsHaveTheirTexts}
use Rattle.record_text.specs.Scripts.{FitsAfter, script_text, SpellsScript}
use Rattle.record_text.proofs.RecordWords.{mode_is_word, bound_is_word}
use Rattle.record_text.proofs.Scripts.{script_again, texts_spell_one}

number_one : (least most n : ℕ) → most < 2 ^ 64 → InRange least most n → IsOneLine (decimal n)
number_one least most n small fits = word_one_line (decimal n) (decimal_word n (omega (arith, fits.1, small)))

operands_one : (command : Command) → IsScriptCommand command → AllByRecursion IsOneLine (command_operands command)
operands_one (Start options) fits =
    (number_one _ _ options.interval (lit< tt) (options.low, options.high), (word_one_line _ (mode_is_word options.mode), (word_one_line _ (bound_is_word 0 options.max_samples fits.1), tt)))
operands_one (Stop session) fits = (number_one _ _ session.0 (lit< tt) fits, tt)

name_one : (command : Command) → IsOneLine (command_name command)
name_one (Start options) = refl
name_one (Stop session) = refl

line_is_line : (before : List ScriptLine) (line : ScriptLine) → IsScriptLine line → IsLine (script_words line)
line_is_line before line fits =
    let small : line.step < 2 ^ 64 = omega (arith, fits.step.1) in
    is_line (decimal line.step) (command_name line.command ∷ command_operands line.command) (decimal_begins_line line.step small) (word_one_line (decimal line.step) (decimal_word line.step small))
    (name_one line.command, operands_one line.command fits.command)

-- the lines of the canonical text of a script spell it
pub canonical_scripts : CanonicalTextsSpell
canonical_scripts script is = (canonical_spells FitsAfter script_words script_fault line_is_line script is).1

pub canonical_texts_are_read : CanonicalTextsAreRead
canonical_texts_are_read script is = script_again (script_text script) script is (canonical_scripts script is)

pub scripts_have_their_texts : ScriptsHaveTheirTexts
scripts_have_their_texts one other is_one is_other same =
    texts_spell_one (script_text one) one other is_one is_other (canonical_scripts one is_one) (subst (λ (z : List ℕ). SpellsScript z other) (sym same) (canonical_scripts other is_other))
