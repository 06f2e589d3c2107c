-- What is read of the text of a program.
use Rattle.std.proofs.Common.{◌≡◌, ◌∙◌, ℕ, ◌≤◌, List, [], map, length, true, Result, Ok, Err, IfOk, Vec, refl, sym, ap, subst, codes}
use Rattle.std.proofs.lemmas.List.{length-map}
use Rattle.prof_lines.specs.declared.fault.Cause.{Cause}
use Rattle.prof_lines.specs.Lines.{counted}
use Rattle.prof_lines.specs.Folds.{read_lines, IsTextFault}
use Rattle.prof_lines.specs.Values.{HaveForms, Keeps, EachIsSpelled}
use Rattle.prof_lines.proofs.Canonical.{canonical_spells}
use Rattle.prof_lines.proofs.Folds.{text_fault}
use Rattle.prof_lines.proofs.Steps.{bind_ok, ok_same, guard_ok}
use Rattle.prof_lines.proofs.Values.{text_taken, text_again}
use Rattle.guest_program.specs.Program.{IsProgram}
use Rattle.guest_program.specs.declared.instr.Func.{Func}
use Rattle.guest_program.specs.declared.program.TheConstants.Program.{MAX_FUNCS}
use Rattle.guest_text.specs.declared.rule.Rule.{Rule}
use Rattle.guest_text.specs.declared.program_line.ProgramLine.{ProgramLine}
use Rattle.guest_text.specs.Outline.{Functions, functions_of}
use Rattle.guest_text.specs.ProgramLine.{line_words}
use Rattle.guest_text.specs.ProgramRules.{heads, has_label, program_fault, line_after, Fits, program_next, program_end, lines_read}
use Rattle.guest_text.specs.ProgramText.{program_lines, labels_of, program_text, Spells}
use Rattle.guest_text.specs.TextLaws.{CanonicalTextsSpell, TextsSpellOneProgram, CanonicalTextsStay, ProgramsHaveTheirTexts}
use Rattle.guest_text.proofs.CanonicalLines.{line_is_line}
use Rattle.guest_text.proofs.FewHeads.{few_read}
use Rattle.guest_text.proofs.Flattening.{funcs_are_one}
use Rattle.guest_text.proofs.LegalPrograms.{rules_taken, rules_again}
use Rattle.guest_text.proofs.LineForms.{line_form}
use Rattle.guest_text.proofs.SpelledOutline.{spelled_functions, program_spellable, kept_functions, read_functions}

-- the functions of a text
abbrev functions_in : List ℕ → Functions
functions_in text = functions_of (counted text)

-- the functions of a program
abbrev functions_for : List Func → Functions
functions_for funcs = record { labels = labels_of funcs; sizes = map (λ func. length func.body) funcs }

ends_with_main : (lines whole : List ProgramLine) → program_end lines ≡ Ok whole → (lines ≡ whole) × (has_label (codes "main") (heads whole) ≡ true)
ends_with_main lines whole h =
    let g = guard_ok (has_label (codes "main") (heads lines)) _ _ whole h in
    let same = ok_same _ _ g.1 in
    (same, subst (λ (z : List ProgramLine). has_label (codes "main") (heads z) ≡ true) same g.0)

-- a text that is read has no more functions than a program may have
few_functions : (text : List ℕ) (lines : List ProgramLine) → lines_read text ≡ Ok lines → length (functions_in text).labels ≤ MAX_FUNCS
few_functions text lines h =
    let a = bind_ok (read_lines (program_next (functions_in text)) [] (counted text)) _ lines h in
    subst (λ (n : ℕ). n ≤ MAX_FUNCS) (sym (read_functions (functions_in text) (counted text) a.0 a.1)) (few_read (functions_in text) (counted text) a.0 a.1)

forms : (functions : Functions) → length functions.labels ≤ MAX_FUNCS → HaveForms (line_after functions) (Fits functions) (line_words functions.labels)
forms functions few before = line_form functions few before

-- the lines of a program that was read keep its rules, and the text spells them
lines_taken : (text : List ℕ) (funcs : List Func) → lines_read text ≡ Ok (program_lines funcs) → IsProgram funcs × Spells text funcs
lines_taken text funcs h =
    let functions = functions_in text in
    let v =
    text_taken (line_after functions) (Fits functions) (line_words functions.labels) (program_fault functions.sizes) program_end (forms functions (few_functions text (program_lines funcs) h)) text
    (program_lines funcs) h in
    let e = ends_with_main v.0 (program_lines funcs) v.2 in
    let keeps : Keeps (Fits functions) (program_fault functions.sizes) [] (program_lines funcs) = subst (Keeps (Fits functions) (program_fault functions.sizes) []) e.0 v.1.0 in
    let spells : EachIsSpelled (line_words functions.labels) (program_lines funcs) (counted text) =
    subst (λ (z : List ProgramLine). EachIsSpelled (line_words functions.labels) z (counted text)) e.0 v.1.1 in
    let are : functions ≡ functions_for funcs = kept_functions functions (program_fault functions.sizes) functions.labels funcs (counted text) keeps spells in
    let labels : functions.labels ≡ labels_of funcs = ap (λ (f : Functions). f.labels) are in (
      rules_taken functions funcs labels (ap (λ (f : Functions). f.sizes) are) keeps e.1,
      subst (λ (z : List (List ℕ)). EachIsSpelled (line_words z) (program_lines funcs) (counted text)) labels spells,
    )

-- the lines of a program are read from a text that spells them
lines_again : (text : List ℕ) (funcs : List Func) → IsProgram funcs → Spells text funcs → lines_read text ≡ Ok (program_lines funcs)
lines_again text funcs is s =
    let functions = functions_in text in
    let are : functions ≡ functions_for funcs = spelled_functions (labels_of funcs) funcs (counted text) (program_spellable funcs is) s in
    let labels : functions.labels ≡ labels_of funcs = ap (λ (f : Functions). f.labels) are in
    let rules = rules_again functions funcs labels (ap (λ (f : Functions). f.sizes) are) is in
    let few : length functions.labels ≤ MAX_FUNCS = subst (λ (n : ℕ). n ≤ MAX_FUNCS) (sym (ap length labels ∙ length-map funcs (λ func. func.label))) is.few in
    let spells : EachIsSpelled (line_words functions.labels) (program_lines funcs) (counted text) =
    subst (λ (z : List (List ℕ)). EachIsSpelled (line_words z) (program_lines funcs) (counted text)) (sym labels) s in
    text_again (line_after functions) (Fits functions) (line_words functions.labels) (program_fault functions.sizes) program_end (forms functions few) text (program_lines funcs)
    (program_lines funcs, (rules.0, spells), rw rules.1 refl)

pub spelled : (text : List ℕ) (funcs : List Func) → lines_read text ≡ Ok (program_lines funcs) → Spells text funcs
spelled text funcs h = (lines_taken text funcs h).1

pub keeps_rules : (text : List ℕ) (funcs : List Func) → lines_read text ≡ Ok (program_lines funcs) → IsProgram funcs
keeps_rules text funcs h = (lines_taken text funcs h).0

pub only_program : (text : List ℕ) (read funcs : List Func) → lines_read text ≡ Ok (program_lines read) → IsProgram funcs → Spells text funcs → read ≡ funcs
only_program text read funcs h is s = funcs_are_one read funcs (ok_same _ _ (sym h ∙ lines_again text funcs is s))

pub never_refused : (text : List ℕ) (place : ℕ × Cause Rule) (funcs : List Func) → lines_read text ≡ Err place → IsProgram funcs → Spells text funcs → ⊥
never_refused text place funcs h is s = let again : lines_read text ≡ Ok (program_lines funcs) = lines_again text funcs is s in absurd cc

pub refused_first : (text : List ℕ) (place : ℕ × Cause Rule) → lines_read text ≡ Err place → IsTextFault (program_next (functions_in text)) program_end [] text place
refused_first text place h = text_fault (program_next (functions_in text)) program_end [] text place h

-- the lines of the canonical text of a program spell it
pub canonical_program : CanonicalTextsSpell
canonical_program funcs is =
    let functions = functions_for funcs in
    (canonical_spells (Fits functions) (line_words functions.labels) (program_fault functions.sizes) (line_is_line functions) (program_lines funcs) (rules_again functions funcs refl refl is).0).1

-- a text spells one program at most
pub texts_spell_one : TextsSpellOneProgram
texts_spell_one text one other is_one is_other spells_one spells_other =
    funcs_are_one one other (ok_same _ _ (sym (lines_again text one is_one spells_one) ∙ lines_again text other is_other spells_other))

pub canonical_texts_stay : CanonicalTextsStay
canonical_texts_stay funcs read is_funcs is_read s = ap program_text (texts_spell_one (program_text funcs) read funcs is_read is_funcs s (canonical_program funcs is_funcs))

pub programs_have_their_texts : ProgramsHaveTheirTexts
programs_have_their_texts one other is_one is_other same =
    texts_spell_one (program_text one) one other is_one is_other (canonical_program one is_one) (subst (λ (z : List ℕ). Spells z other) (sym same) (canonical_program other is_other))

-- what was written of a program spells it
pub written_spells : {Z E : Type 0} (written : Result (Vec ℕ Z) E) (funcs program : List Func) → IfOk written (λ text. text.items ≡ program_text funcs) → funcs ≡ program → IsProgram program
    → IfOk written (λ text. Spells text.items program)
written_spells (Ok text) funcs program h same is =
    subst (λ (z : List ℕ). Spells z program) (sym (h ∙ ap program_text same)) (canonical_program program is)
written_spells (Err e) funcs program h same is = tt
