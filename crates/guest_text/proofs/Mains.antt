-- The end of a text, by the main function of the program that its lines make.
use Rattle.std.proofs.Common.{◌≡◌, ℕ, List, zero, suc, ◌<◌, ◌≤◌, [], ◌∷◌, length, get_or, inl, inr, Result, Ok, Err, refl, sym, ap, ap₂, subst, arith}
use Rattle.std.proofs.lemmas.Bool.{cases_lt}
use Rattle.prof_lines.specs.declared.fault.Cause.{Cause}
use Rattle.prof_lines.specs.declared.fault.Cause.TheVariants.{Own}
use Rattle.prof_lines.specs.declared.fault.LineFault.TheVariants as line_faults
use Rattle.prof_lines.specs.declared.fault.TextFault.{TextFault}
use Rattle.prof_lines.specs.declared.fault.TextFault.TheVariants as text_faults
use Rattle.prof_lines.specs.Answers.{Reads, IsPlaced}
use Rattle.prof_lines.specs.Folds.{placed}
use Rattle.guest_program.specs.Program.{label_at, IsMain}
use Rattle.guest_program.specs.declared.instr.Func.{Func}
use Rattle.guest_text.specs.declared.rule.Rule.{Rule}
use Rattle.guest_text.specs.declared.rule.Rule.TheVariants.{NoMain}
use Rattle.guest_text.specs.declared.program_line.ProgramLine.{ProgramLine}
use Rattle.guest_text.specs.ProgramRules.{program_end}
use Rattle.guest_text.specs.ProgramText.{program_lines}
use Rattle.guest_text.proofs.ProgramHeads.{has_main, no_main}

-- lines that make a program with a main function may end
pub ends_well : (funcs : List Func) (lines : List ProgramLine) (number after : ℕ) → program_lines funcs ≡ lines → IsMain funcs number → placed after (program_end lines) ≡ Ok (program_lines funcs)
ends_well funcs lines number after are main =
    subst (λ (z : List ProgramLine). placed after (program_end z) ≡ Ok (program_lines funcs)) are (rw (has_main funcs number main) refl)

-- the fault of the end, with the number after the last line
placed_end : {X : Type 0} (view : X → List ProgramLine) (funcs : List Func) (after : ℕ) (answer : TextFault Rule) → ((number : ℕ) → ¬ IsMain funcs number)
    → IsPlaced after (line_faults.At (Own NoMain)) answer → Reads view (Err answer) (placed after (program_end (program_lines funcs)))
placed_end view funcs after text_faults.Memory none is = tt
placed_end view funcs after (text_faults.At line cause) none is =
    let same : Own NoMain ≡ cause = cc in
    rw (no_main funcs none) (let f : ℕ → Cause Rule → Result (List ProgramLine) (ℕ × Cause Rule) = λ n c. Err (n, c) in ap₂ f (sym is.0) same)

pub ends_badly : {X : Type 0} (funcs : List Func) (lines : List ProgramLine) (after : ℕ) (view : X → List ProgramLine) (answer : TextFault Rule) → program_lines funcs ≡ lines
    → ((number : ℕ) → ¬ IsMain funcs number) → IsPlaced after (line_faults.At (Own NoMain)) answer → Reads view (Err answer) (placed after (program_end lines))
ends_badly funcs lines after view answer are none is =
    subst (λ (z : List ProgramLine). Reads view (Err answer) (placed after (program_end z))) are (placed_end view funcs after answer none is)

-- the label of the function with a number
pub label_here : (funcs : List Func) (number : ℕ) (func : Func) → number < length funcs → func ≡ get_or funcs number func → label_at funcs number ≡ func.label
label_here [] number func h is = absurd (omega arith)
label_here (other ∷ funcs) zero func h is = ap (λ (f : Func). f.label) (sym is)
label_here (other ∷ funcs) (suc number) func h is = label_here funcs number func (omega arith) is

-- past the last function there is none
label_past : (funcs : List Func) (number : ℕ) → length funcs ≤ number → label_at funcs number ≡ []
label_past [] number h = refl
label_past (func ∷ funcs) zero h = absurd (omega arith)
label_past (func ∷ funcs) (suc number) h = label_past funcs number (omega arith)

-- where no function is labelled `main`, none has that label
pub none_is_main : (funcs : List Func) (end : ℕ) → length funcs ≤ end → ((number : ℕ) → number < end → ¬ IsMain funcs number) → (number : ℕ) → ¬ IsMain funcs number
none_is_main funcs end h none number main = elim (cases_lt number (length funcs)) [
  | inl less ↦ none number (omega arith) main
  | inr past ↦ let empty = label_past funcs number past in absurd cc
]
