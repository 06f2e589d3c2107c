-- The functions' lines among the lines of a program, and the label of its main function.
use Rattle.std.proofs.Common.{◌≡◌, ◌≢◌, ◌∙◌, ℕ, zero, suc, List, [], ◌∷◌, ◌++◌, map, codes, bytes_eq, true, false, refl, sym, ap, append-nil, inl, inr}
use Rattle.std.proofs.lemmas.Bool.{or_cases, or_left, or_right, false_from_ne_true}
use Rattle.std.proofs.lemmas.Slice.Eq.{bytes_eq-Decides}
use Rattle.guest_program.specs.Program.{label_at, IsMain}
use Rattle.guest_program.specs.declared.instr.Func.{Func}
use Rattle.guest_program.specs.declared.instr.Instr.{Instr}
use Rattle.guest_text.specs.declared.program_line.Head.{Head}
use Rattle.guest_text.specs.declared.program_line.ProgramLine.{ProgramLine}
use Rattle.guest_text.specs.declared.program_line.ProgramLine.TheVariants as line
use Rattle.guest_text.specs.ProgramRules.{heads, last_size, has_label}
use Rattle.guest_text.specs.ProgramText.{head_of, program_lines}

-- the lines of instructions
abbrev pub instr_lines : List Instr → List ProgramLine
instr_lines body = map (λ instr. line.Instr instr) body

-- the functions' lines of lines, and then of more
pub heads-append : (one more : List ProgramLine) → heads (one ++ more) ≡ heads one ++ heads more
heads-append [] more = refl
heads-append (line.Func head ∷ one) more = ap (λ (z : List Head). head ∷ z) (heads-append one more)
heads-append (line.Instr instr ∷ one) more = heads-append one more

-- instructions have no function's line
pub heads_body : (body : List Instr) → heads (instr_lines body) ≡ []
heads_body [] = refl
heads_body (instr ∷ body) = heads_body body

-- an instruction at the end adds no function
pub heads_instr : (lines : List ProgramLine) (instr : Instr) → heads (lines ++ line.Instr instr ∷ []) ≡ heads lines
heads_instr lines instr = heads-append lines (line.Instr instr ∷ []) ∙ append-nil (heads lines)

-- the functions' lines among the lines of functions
pub heads_program : (funcs : List Func) → heads (program_lines funcs) ≡ map head_of funcs
heads_program [] = refl
heads_program (func ∷ funcs) =
    let later = heads-append (instr_lines func.body) (program_lines funcs) ∙ ap (λ (z : List Head). z ++ heads (program_lines funcs)) (heads_body func.body) ∙ heads_program funcs in
    ap (λ (z : List Head). head_of func ∷ z) later

-- how many instructions the last function has after more lines
pub last_size-append : (size : ℕ) (one more : List ProgramLine) → last_size size (one ++ more) ≡ last_size (last_size size one) more
last_size-append size [] more = refl
last_size-append size (line.Func head ∷ one) more = last_size-append 0 one more
last_size-append size (line.Instr instr ∷ one) more = last_size-append (suc size) one more

-- a function with a label that heads have
pub label_from_heads : (label : List ℕ) (funcs : List Func) → has_label label (map head_of funcs) ≡ true → (number : ℕ) × (label_at funcs number ≡ label)
label_from_heads label [] h = absurd cc
label_from_heads label (func ∷ funcs) h =
    elim (or_cases (bytes_eq func.label label) (has_label label (map head_of funcs)) h) [
      | inl here ↦ (0, (bytes_eq-Decides func.label label).0 here)
      | inr later ↦ let rest = label_from_heads label funcs later in (suc rest.0, rest.1)
    ]

-- heads have a function's label, where that has any byte
pub heads_from_label : (label : List ℕ) (funcs : List Func) (number : ℕ) → label ≢ [] → label_at funcs number ≡ label → has_label label (map head_of funcs) ≡ true
heads_from_label label [] number some h = absurd (some (sym h))
heads_from_label label (func ∷ funcs) zero some h = or_left (bytes_eq func.label label) _ ((bytes_eq-Decides func.label label).1 h)
heads_from_label label (func ∷ funcs) (suc number) some h = or_right (bytes_eq func.label label) _ (heads_from_label label funcs number some h)

-- a main function's line has the label `main`
pub has_main : (funcs : List Func) (number : ℕ) → IsMain funcs number → has_label (codes "main") (heads (program_lines funcs)) ≡ true
has_main funcs number main = rw (heads_program funcs) (heads_from_label (codes "main") funcs number (λ e. absurd cc) main)

-- the function whose line has the label `main`
pub main_from_heads : (funcs : List Func) → has_label (codes "main") (heads (program_lines funcs)) ≡ true → (number : ℕ) × IsMain funcs number
main_from_heads funcs h = label_from_heads (codes "main") funcs (rw (heads_program funcs) at h)

-- where there is no main function, no line has the label `main`
pub no_main : (funcs : List Func) → ((number : ℕ) → ¬ IsMain funcs number) → has_label (codes "main") (heads (program_lines funcs)) ≡ false
no_main funcs none = false_from_ne_true (has_label (codes "main") (heads (program_lines funcs))) (λ h. let main = main_from_heads funcs h in none main.0 main.1)
