-- Functions are determined by their lines.
use Rattle.std.proofs.Common.{◌≡◌, ◌∙◌, List, [], ◌∷◌, ◌++◌, refl, sym, ap, append-nil}
use Rattle.guest_program.specs.declared.instr.Func.{Func}
use Rattle.guest_program.specs.declared.instr.Instr.{Instr}
use Rattle.guest_text.specs.declared.program_line.ProgramLine.{ProgramLine}
use Rattle.guest_text.specs.declared.program_line.ProgramLine.TheVariants as line
use Rattle.guest_text.specs.Draft.{func_of}
use Rattle.guest_text.specs.ProgramText.{head_of, program_lines}
use Rattle.guest_text.proofs.ProgramHeads.{instr_lines}

-- the instructions before the first function's line, and the functions from there on
abbrev Parts : Type 0
Parts = List Instr × List Func

-- the parts with one more line in front
abbrev onto_parts : ProgramLine → Parts → Parts
onto_parts (line.Func head) parts = ([], func_of head parts.0 ∷ parts.1)
onto_parts (line.Instr instr) parts = (instr ∷ parts.0, parts.1)

abbrev parts_of : List ProgramLine → Parts
parts_of [] = ([], [])
parts_of (first ∷ lines) = onto_parts first (parts_of lines)

-- the parts of instructions and then lines
parts_of_body : (body : List Instr) (lines : List ProgramLine) → parts_of (instr_lines body ++ lines) ≡ (body ++ (parts_of lines).0, (parts_of lines).1)
parts_of_body [] lines = refl
parts_of_body (instr ∷ body) lines = ap (onto_parts (line.Instr instr)) (parts_of_body body lines)

-- the parts of the lines of functions
parts_of_program : (funcs : List Func) → parts_of (program_lines funcs) ≡ ([], funcs)
parts_of_program [] = refl
parts_of_program (func ∷ funcs) =
    let later = parts_of_body func.body (program_lines funcs) ∙ ap (λ (z : Parts). (func.body ++ z.0, z.1)) (parts_of_program funcs) in
    ap (onto_parts (line.Func (head_of func))) later ∙ ap (λ (z : List Instr). ([], func_of (head_of func) z ∷ funcs)) (append-nil func.body)

-- functions with the same lines are equal
pub funcs_are_one : (one other : List Func) → program_lines one ≡ program_lines other → one ≡ other
funcs_are_one one other h = ap (λ (z : Parts). z.1) (sym (parts_of_program one) ∙ ap parts_of h ∙ parts_of_program other)
