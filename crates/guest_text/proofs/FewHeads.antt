-- Lines that keep the rules have at most as many functions as a program may have.
use Rattle.std.proofs.Common.{◌≡◌, ℕ, ◌≤◌, List, [], ◌∷◌, ◌++◌, length, nat_le, Ok, Option, Some, None, refl, ap, subst, append_assoc, append-nil, arith}
use Rattle.std.proofs.lemmas.Bool.{or_parts, leb-false}
use Rattle.std.proofs.lemmas.List.{length_push}
use Rattle.prof_lines.specs.declared.fault.Cause.{Cause}
use Rattle.prof_lines.specs.Folds.{placed, read_lines}
use Rattle.prof_lines.specs.Values.{Keeps, kept}
use Rattle.prof_lines.proofs.Folds.{placed_ok}
use Rattle.prof_lines.proofs.Steps.{bind_ok, ok_same}
use Rattle.guest_program.specs.declared.program.TheConstants.Program.{MAX_FUNCS}
use Rattle.guest_text.specs.declared.rule.Rule.{Rule}
use Rattle.guest_text.specs.declared.program_line.ProgramLine.{ProgramLine}
use Rattle.guest_text.specs.declared.program_line.ProgramLine.TheVariants as line
use Rattle.guest_text.specs.Outline.{Functions}
use Rattle.guest_text.specs.ProgramRules.{heads, is_twice, func_breaks_limit, program_fault, Fits, line_after, program_next}
use Rattle.guest_text.proofs.ProgramHeads.{heads-append, heads_instr}
use Rattle.guest_text.proofs.KeptLines.{AreKept, none_found}

-- there are few functions with one more line too, if that breaks no rule
few_more : (sizes : List ℕ) (lines : List ProgramLine) (value : ProgramLine) → length (heads lines) ≤ MAX_FUNCS → program_fault sizes lines value ≡ None
    → length (heads (lines ++ value ∷ [])) ≤ MAX_FUNCS
few_more sizes lines (line.Func head) few free =
    let within = none_found (is_twice head (heads lines)) (func_breaks_limit sizes (length (heads lines))) _ _ free in
    let room = leb-false MAX_FUNCS (length (heads lines)) (or_parts (nat_le MAX_FUNCS (length (heads lines))) _ within.1).0 in
    omega (arith, ap length (heads-append lines (line.Func head ∷ [])), length_push (heads lines) head, room)
few_more sizes lines (line.Instr instr) few free = omega (arith, ap length (heads_instr lines instr))

-- the same with more lines
few_after : (functions : Functions) (before lines : List ProgramLine) → length (heads before) ≤ MAX_FUNCS → AreKept functions before lines → length (heads (before ++ lines)) ≤ MAX_FUNCS
few_after functions before [] few all = omega (arith, ap (λ (z : List ProgramLine). length (heads z)) (append-nil before))
few_after functions before (value ∷ lines) few all =
    let later = few_after functions (before ++ value ∷ []) lines (few_more functions.sizes before value few all.1) all.2 in
    omega (arith, later, ap (λ (z : List ProgramLine). length (heads z)) (append_assoc before (value ∷ []) lines))

-- lines that keep the rules have few functions
pub few_heads : (functions : Functions) (lines : List ProgramLine) → Keeps (Fits functions) (program_fault functions.sizes) [] lines → length (heads lines) ≤ MAX_FUNCS
few_heads functions lines all = few_after functions [] lines (omega arith) all

-- what is kept broke no rule
kept_is : (fault : Option (Cause Rule)) (one other : List ProgramLine) → kept fault one ≡ Ok other → (fault ≡ None) × (one ≡ other)
kept_is None one other h = (refl, ok_same one other h)
kept_is (Some cause) one other h = absurd cc

-- lines that are read after others have few functions
few_read_after : (functions : Functions) (before : List ProgramLine) (lines : List (ℕ × List ℕ)) (values : List ProgramLine) → length (heads before) ≤ MAX_FUNCS
    → read_lines (program_next functions) before lines ≡ Ok values → length (heads values) ≤ MAX_FUNCS
few_read_after functions before [] values few h = omega (arith, ap (λ (z : List ProgramLine). length (heads z)) (ok_same before values h))
few_read_after functions before (line ∷ lines) values few h =
    let step = bind_ok (placed line.0 (program_next functions before line.1)) _ _ h in
    let value = bind_ok (line_after functions before line.1) _ _ (placed_ok line.0 _ _ step.1) in
    let next = kept_is (program_fault functions.sizes before value.0) (before ++ value.0 ∷ []) step.0 value.2 in
    let few_next = subst (λ (z : List ProgramLine). length (heads z) ≤ MAX_FUNCS) next.1 (few_more functions.sizes before value.0 few next.0) in
    few_read_after functions step.0 lines values few_next step.2

-- lines that are read have few functions
pub few_read : (functions : Functions) (lines : List (ℕ × List ℕ)) (values : List ProgramLine) → read_lines (program_next functions) [] lines ≡ Ok values → length (heads values) ≤ MAX_FUNCS
few_read functions lines values h = few_read_after functions [] lines values (omega arith) h
