-- The rules of a program's lines, function by function.
use Rattle.std.proofs.Common.{◌≡◌, ◌∙◌, ℕ, suc, ◌+◌, ◌≤◌, List, [], ◌∷◌, ◌++◌, length, map, Bool, true, false, cond, ◌==◌, nat_le, Some, None, refl, sym, ap, ap₂, subst, append_assoc, append-nil, arith}
use Rattle.std.specs.List.{AllByRecursion}
use Rattle.std.proofs.lemmas.Bool.Decides.{nat_tests}
use Rattle.std.proofs.lemmas.List.{map_push, length_push, length-map}
use Rattle.prof_lines.specs.declared.fault.Cause.{Cause}
use Rattle.prof_lines.specs.Values.{Keeps}
use Rattle.guest_program.specs.declared.instr.TheConstants.Func.{MAX_BODY}
use Rattle.guest_program.specs.declared.instr.Func.{Func}
use Rattle.guest_program.specs.declared.instr.Instr.{Instr}
use Rattle.guest_text.specs.declared.rule.Rule.{Rule}
use Rattle.guest_text.specs.declared.program_line.Head.{Head}
use Rattle.guest_text.specs.declared.program_line.ProgramLine.{ProgramLine}
use Rattle.guest_text.specs.declared.program_line.ProgramLine.TheVariants as line
use Rattle.guest_text.specs.Outline.{Functions, size_after}
use Rattle.guest_text.specs.ProgramLine.{IsHead, IsLineIn}
use Rattle.guest_text.specs.ProgramRules.{heads, last_size, is_twice, func_breaks_limit, program_fault, Fits}
use Rattle.guest_text.specs.ProgramText.{head_of, func_lines, program_lines}
use Rattle.guest_text.proofs.ProgramHeads.{instr_lines, heads-append, heads_body, heads_instr, last_size-append}

-- lines that keep the rules after these, in a text with these functions
abbrev pub AreKept : Functions → List ProgramLine → List ProgramLine → Type 0
AreKept functions before lines = Keeps (Fits functions) (program_fault functions.sizes) before lines

-- an instruction that fits into the body of the function with this number
abbrev pub IsInBody : Functions → ℕ → Instr → Type 0
IsInBody functions number instr = IsLineIn functions.labels (size_after functions.sizes (suc number)) (line.Instr instr)

-- a function whose lines keep the rules after these functions
pub record IsKeptAfter (functions : Functions) (done : List Func) (func : Func) : Type 0 where
  pub head : IsHead (head_of func)
  pub new : is_twice (head_of func) (map head_of done) ≡ false
  pub within : func_breaks_limit functions.sizes (length done) ≡ false
  pub short : length func.body ≤ MAX_BODY
  pub body : AllByRecursion (IsInBody functions (length done)) func.body

-- each function is such a one after those before it
abbrev pub AreKeptAfter : Functions → List Func → List Func → Type 0
AreKeptAfter functions done [] = Unit {0}
AreKeptAfter functions done (func ∷ funcs) = IsKeptAfter functions done func × AreKeptAfter functions (done ++ func ∷ []) funcs

-- what two tests say where no fault is found
pub none_found : (first second : Bool) (one other : Cause Rule) → cond first (Some one) (cond second (Some other) None) ≡ None → (first ≡ false) × (second ≡ false)
none_found true second one other h = absurd cc
none_found false true one other h = absurd cc
none_found false false one other h = (refl, refl)

-- two tests that find no fault
none_finds : (first second : Bool) (one other : Cause Rule) → first ≡ false → second ≡ false → cond first (Some one) (cond second (Some other) None) ≡ None
none_finds first second one other h k = rw (h, k) refl

-- the function that these lines end in has this number, and this many instructions so far
record AreIn (number size : ℕ) (lines : List ProgramLine) : Type 0 where
  funcs : length (heads lines) ≡ suc number
  last : last_size 0 lines ≡ size

-- one more instruction
in_further : (number size : ℕ) (lines : List ProgramLine) (instr : Instr) → AreIn number size lines → AreIn number (suc size) (lines ++ line.Instr instr ∷ [])
in_further number size lines instr are = record {
  funcs = ap length (heads_instr lines instr) ∙ are.funcs;
  last = last_size-append 0 lines (line.Instr instr ∷ []) ∙ ap suc are.last;
}

-- the start of a function after these lines
head_further : (done : List Func) (before : List ProgramLine) (func : Func) → heads before ≡ map head_of done → AreIn (length done) 0 (before ++ line.Func (head_of func) ∷ [])
head_further done before func are = record {
  funcs = omega (arith, ap length (heads-append before (line.Func (head_of func) ∷ [])), length_push (heads before) (head_of func), ap length are, length-map done head_of);
  last = last_size-append 0 before (line.Func (head_of func) ∷ []);
}

-- instructions that keep the rules fit, and the lines after them keep the rules
body_taken : (functions : Functions) (number size : ℕ) (before : List ProgramLine) (body : List Instr) (lines : List ProgramLine)
    → AreIn number size before → size ≤ MAX_BODY → AreKept functions before (instr_lines body ++ lines)
    → (size + length body ≤ MAX_BODY) × AllByRecursion (IsInBody functions number) body × AreKept functions (before ++ instr_lines body) lines
body_taken functions number size before [] lines are few kept = (omega arith, tt, subst (λ (z : List ProgramLine). AreKept functions z lines) (sym (append-nil before)) kept)
body_taken functions number size before (instr ∷ body) lines are few kept =
    let free = none_found (length (heads before) == 0) (nat_le MAX_BODY (last_size 0 before)) _ _ kept.1 in
    let room : suc size ≤ MAX_BODY = grind (arith, nat_tests, free.1, are.last) in
    let later = body_taken functions number (suc size) (before ++ line.Instr instr ∷ []) body lines (in_further number size before instr are) room kept.2 in
    let fits = subst (λ (n : ℕ). IsLineIn functions.labels (size_after functions.sizes n) (line.Instr instr)) are.funcs kept.0 in
    let on = subst (λ (z : List ProgramLine). AreKept functions z lines) (append_assoc before (line.Instr instr ∷ []) (instr_lines body)) later.2 in
    (omega (arith, later.0), (fits, later.1), on)

-- instructions that fit keep the rules, if the lines after them do
body_again : (functions : Functions) (number size : ℕ) (before : List ProgramLine) (body : List Instr) (lines : List ProgramLine)
    → AreIn number size before → size + length body ≤ MAX_BODY → AllByRecursion (IsInBody functions number) body → AreKept functions (before ++ instr_lines body) lines
    → AreKept functions before (instr_lines body ++ lines)
body_again functions number size before [] lines are few fit kept = subst (λ (z : List ProgramLine). AreKept functions z lines) (append-nil before) kept
body_again functions number size before (instr ∷ body) lines are few fit kept =
    let some : (length (heads before) == 0) ≡ false = grind (arith, nat_tests, are.funcs) in
    let room : nat_le MAX_BODY (last_size 0 before) ≡ false = grind (arith, nat_tests, are.last) in
    let on = subst (λ (z : List ProgramLine). AreKept functions z lines) (sym (append_assoc before (line.Instr instr ∷ []) (instr_lines body))) kept in
    let fits = subst (λ (n : ℕ). IsLineIn functions.labels (size_after functions.sizes n) (line.Instr instr)) (sym are.funcs) fit.0 in
    let later = body_again functions number (suc size) (before ++ line.Instr instr ∷ []) body lines (in_further number size before instr are) (omega arith) fit.1 on in
    (fits, none_finds _ _ _ _ some room, later)

-- a function whose lines keep the rules fits, and the lines after it keep the rules
func_taken : (functions : Functions) (done : List Func) (before : List ProgramLine) (func : Func) (lines : List ProgramLine) → heads before ≡ map head_of done
    → AreKept functions before (func_lines func ++ lines) → IsKeptAfter functions done func × AreKept functions (before ++ func_lines func) lines
func_taken functions done before func lines are kept =
    let free = none_found (is_twice (head_of func) (heads before)) (func_breaks_limit functions.sizes (length (heads before))) _ _ kept.1 in
    let body = body_taken functions (length done) 0 (before ++ line.Func (head_of func) ∷ []) func.body lines (head_further done before func are) (omega arith) kept.2 in
    let this : IsKeptAfter functions done func = record {
      head = kept.0;
      new = subst (λ (z : List Head). is_twice (head_of func) z ≡ false) are free.0;
      within = subst (λ (n : ℕ). func_breaks_limit functions.sizes n ≡ false) (ap length are ∙ length-map done head_of) free.1;
      short = omega (arith, body.0);
      body = body.1;
    } in
    (this, subst (λ (z : List ProgramLine). AreKept functions z lines) (append_assoc before (line.Func (head_of func) ∷ []) (instr_lines func.body)) body.2)

-- the lines of a function that fits keep the rules, if the lines after them do
func_again : (functions : Functions) (done : List Func) (before : List ProgramLine) (func : Func) (lines : List ProgramLine) → heads before ≡ map head_of done
    → IsKeptAfter functions done func → AreKept functions (before ++ func_lines func) lines → AreKept functions before (func_lines func ++ lines)
func_again functions done before func lines are this kept =
    let new = subst (λ (z : List Head). is_twice (head_of func) z ≡ false) (sym are) this.new in
    let within = subst (λ (n : ℕ). func_breaks_limit functions.sizes n ≡ false) (sym (ap length are ∙ length-map done head_of)) this.within in
    let on = subst (λ (z : List ProgramLine). AreKept functions z lines) (sym (append_assoc before (line.Func (head_of func) ∷ []) (instr_lines func.body))) kept in
    let later = body_again functions (length done) 0 (before ++ line.Func (head_of func) ∷ []) func.body lines (head_further done before func are) (omega (arith, this.short)) this.body on in
    (this.head, none_finds _ _ _ _ new within, later)

-- the functions' lines with one more function
heads_further : (done : List Func) (before : List ProgramLine) (func : Func) → heads before ≡ map head_of done → heads (before ++ func_lines func) ≡ map head_of (done ++ func ∷ [])
heads_further done before func are =
    heads-append before (func_lines func) ∙ ap₂ (λ (a b : List Head). a ++ head_of func ∷ b) are (heads_body func.body) ∙ sym (map_push head_of done func)

-- functions whose lines keep the rules fit
pub funcs_taken : (functions : Functions) (done : List Func) (before : List ProgramLine) (funcs : List Func) → heads before ≡ map head_of done
    → AreKept functions before (program_lines funcs) → AreKeptAfter functions done funcs
funcs_taken functions done before [] are kept = tt
funcs_taken functions done before (func ∷ funcs) are kept =
    let first = func_taken functions done before func (program_lines funcs) are kept in
    (first.0, funcs_taken functions (done ++ func ∷ []) (before ++ func_lines func) funcs (heads_further done before func are) first.1)

-- the lines of functions that fit keep the rules
pub funcs_again : (functions : Functions) (done : List Func) (before : List ProgramLine) (funcs : List Func) → heads before ≡ map head_of done
    → AreKeptAfter functions done funcs → AreKept functions before (program_lines funcs)
funcs_again functions done before [] are kept = tt
funcs_again functions done before (func ∷ funcs) are kept =
    func_again functions done before func (program_lines funcs) are kept.0 (funcs_again functions (done ++ func ∷ []) (before ++ func_lines func) funcs (heads_further done before func are) kept.1)
