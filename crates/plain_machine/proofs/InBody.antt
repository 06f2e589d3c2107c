-- That each frame of a program is at an instruction of its function.
use Rattle.std.proofs.Common.{◌≡◌, ℕ, zero, suc, ◌+◌, ◌<◌, ◌≤◌, List, [], ◌∷◌, length, refl, subst, arith}
use Rattle.std.proofs.lemmas.Bool.{cond_both}
use Rattle.std.proofs.lemmas.Slice.Eq.{bytes_eq-Decides}
use Rattle.std.specs.Prelude.{true, Some, is_some, bytes_eq, codes}
use Rattle.std.specs.List.{slice_get, AllByRecursion}
use Rattle.guest_program.specs.InlinedSize.{body_of}
use Rattle.guest_program.specs.Program.{IsProgram, IsFunc, IsInstr, IsOp, IsMain}
use Rattle.guest_program.specs.declared.instr.Func.{Func}
use Rattle.guest_program.specs.declared.instr.Instr.{Instr}
use Rattle.guest_program.specs.declared.instr.Op.{Op}
use Rattle.guest_program.specs.declared.instr.Op.TheVariants as op
use Rattle.plain_machine.proofs.Kept.{Moves, OpFits, plain_keeps}
use Rattle.plain_machine.specs.Laws.{IsInBody, FramesAreInBodies, FramesHaveInstructions}
use Rattle.plain_machine.specs.PlainMachine.{Frame, plain, instr_of, main_of, main_from}

-- what is read from a list is one of its elements
pub got : {X : Type 0} (P : X → Type 0) (xs : List X) (index : ℕ) (x : X) → AllByRecursion P xs → slice_get xs index ≡ Some x → P x
got P [] index x all is = absurd (cc is)
got P (y ∷ xs) zero x all is = let e : y ≡ x = cc is in subst P e all.0
got P (y ∷ xs) (suc index) x all is = got P xs index x all.1 is

-- what follows from a claim on each function, for the body of the function with this number
at_each : (P : Func → Type 0) (Q : List Instr → Type 0) (funcs : List Func) (number : ℕ) → ((func : Func) → P func → Q func.body)
    → AllByRecursion P funcs → number < length funcs → Q (body_of funcs number)
at_each P Q [] number each all within = absurd (omega arith)
at_each P Q (func ∷ funcs) zero each all within = each func all.0
at_each P Q (func ∷ funcs) (suc number) each all within = let less : number < length funcs = omega arith in at_each P Q funcs number each all.1 less

body_not_empty : (funcs : List Func) (number : ℕ) → IsProgram funcs → number < length funcs → 0 < length (body_of funcs number)
body_not_empty funcs number program within =
    at_each (IsFunc (length funcs)) (λ body. 0 < length body) funcs number (λ func is. is.not_empty) program.each within

pub body_short : (funcs : List Func) (number : ℕ) → IsProgram funcs → number < length funcs → length (body_of funcs number) ≤ 4096
body_short funcs number program within =
    at_each (IsFunc (length funcs)) (λ body. length body ≤ 4096) funcs number (λ func is. is.short) program.each within

body_fits : (funcs : List Func) (number : ℕ) → IsProgram funcs → number < length funcs
    → AllByRecursion (IsInstr (length funcs) (length (body_of funcs number))) (body_of funcs number)
body_fits funcs number program within =
    at_each (IsFunc (length funcs)) (λ body. AllByRecursion (IsInstr (length funcs) (length body)) body) funcs number (λ func is. is.body) program.each within

-- the test of a label succeeds where the label is the word
labelled : (label word : List ℕ) → label ≡ word → bytes_eq label word ≡ true
labelled label word e = (bytes_eq-Decides label word).1 e

-- the search for `main` ends at a function
main_within : (number : ℕ) (funcs : List Func) (at : ℕ) → IsMain funcs at → main_from number funcs < number + length funcs
main_within number [] at main = absurd (cc main)
main_within number (func ∷ funcs) zero main =
    rw (labelled func.label (codes "main") main) (omega arith)
main_within number (func ∷ funcs) (suc at) main =
    let behind : main_from (suc number) funcs < suc number + length funcs = main_within (suc number) funcs at main in
    cond_both (bytes_eq func.label (codes "main")) number (main_from (suc number) funcs) (λ found. found < number + suc (length funcs))
    (λ is. omega arith)
    (λ not. omega arith)

main_is_there : (funcs : List Func) → IsProgram funcs → main_of funcs < length funcs
main_is_there funcs program =
    let within : main_of funcs < 0 + length funcs = main_within 0 funcs program.main.0 program.main.1 in omega arith

op_fits : (funcs size : ℕ) (op : Op) → IsOp funcs size op → OpFits (λ index. index < size) (λ func. func < funcs) op
op_fits funcs size (op.Jump index) is = is.0
op_fits funcs size (op.Jz tested index) is = is.1.0
op_fits funcs size (op.Call func) is = is
op_fits funcs size other is = tt

bodies_move : (funcs : List Func) → IsProgram funcs → Moves funcs (IsInBody funcs) (λ frame index. index < length (body_of funcs frame.func)) (λ func. func < length funcs)
bodies_move funcs program = record {
  begins = let within : main_of funcs < length funcs = main_is_there funcs program in record { func = within; index = body_not_empty funcs (main_of funcs) program within };
  rising = λ frame is below. record { func = is.func; index = below };
  setting = λ frame to number is. record { func = is.func; index = is.index };
  jumping = λ frame index is fits. record { func = is.func; index = fits };
  calling = λ frame func is fits. record { func = fits; index = body_not_empty funcs func program fits };
  fitting = λ frame instr is found. op_fits (length funcs) (length (body_of funcs frame.func)) instr.op
      (got (IsInstr (length funcs) (length (body_of funcs frame.func))) (body_of funcs frame.func) frame.index instr (body_fits funcs frame.func program is.func) found).op;
}

pub frames_are_in_bodies : FramesAreInBodies
frames_are_in_bodies funcs steps program =
    (plain_keeps funcs (IsInBody funcs) (λ frame index. index < length (body_of funcs frame.func)) (λ func. func < length funcs) (bodies_move funcs program) steps).stack.each

-- there is an element at each index
some_within : {X : Type 0} (xs : List X) (index : ℕ) → index < length xs → is_some (slice_get xs index) ≡ true
some_within [] index within = absurd (omega arith)
some_within (x ∷ xs) zero within = refl
some_within (x ∷ xs) (suc index) within = let less : index < length xs = omega arith in some_within xs index less

all_have : (funcs : List Func) (stack : List Frame) → AllByRecursion (IsInBody funcs) stack → AllByRecursion (λ frame. is_some (instr_of funcs frame) ≡ true) stack
all_have funcs [] all = tt
all_have funcs (frame ∷ callers) all = (some_within (body_of funcs frame.func) frame.index all.0.index, all_have funcs callers all.1)

pub frames_have_instructions : FramesHaveInstructions
frames_have_instructions funcs steps program = all_have funcs (plain funcs steps).stack (frames_are_in_bodies funcs steps program)
