-- That stacks are bounded, that each function has its code, and that each frame has its registers.
use Rattle.std.proofs.Common.{ℕ, zero, suc, ◌%◌, ◌^◌, ◌<◌, List, [], ◌∷◌, refl, ◌∙◌}
use Rattle.std.proofs.Math.Dec.{lit<}
use Rattle.std.proofs.lemmas.List.{length-set}
use Rattle.std.proofs.lemmas.Nat.{mod_below}
use Rattle.std.specs.Prelude.{slice_set}
use Rattle.std.specs.List.{AllByRecursion}
use Rattle.guest_program.specs.declared.instr.Func.{Func}
use Rattle.plain_machine.proofs.Kept.{Moves, Kept, any_fits, plain_keeps}
use Rattle.plain_machine.specs.Laws.{StacksAreNotEmpty, StacksAreSmall, CodeIsOfFunctions, HasRegisters, FramesHaveRegisters}
use Rattle.plain_machine.specs.PlainMachine.{Frame, plain, with_register}

-- an element that is put into a list
all_set : {X : Type 0} (P : X → Type 0) (xs : List X) (index : ℕ) (x : X) → P x → AllByRecursion P xs → AllByRecursion P (slice_set xs index x)
all_set P [] index x here all = tt
all_set P (y ∷ xs) zero x here all = (here, all.1)
all_set P (y ∷ xs) (suc index) x here all = (all.0, all_set P xs index x here all.1)

set_has : (frame : Frame) (to number : ℕ) → HasRegisters frame → HasRegisters (with_register frame to number)
set_has frame to number has = record {
  eight = length-set frame.registers to (number % 2 ^ 64) ∙ has.eight;
  each = all_set (λ n. n < 2 ^ 64) frame.registers to (number % 2 ^ 64) (mod_below number (2 ^ 64) (lit< tt)) has.each;
}

registers_move : (funcs : List Func) → Moves funcs HasRegisters (λ frame index. Unit {0}) (λ func. Unit {0})
registers_move funcs = record {
  begins = let small : 0 < 2 ^ 64 = lit< tt in record { eight = refl; each = (small, (small, (small, (small, (small, (small, (small, (small, tt)))))))) };
  rising = λ frame has below. record { eight = has.eight; each = has.each };
  setting = set_has;
  jumping = λ frame index has fits. record { eight = has.eight; each = has.each };
  calling = λ frame func has fits. record { eight = has.eight; each = has.each };
  fitting = λ frame instr has is. any_fits instr.op;
}

kept : (funcs : List Func) (steps : ℕ) → Kept funcs HasRegisters (plain funcs steps)
kept funcs steps = plain_keeps funcs HasRegisters (λ frame index. Unit {0}) (λ func. Unit {0}) (registers_move funcs) steps

pub stacks_are_not_empty : StacksAreNotEmpty
stacks_are_not_empty funcs steps = (kept funcs steps).stack.some

pub stacks_are_small : StacksAreSmall
stacks_are_small funcs steps = (kept funcs steps).stack.room

pub code_is_of_functions : CodeIsOfFunctions
code_is_of_functions funcs steps = (kept funcs steps).code

pub frames_have_registers : FramesHaveRegisters
frames_have_registers funcs steps = (kept funcs steps).stack.each
