-- That the instruction which is read at the youngest frame's slot is the next.
use Rattle.std.proofs.Common.{◌≡◌, ℕ, zero, suc, ◌<◌, List, [], ◌∷◌, length, ap, ap₂, ◌∙◌, sym, subst, arith, get_or}
use Rattle.std.proofs.lemmas.Option.{slice_get-get_or, slice_get_within}
use Rattle.std.specs.Prelude.{Some, option_and_then}
use Rattle.std.specs.Option.{option_map_or}
use Rattle.std.specs.List.{slice_get, AllByRecursion}
use Rattle.guest_program.specs.InlinedSize.{body_of}
use Rattle.guest_program.specs.Program.{IsFunc, IsInstr, IsOp}
use Rattle.guest_program.specs.declared.instr.Func.{Func}
use Rattle.guest_program.specs.declared.instr.Instr.{Instr}
use Rattle.code_event.specs.declared.layout.Slot.{Slot}
use Rattle.code_event.specs.declared.layout.Unit.{Unit as CodeUnit}
use Rattle.code_layout.specs.Laws.{func_at, IsSlotOf}
use Rattle.guest_stack.proofs.Positions.{slot_is, func_within}
use Rattle.guest_machine.specs.Machine.{IsMachine, body_at, next_op, op_of, program_of, youngest_layout}
use Rattle.guest_stack.specs.Laws.{IsAtSlot}
use Rattle.guest_machine.specs.declared.machine.Machine.{Machine}

-- an instruction of a program fits
op_fits : (count : ℕ) (funcs : List Func) (func index : ℕ) (instr : Instr) → AllByRecursion (IsFunc count) funcs → slice_get (body_of funcs func) index ≡ Some instr → IsOp count (length (body_of funcs func)) instr.op
op_fits count [] func index instr all found = absurd (grind arith)
op_fits count (f ∷ funcs) zero index instr all found = in_body f.body index all.0.body found
  where
    in_body : (body : List Instr) (index : ℕ) → AllByRecursion (IsInstr count (length f.body)) body → slice_get body index ≡ Some instr → IsOp count (length f.body) instr.op
    in_body [] index all is = absurd (grind arith)
    in_body (first ∷ body) zero all is = let same : first ≡ instr = grind arith in subst (λ i. IsOp count (length f.body) i.op) same all.0.op
    in_body (first ∷ body) (suc index) all is = in_body body index all.1 is
op_fits count (f ∷ funcs) (suc func) index instr all found = op_fits count funcs func index instr all.1 found

module _ (machine : Machine) (whole : IsMachine machine) (slot : Slot) (at : IsAtSlot (program_of machine) machine.stack.frame slot) where
  is : IsSlotOf (program_of machine) (youngest_layout machine) slot
  is = slot_is (program_of machine) machine.stack.frame.code machine.stack.frame.slot slot whole.program whole.placed.0.code.func at

  pub unit_within : slot.unit < length (youngest_layout machine).units
  unit_within = is.0

  pub index_within : slot.index < length (body_at machine slot)
  index_within = slice_get_within (body_at machine slot) slot.index is.1.0 is.1.1

  pub func_there : func_at (youngest_layout machine).units slot.unit < length (program_of machine)
  func_there = func_within (program_of machine) (func_at (youngest_layout machine).units slot.unit) slot.index index_within

  -- the function that was read of the unit
  pub func_read : (units : List CodeUnit) (number : ℕ) (u : CodeUnit) → units ≡ (youngest_layout machine).units → number ≡ slot.unit → (get_or units number u).func.0 ≡ func_at (youngest_layout machine).units slot.unit
  func_read units number u units_are number_is =
      ap₂ (λ (us : List CodeUnit) n. (get_or us n u).func.0) units_are number_is
      ∙ sym (ap (λ o. option_map_or (λ (v : CodeUnit). v.func.0) o 0) (slice_get-get_or (youngest_layout machine).units slot.unit u unit_within))

  -- the body that was read of the function
  pub body_read : (funcs : List Func) (number : ℕ) (f : Func) → funcs ≡ program_of machine → number ≡ func_at (youngest_layout machine).units slot.unit → (get_or funcs number f).body ≡ body_at machine slot
  body_read funcs number f funcs_are number_is =
      ap₂ (λ (fs : List Func) n. (get_or fs n f).body) funcs_are number_is
      ∙ sym (ap (λ o. option_map_or (λ (g : Func). g.body) o []) (slice_get-get_or (program_of machine) (func_at (youngest_layout machine).units slot.unit) f func_there))

  pub next_is : (instr : Instr) → slice_get (body_at machine slot) slot.index ≡ Some instr → instr.op ≡ next_op machine
  next_is instr found = sym (ap (λ o. op_of (option_and_then (λ (s : Slot). slice_get (body_at machine s) s.index) o)) at ∙ ap op_of found)

  -- there is such an instruction
  pub instr_there : (instr : Instr) × (slice_get (body_at machine slot) slot.index ≡ Some instr)
  instr_there = (is.1.0, is.1.1)

  -- the operation that was read of the body
  pub op_read : (body : List Instr) (number : ℕ) (i : Instr) → body ≡ body_at machine slot → number ≡ slot.index → (get_or body number i).op ≡ next_op machine
  op_read body number i body_is number_is =
      ap₂ (λ (b : List Instr) n. (get_or b n i).op) body_is number_is
      ∙ next_is (get_or (body_at machine slot) slot.index i) (slice_get-get_or (body_at machine slot) slot.index i index_within)

  -- the next operation is one of the program's
  pub next_fits : IsOp (length (program_of machine)) (length (body_at machine slot)) (next_op machine)
  next_fits =
      subst (IsOp (length (program_of machine)) (length (body_at machine slot))) (next_is is.1.0 is.1.1)
      (op_fits (length (program_of machine)) (program_of machine) (func_at (youngest_layout machine).units slot.unit) slot.index is.1.0 whole.program.each is.1.1)
