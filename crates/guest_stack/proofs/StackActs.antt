-- What the machine's acts do to its stack, for each stack of the plain machine that it stands for.
use Rattle.std.proofs.Common.{◌≡◌, ℕ, suc, ◌<◌, ◌≤◌, List, [], ◌∷◌, length, ap, ap₂, sym, subst}
use Rattle.std.proofs.lemmas.Bool.{cond-true, cond-false, lt-ltb, le-ltb}
use Rattle.std.specs.Prelude.{Some, None, nat_lt}
use Rattle.guest_program.specs.InlinedSize.{body_of}
use Rattle.guest_program.specs.Program.{IsProgram}
use Rattle.guest_program.specs.declared.instr.Func.{Func}
use Rattle.code_event.specs.Parts.{LayoutParts}
use Rattle.code_event.specs.declared.layout.Slot.{Slot}
use Rattle.code_layout.specs.Laws.{func_at, slot_of, IsCodeOf}
use Rattle.code_layout.proofs.Standing.{found_is_right}
use Rattle.code_objects.specs.CodeObjects.{layout_of, depth_of}
use Rattle.guest_stack.proofs.Positions.{layout_is_code, slot_is, in_end, off_end, slot_within}
use Rattle.guest_stack.proofs.Stepping.{youngest_is_at_slot, goes_on}
use Rattle.plain_machine.specs.PlainMachine.{Frame, State, rises, ends}
use Rattle.guest_stack.specs.Stack.{Position, Physical, positions, framed, frame_at, Stands, gone_on, at_slot}
use Rattle.guest_stack.specs.Laws.{IsInCode, IsAtSlot}
use Rattle.plain_machine.specs.declared.ended.Ended.TheVariants as end

-- The youngest frame at its slot.
module _ (funcs : List Func) (it : Physical) (slot : Slot) (program : IsProgram funcs) (in_code : IsInCode funcs it.frame) (at : IsAtSlot funcs it.frame slot) where
  abbrev layout : LayoutParts
  layout = layout_of funcs it.frame.code

  abbrev func : ℕ
  func = func_at layout.units slot.unit

  code : IsCodeOf funcs (depth_of it.frame.code.kind) it.frame.code.func.0 layout
  code = layout_is_code funcs it.frame.code program in_code.func

  pub unit_there : slot.unit < length layout.units
  unit_there = (slot_is funcs it.frame.code it.frame.slot slot program in_code.func at).0

  -- what the plain machine's youngest frame is
  module _ (frame : Frame) (callers : List Frame) (stands : Stands funcs it (frame ∷ callers)) where
    first : frame ≡ frame_at (func, slot.index) it.registers
    first = youngest_is_at_slot funcs it frame callers slot stands at

    pub func_is : frame.func ≡ func
    func_is = ap (λ (f : Frame). f.func) first

    pub index_is : frame.index ≡ slot.index
    index_is = ap (λ (f : Frame). f.index) first

    pub registers_are : frame.registers ≡ it.registers
    registers_are = ap (λ (f : Frame). f.registers) first

    -- it goes on at another index
    pub goes_to : (index place : ℕ) → slot_of layout slot.unit index ≡ Some place → Stands funcs (gone_on place it.registers it) (record frame { index = index } ∷ callers)
    goes_to index place found =
        subst (λ r. Stands funcs (gone_on place it.registers it) (frame_at (frame.func, index) r ∷ callers)) (sym registers_are)
        (goes_on funcs it frame callers slot index place it.registers stands at (found_is_right layout slot.unit index place found))

    pub is_below : (place : ℕ) → slot_of layout slot.unit (suc slot.index) ≡ Some place → suc frame.index < length (body_of funcs frame.func)
    is_below place found =
        let less = in_end funcs (depth_of it.frame.code.kind) it.frame.code.func.0 layout slot.unit (suc slot.index) place code (found_is_right layout slot.unit (suc slot.index) place found) in
        subst (λ f. suc f.index < length (body_of funcs f.func)) (sym first) less

    pub is_past : slot_of layout slot.unit (suc slot.index) ≡ None → length (body_of funcs frame.func) ≤ suc frame.index
    is_past none =
        let past = off_end funcs (depth_of it.frame.code.kind) it.frame.code.func.0 layout slot.unit (suc slot.index) code unit_there none in
        subst (λ f. length (body_of funcs f.func) ≤ suc f.index) (sym first) past

  -- at another slot of its code it is in code still
  pub still_in : (unit index place : ℕ) → slot_of layout unit index ≡ Some place → IsInCode funcs (at_slot it.frame place)
  still_in unit index place found = record { func = in_code.func; slot = slot_within layout unit index place (found_is_right layout unit index place found) }

-- the youngest frame with other registers
pub registers_set : (funcs : List Func) (it : Physical) (frame : Frame) (callers : List Frame) (registers : List ℕ) → Stands funcs it (frame ∷ callers)
    → Stands funcs (record it { registers = registers }) (record frame { registers = registers } ∷ callers)
registers_set funcs it frame callers registers stands = by_positions (positions funcs it) stands
  where
    by_positions : (all : List Position) → frame ∷ callers ≡ framed all (it.registers ∷ it.saved) → record frame { registers = registers } ∷ callers ≡ framed all (registers ∷ it.saved)
    by_positions [] is = absurd (cc is)
    by_positions (position ∷ all) is =
        let first : frame ≡ frame_at position it.registers = cc is in
        let rest : callers ≡ framed all it.saved = cc is in ap₂ (λ (f : Frame) fs. record f { registers = registers } ∷ fs) first rest

-- A rise of the plain machine, where the body has a next instruction, and where it has none.
pub rises_below : (funcs : List Func) (before state : State) (frame : Frame) (callers : List Frame) → suc frame.index < length (body_of funcs frame.func)
    → rises funcs before state frame callers ≡ record state { stack = record frame { index = suc frame.index } ∷ callers }
rises_below funcs before state frame callers less = cond-true (nat_lt (suc frame.index) (length (body_of funcs frame.func))) _ _ (lt-ltb (suc frame.index) (length (body_of funcs frame.func)) less)

pub rises_past : (funcs : List Func) (before state : State) (frame : Frame) (callers : List Frame) → length (body_of funcs frame.func) ≤ suc frame.index
    → rises funcs before state frame callers ≡ ends end.OffEnd before
rises_past funcs before state frame callers past = cond-false (nat_lt (suc frame.index) (length (body_of funcs frame.func))) _ _ (le-ltb (suc frame.index) (length (body_of funcs frame.func)) past)

-- the youngest frame has the registers of the stack that stands for it
pub top_registers : (funcs : List Func) (it : Physical) (frame : Frame) (callers : List Frame) → Stands funcs it (frame ∷ callers) → frame.registers ≡ it.registers
top_registers funcs it frame callers stands = by_positions (positions funcs it) stands
  where
    by_positions : (all : List Position) → frame ∷ callers ≡ framed all (it.registers ∷ it.saved) → frame.registers ≡ it.registers
    by_positions [] is = absurd (cc is)
    by_positions (position ∷ all) is = let first : frame ≡ frame_at position it.registers = cc is in ap (λ (f : Frame). f.registers) first
