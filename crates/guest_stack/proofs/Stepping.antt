-- That what the machine does to its frames is what the plain machine does to its own.
use Rattle.std.proofs.Common.{◌≡◌, ℕ, suc, ◌+◌, ◌<◌, ◌≤◌, List, [], ◌∷◌, ◌++◌, length, refl, ap, ap₂, ◌∙◌, sym, arith}
use Rattle.std.proofs.lemmas.List.{length-append}
use Rattle.std.specs.Prelude.{Some, None, unwrap_or, drop, slice_set}
use Rattle.std.specs.Option.{option_map_or, option_and_then}
use Rattle.std.specs.List.{slice_get, AllByRecursion}
use Rattle.guest_program.specs.Program.{IsProgram}
use Rattle.guest_program.specs.declared.instr.Func.{Func}
use Rattle.code_event.specs.Layout.{site_of}
use Rattle.code_event.specs.Parts.{LayoutParts}
use Rattle.code_event.specs.declared.layout.Unit.{Unit as CodeUnit}
use Rattle.code_event.specs.declared.layout.Site.{Site}
use Rattle.code_event.specs.declared.layout.Slot.{Slot}
use Rattle.code_layout.specs.Laws.{func_at}
use Rattle.code_layout.proofs.Standing.{found_is_right}
use Rattle.code_objects.specs.CodeObjects.{layout_of}
use Rattle.code_objects.specs.declared.name.CodeName.{CodeName}
use Rattle.guest_stack.proofs.Positions.{layout_is_code, slot_there, slots_stand, units_stand_below_calls, first_units_stand_alone, positions_at}
use Rattle.plain_machine.specs.PlainMachine.{Frame, zeros}
use Rattle.guest_stack.specs.Stack.{Position, site_position, positions_above, slot_positions, frame_positions, stack_positions, frame_at, framed, Physical, positions, Stands, EachHasRegisters, first_frame, begun, at_slot, gone_on, called_within, called_code, returned_within, returned_to_caller, resumed}
use Rattle.guest_stack.specs.Laws.{IsInCode, IsSlotAt, IsAtSlot, Begins, YoungestIsAtSlot, GoesOn, CallsWithin, CallsCode, ReturnsTo, ReturnsWithin, ReturnsToFrame, LastReturns, GoingOnKeepsRegisters, CallingWithinKeepsRegisters, CallingCodeKeepsRegisters, ReturningWithinKeepsRegisters, ReturningToFrameKeepsRegisters, CallersAreCounted, FramesAreFew}
use Rattle.guest_stack.specs.declared.stack.CodeFrame.{CodeFrame}

-- heads and tails of equal stacks
head_same : (x y : Frame) (xs ys : List Frame) → x ∷ xs ≡ y ∷ ys → x ≡ y
head_same x y xs ys same = cc same

tail_same : (x y : Frame) (xs ys : List Frame) → x ∷ xs ≡ y ∷ ys → xs ≡ ys
tail_same x y xs ys same = cc same

-- what the stack stands for besides its youngest function
abbrev below : List Func → Physical → Slot → List Position
below funcs it slot = positions_above (layout_of funcs it.frame.code) slot.unit ++ stack_positions funcs it.callers

-- the function and the index of a slot
abbrev here : List Func → CodeFrame → Slot → Position
here funcs frame slot = (func_at (layout_of funcs frame.code).units slot.unit, slot.index)

all_at : (funcs : List Func) (it : Physical) (slot : Slot) → IsAtSlot funcs it.frame slot → positions funcs it ≡ here funcs it.frame slot ∷ below funcs it slot
all_at funcs it slot at = ap (λ first. first ++ stack_positions funcs it.callers) (positions_at funcs it.frame slot at)

stack_at : (funcs : List Func) (it : Physical) (stack : List Frame) (slot : Slot) → Stands funcs it stack → IsAtSlot funcs it.frame slot
    → stack ≡ frame_at (here funcs it.frame slot) it.registers ∷ framed (below funcs it slot) it.saved
stack_at funcs it stack slot stands at = stands ∙ ap (λ all. framed all (it.registers ∷ it.saved)) (all_at funcs it slot at)

sizes_at : (funcs : List Func) (it : Physical) (slot : Slot) → EachHasRegisters funcs it → IsAtSlot funcs it.frame slot → length (below funcs it slot) ≡ length it.saved
sizes_at funcs it slot sizes at =
    let all : length (positions funcs it) ≡ suc (length (below funcs it slot)) = ap length (all_at funcs it slot at) in omega (arith, all, sizes)

-- there is a youngest frame
pub stack_some : (funcs : List Func) (it : Physical) (stack : List Frame) (slot : Slot) → Stands funcs it stack → IsAtSlot funcs it.frame slot → (frame : Frame) × (callers : List Frame) × (stack ≡ frame ∷ callers)
stack_some funcs it stack slot stands at = (_, _, stack_at funcs it stack slot stands at)

pub youngest_is_at_slot : YoungestIsAtSlot
youngest_is_at_slot funcs it frame callers slot stands at = head_same _ _ _ _ (stack_at funcs it (frame ∷ callers) slot stands at)

-- a stack with these positions stands for these frames, and has registers for each
stands_so : (funcs : List Func) (it : Physical) (all : List Position) (stack : List Frame) → positions funcs it ≡ all → stack ≡ framed all (it.registers ∷ it.saved) → Stands funcs it stack
stands_so funcs it all stack is stack_is = stack_is ∙ sym (ap (λ a. framed a (it.registers ∷ it.saved)) is)

has_so : (funcs : List Func) (it : Physical) (all : List Position) → positions funcs it ≡ all → length all ≡ suc (length it.saved) → EachHasRegisters funcs it
has_so funcs it all is sizes = ap length is ∙ sizes

-- At the beginning of a function's code.
beginning : (funcs : List Func) (code : CodeName) → IsProgram funcs → code.func.0 < length funcs → frame_positions funcs (first_frame code) ≡ (code.func.0, 0) ∷ []
beginning funcs code program known =
    let layout = layout_of funcs code in
    let is = layout_is_code funcs code program known in
    let first_func : func_at layout.units 0 ≡ code.func.0 = ap (λ o. option_map_or (λ (u : CodeUnit). u.func.0) o 0) is.first in
    let alone : positions_above layout 0 ≡ [] = first_units_stand_alone layout 0 (ap (λ o. option_and_then (λ (u : CodeUnit). u.parent) o) is.first) in
    slots_stand layout 0 0 0 (found_is_right layout 0 0 0 is.begins) ∙ ap₂ (λ f more. (f, 0) ∷ more) first_func alone

pub begins : Begins
begins funcs code program known =
    let all : positions funcs (begun code) ≡ (code.func.0, 0) ∷ [] = ap (λ first. first ++ []) (beginning funcs code program known) in
    (stands_so funcs (begun code) ((code.func.0, 0) ∷ []) (frame_at (code.func.0, 0) zeros ∷ []) all refl, has_so funcs (begun code) ((code.func.0, 0) ∷ []) all refl)

-- Going on in a unit.
module _ (funcs : List Func) (it : Physical) (slot : Slot) (index place : ℕ) (registers : List ℕ) (at : IsAtSlot funcs it.frame slot) (is : IsSlotAt (layout_of funcs it.frame.code) slot.unit index place) where
  gone_on_at : positions funcs (gone_on place registers it) ≡ (func_at (layout_of funcs it.frame.code).units slot.unit, index) ∷ below funcs it slot
  gone_on_at = ap (λ first. first ++ stack_positions funcs it.callers) (slots_stand (layout_of funcs it.frame.code) slot.unit index place is)

pub goes_on : GoesOn
goes_on funcs it frame callers slot index place registers stands at is =
    let whole = stack_at funcs it (frame ∷ callers) slot stands at in
    let func_is : func_at (layout_of funcs it.frame.code).units slot.unit ≡ frame.func = ap (λ (f : Frame). f.func) (sym (head_same _ _ _ _ whole)) in
    stands_so funcs (gone_on place registers it) ((frame.func, index) ∷ below funcs it slot) (frame_at (frame.func, index) registers ∷ callers)
    (gone_on_at funcs it slot index place registers at is ∙ ap (λ f. (f, index) ∷ below funcs it slot) func_is)
    (ap (λ rest. frame_at (frame.func, index) registers ∷ rest) (tail_same _ _ _ _ whole))

pub going_on_keeps_registers : GoingOnKeepsRegisters
going_on_keeps_registers funcs it slot index place registers sizes at is =
    has_so funcs (gone_on place registers it) ((func_at (layout_of funcs it.frame.code).units slot.unit, index) ∷ below funcs it slot)
    (gone_on_at funcs it slot index place registers at is) (ap suc (sizes_at funcs it slot sizes at))

-- Calling an inlined function.
module _ (funcs : List Func) (it : Physical) (slot : Slot) (unit place : ℕ) (site : Site) (program : IsProgram funcs) (in_code : IsInCode funcs it.frame) (at : IsAtSlot funcs it.frame slot)
    (site_is : site_of (layout_of funcs it.frame.code).units unit ≡ Some site) (same_unit : site.unit ≡ slot.unit) (same_index : site.index ≡ slot.index)
    (is : IsSlotAt (layout_of funcs it.frame.code) unit 0 place) where
  called_within_at : positions funcs (called_within place it) ≡ (func_at (layout_of funcs it.frame.code).units unit, 0) ∷ positions funcs it
  called_within_at =
      let layout = layout_of funcs it.frame.code in
      let above : positions_above layout unit ≡ slot_positions layout slot =
      units_stand_below_calls funcs it.frame.code unit site program in_code.func site_is
      ∙ ap₂ (λ u i. (func_at layout.units u, i) ∷ positions_above layout u) same_unit same_index in
      ap (λ first. first ++ stack_positions funcs it.callers)
      (slots_stand layout unit 0 place is ∙ ap (λ more. (func_at layout.units unit, 0) ∷ more) (above ∙ sym (positions_at funcs it.frame slot at)))

pub calls_within : CallsWithin
calls_within funcs it stack slot unit place site program in_code stands at site_is same_unit same_index is =
    let func = func_at (layout_of funcs it.frame.code).units unit in
    stands_so funcs (called_within place it) ((func, 0) ∷ positions funcs it) (frame_at (func, 0) it.registers ∷ stack)
    (called_within_at funcs it slot unit place site program in_code at site_is same_unit same_index is)
    (ap (λ rest. frame_at (func, 0) it.registers ∷ rest) stands)

pub calling_within_keeps_registers : CallingWithinKeepsRegisters
calling_within_keeps_registers funcs it slot unit place site program in_code sizes at site_is same_unit same_index is =
    has_so funcs (called_within place it) ((func_at (layout_of funcs it.frame.code).units unit, 0) ∷ positions funcs it)
    (called_within_at funcs it slot unit place site program in_code at site_is same_unit same_index is) (ap suc sizes)

-- Calling a function in a frame of its own.
called_code_at : (funcs : List Func) (it : Physical) (code : CodeName) → IsProgram funcs → code.func.0 < length funcs → positions funcs (called_code (first_frame code) it) ≡ (code.func.0, 0) ∷ positions funcs it
called_code_at funcs it code program known = ap (λ first. first ++ positions funcs it) (beginning funcs code program known)

pub calls_code : CallsCode
calls_code funcs it stack code program known stands =
    stands_so funcs (called_code (first_frame code) it) ((code.func.0, 0) ∷ positions funcs it) (frame_at (code.func.0, 0) it.registers ∷ stack)
    (called_code_at funcs it code program known) (ap (λ rest. frame_at (code.func.0, 0) it.registers ∷ rest) stands)

pub calling_code_keeps_registers : CallingCodeKeepsRegisters
calling_code_keeps_registers funcs it code program known sizes =
    has_so funcs (called_code (first_frame code) it) ((code.func.0, 0) ∷ positions funcs it) (called_code_at funcs it code program known) (ap suc sizes)

-- where there is a function more, it has saved registers
saved_some : (count : ℕ) (saved : List (List ℕ)) → suc count ≡ length saved → (registers : List ℕ) × (more : List (List ℕ)) × (saved ≡ registers ∷ more) × (count ≡ length more)
saved_some count [] same = absurd (omega (arith, same))
saved_some count (registers ∷ more) same = (registers, more, refl, omega (arith, same))

-- A return to a function that is on the stack.
module _ (funcs : List Func) (it : Physical) (layout : LayoutParts) (unit index : ℕ) (others : List Position) (returned : ℕ → ℕ → Physical)
    (goes : (place number : ℕ) → IsSlotAt layout unit (suc index) place → positions funcs (returned place number) ≡ (func_at layout.units unit, suc index) ∷ others)
    (registers_are : (place number : ℕ) → (returned place number).registers ≡ slice_set (unwrap_or (slice_get it.saved 0) it.registers) 0 number)
    (saved_are : (place number : ℕ) → (returned place number).saved ≡ drop 1 it.saved)
    (sizes : suc (length others) ≡ length it.saved) where
  returns_to : (rest : List Frame) → rest ≡ framed ((func_at layout.units unit, index) ∷ others) it.saved → ReturnsTo funcs rest layout unit index returned
  returns_to rest rest_is =
      let func = func_at layout.units unit in
      let some = saved_some (length others) it.saved sizes in
      let registers = some.0 in
      let more = some.1 in
      let caller : Frame = frame_at (func, index) registers in (
        caller,
        framed others more,
        rest_is ∙ ap (framed ((func, index) ∷ others)) some.2,
        refl,
        refl,
        λ place number is.
            let own : (returned place number).registers ≡ slice_set registers 0 number = registers_are place number ∙ ap (λ saved. slice_set (unwrap_or (slice_get saved 0) it.registers) 0 number) some.2 in
            let left : (returned place number).saved ≡ more = saved_are place number ∙ ap (drop 1) some.2 in
            stands_so funcs (returned place number) ((func, suc index) ∷ others) (resumed number caller ∷ framed others more) (goes place number is)
            (sym (ap₂ (λ r m. frame_at (func, suc index) r ∷ framed others m) own left)),
      )

  returning_keeps : (place number : ℕ) → IsSlotAt layout unit (suc index) place → EachHasRegisters funcs (returned place number)
  returning_keeps place number is =
      let some = saved_some (length others) it.saved sizes in
      let left : (returned place number).saved ≡ some.1 = saved_are place number ∙ ap (drop 1) some.2 in
      has_so funcs (returned place number) ((func_at layout.units unit, suc index) ∷ others) (goes place number is) (ap suc (some.3 ∙ sym (ap length left)))

-- Returning from an inlined function.
module _ (funcs : List Func) (it : Physical) (slot : Slot) (site : Site) (program : IsProgram funcs) (in_code : IsInCode funcs it.frame) (sizes : EachHasRegisters funcs it) (at : IsAtSlot funcs it.frame slot)
    (site_is : site_of (layout_of funcs it.frame.code).units slot.unit ≡ Some site) where
  abbrev above_site : List Position
  above_site = positions_above (layout_of funcs it.frame.code) site.unit ++ stack_positions funcs it.callers

  below_inlined : below funcs it slot ≡ site_position (layout_of funcs it.frame.code) site ∷ above_site
  below_inlined = ap (λ first. first ++ stack_positions funcs it.callers) (units_stand_below_calls funcs it.frame.code slot.unit site program in_code.func site_is)

  goes_within : (place number : ℕ) → IsSlotAt (layout_of funcs it.frame.code) site.unit (suc site.index) place → positions funcs (returned_within place number it) ≡ (func_at (layout_of funcs it.frame.code).units site.unit, suc site.index) ∷ above_site
  goes_within place number is = ap (λ first. first ++ stack_positions funcs it.callers) (slots_stand (layout_of funcs it.frame.code) site.unit (suc site.index) place is)

  sizes_within : suc (length above_site) ≡ length it.saved
  sizes_within = sym (ap length below_inlined) ∙ sizes_at funcs it slot sizes at

pub returns_within : ReturnsWithin
returns_within funcs it frame rest slot site program in_code sizes stands at site_is =
    returns_to funcs it (layout_of funcs it.frame.code) site.unit site.index (above_site funcs it slot site program in_code sizes at site_is) (λ place number. returned_within place number it)
    (goes_within funcs it slot site program in_code sizes at site_is) (λ place number. refl) (λ place number. refl) (sizes_within funcs it slot site program in_code sizes at site_is) rest
    (tail_same _ _ _ _ (stack_at funcs it (frame ∷ rest) slot stands at) ∙ ap (λ all. framed all it.saved) (below_inlined funcs it slot site program in_code sizes at site_is))

pub returning_within_keeps_registers : ReturningWithinKeepsRegisters
returning_within_keeps_registers funcs it slot site place number program in_code sizes at site_is is =
    returning_keeps funcs it (layout_of funcs it.frame.code) site.unit site.index (above_site funcs it slot site program in_code sizes at site_is) (λ place number. returned_within place number it)
    (goes_within funcs it slot site program in_code sizes at site_is) (λ place number. refl) (λ place number. refl) (sizes_within funcs it slot site program in_code sizes at site_is) place number is

-- Returning from a frame.
module _ (funcs : List Func) (it : Physical) (slot : Slot) (caller : CodeFrame) (others : List CodeFrame) (caller_slot : Slot) (sizes : EachHasRegisters funcs it) (at : IsAtSlot funcs it.frame slot)
    (none : site_of (layout_of funcs it.frame.code).units slot.unit ≡ None) (callers_are : it.callers ≡ caller ∷ others) (caller_at : IsAtSlot funcs caller caller_slot) where
  abbrev above_caller : List Position
  above_caller = positions_above (layout_of funcs caller.code) caller_slot.unit ++ stack_positions funcs others

  below_first : below funcs it slot ≡ here funcs caller caller_slot ∷ above_caller
  below_first =
      ap₂ (λ first frames. first ++ stack_positions funcs frames) (first_units_stand_alone (layout_of funcs it.frame.code) slot.unit none) callers_are
      ∙ ap (λ first. first ++ stack_positions funcs others) (positions_at funcs caller caller_slot caller_at)

  goes_to_caller : (place number : ℕ) → IsSlotAt (layout_of funcs caller.code) caller_slot.unit (suc caller_slot.index) place
      → positions funcs (returned_to_caller place number it) ≡ (func_at (layout_of funcs caller.code).units caller_slot.unit, suc caller_slot.index) ∷ above_caller
  goes_to_caller place number is =
      ap (λ (frames : List CodeFrame). stack_positions funcs (at_slot (unwrap_or (slice_get frames 0) it.frame) place ∷ drop 1 frames)) callers_are
      ∙ ap (λ first. first ++ stack_positions funcs others) (slots_stand (layout_of funcs caller.code) caller_slot.unit (suc caller_slot.index) place is)

  sizes_to_caller : suc (length above_caller) ≡ length it.saved
  sizes_to_caller = sym (ap length below_first) ∙ sizes_at funcs it slot sizes at

pub returns_to_frame : ReturnsToFrame
returns_to_frame funcs it frame rest slot caller others caller_slot sizes stands at none callers_are caller_at =
    returns_to funcs it (layout_of funcs caller.code) caller_slot.unit caller_slot.index (above_caller funcs it slot caller others caller_slot sizes at none callers_are caller_at)
    (λ place number. returned_to_caller place number it) (goes_to_caller funcs it slot caller others caller_slot sizes at none callers_are caller_at) (λ place number. refl) (λ place number. refl)
    (sizes_to_caller funcs it slot caller others caller_slot sizes at none callers_are caller_at) rest
    (tail_same _ _ _ _ (stack_at funcs it (frame ∷ rest) slot stands at) ∙ ap (λ all. framed all it.saved) (below_first funcs it slot caller others caller_slot sizes at none callers_are caller_at))

pub returning_to_frame_keeps_registers : ReturningToFrameKeepsRegisters
returning_to_frame_keeps_registers funcs it slot caller others caller_slot place number sizes at none callers_are caller_at is =
    returning_keeps funcs it (layout_of funcs caller.code) caller_slot.unit caller_slot.index (above_caller funcs it slot caller others caller_slot sizes at none callers_are caller_at)
    (λ place number. returned_to_caller place number it) (goes_to_caller funcs it slot caller others caller_slot sizes at none callers_are caller_at) (λ place number. refl) (λ place number. refl)
    (sizes_to_caller funcs it slot caller others caller_slot sizes at none callers_are caller_at) place number is

pub last_returns : LastReturns
last_returns funcs it frame rest slot stands at none callers_are =
    let below_is : below funcs it slot ≡ [] = ap₂ (λ first frames. first ++ stack_positions funcs frames) (first_units_stand_alone (layout_of funcs it.frame.code) slot.unit none) callers_are in
    tail_same _ _ _ _ (stack_at funcs it (frame ∷ rest) slot stands at) ∙ ap (λ all. framed all it.saved) below_is

-- As many frames of the plain machine as lists of registers.
framed_length : (all : List Position) (registers : List (List ℕ)) → length all ≡ length registers → length (framed all registers) ≡ length registers
framed_length [] registers same = same
framed_length (position ∷ all) [] same = absurd (omega (arith, same))
framed_length (position ∷ all) (these ∷ registers) same = ap suc (framed_length all registers (omega (arith, same)))

pub callers_are_counted : CallersAreCounted
callers_are_counted funcs it frame callers sizes stands =
    let same : suc (length callers) ≡ suc (length it.saved) = ap length stands ∙ framed_length (positions funcs it) (it.registers ∷ it.saved) sizes in omega (arith, same)

-- Each frame stands for a function.
some_position : (funcs : List Func) (frame : CodeFrame) → IsInCode funcs frame → 1 ≤ length (frame_positions funcs frame)
some_position funcs frame in_code =
    let slot = slot_there funcs frame in_code in
    let size : length (frame_positions funcs frame) ≡ length (slot_positions (layout_of funcs frame.code) slot.0) = ap length (positions_at funcs frame slot.0 slot.1) in omega (arith, size)

some_positions : (funcs : List Func) (stack : List CodeFrame) → AllByRecursion (IsInCode funcs) stack → length stack ≤ length (stack_positions funcs stack)
some_positions funcs [] all = omega arith
some_positions funcs (frame ∷ stack) all =
    let size : length (frame_positions funcs frame ++ stack_positions funcs stack) ≡ length (frame_positions funcs frame) + length (stack_positions funcs stack) = length-append (frame_positions funcs frame) (stack_positions funcs stack) in
    let first = some_position funcs frame all.0 in
    let others = some_positions funcs stack all.1 in omega (arith, size, first, others)

pub frames_are_few : FramesAreFew
frames_are_few funcs it sizes all = let few = some_positions funcs (it.frame ∷ it.callers) all in omega (arith, few, sizes)
