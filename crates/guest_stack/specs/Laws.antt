-- What holds of physical stacks. What the machine does to its frames is what the plain machine does to its own, and the
-- addresses of the frames, read through the ranges of the code, name the functions and lines of the plain machine.
use Rattle.std.specs.Prelude.{◌≡◌, ◌↔◌, ℕ, suc, ◌<◌, ◌≤◌, List, [], ◌∷◌, length, map, false, Option, Some, None}
use Rattle.std.specs.Option.{option_map_or}
use Rattle.std.specs.List.{slice_get, AllByRecursion}
use Rattle.guest_program.specs.InlinedSize.{body_of, called}
use Rattle.guest_program.specs.Program.{IsProgram}
use Rattle.guest_program.specs.declared.instr.Func.{Func}
use Rattle.guest_program.specs.declared.instr.Instr.{Instr}
use Rattle.code_event.specs.Layout.{site_of}
use Rattle.code_event.specs.Laws.{AreDisjoint}
use Rattle.code_event.specs.Parts.{LayoutParts}
use Rattle.code_event.specs.Symbolizer.{stack_frames, frames_over}
use Rattle.code_event.specs.declared.code_map.Range.{Range}
use Rattle.code_event.specs.declared.layout.Site.{Site}
use Rattle.code_event.specs.declared.layout.Slot.{Slot}
use Rattle.code_layout.specs.Laws.{func_at, slot_of, IsCodeOf}
use Rattle.code_objects.specs.CodeObjects.{layout_of, IsCode}
use Rattle.code_objects.specs.declared.name.CodeName.{CodeName}
use Rattle.plain_machine.specs.PlainMachine.{State, Frame}
use Rattle.plain_machine.specs.PlainFrames.{plain_frames}
use Rattle.guest_stack.specs.Stack.{Position, site_position, positions_above, slot_positions, slot_of_frame, stack_positions, addresses, frame_at, resolved_positions, Physical, Stands, EachHasRegisters, first_frame, begun, gone_on, called_within, called_code, returned_within, returned_to_caller, resumed, plain_code_frame, is_optimised_of, all_given_up}
use Rattle.guest_stack.specs.declared.stack.CodeFrame.{CodeFrame}

-- a frame is in the code of a function of the program, at one of its slots
pub record IsInCode (funcs : List Func) (frame : CodeFrame) : Type 0 where
  pub func : frame.code.func.0 < length funcs
  pub slot : frame.slot < length (layout_of funcs frame.code).slots

-- a frame is in code that starts somewhere
pub record IsPlaced (funcs : List Func) (starts : CodeName → Option ℕ) (frame : CodeFrame) : Type 0 where
  pub code : IsInCode funcs frame
  pub start : (start : ℕ) × (starts frame.code ≡ Some start)

-- Read through the ranges of the code, the addresses of a stack name the functions and lines that the stack stands for.
abbrev pub StacksAreRead : Type 0
StacksAreRead =
    (funcs : List Func) (starts : CodeName → Option ℕ) (ranges : List Range) (stack : List CodeFrame)
    → IsProgram funcs → IsCode (layout_of funcs) starts ranges → AreDisjoint ranges → AllByRecursion (IsPlaced funcs starts) stack
    → stack_frames ranges (addresses starts stack) ≡ resolved_positions funcs (stack_positions funcs stack)

-- Where the physical stack stands for that of the plain machine, its addresses, read through the ranges of the code, name the
-- functions and lines of the plain machine, whatever the engine does.
abbrev pub StackIsPlain : Type 0
StackIsPlain =
    (funcs : List Func) (starts : CodeName → Option ℕ) (ranges : List Range) (it : Physical) (state : State)
    → IsProgram funcs → IsCode (layout_of funcs) starts ranges → AreDisjoint ranges → AllByRecursion (IsPlaced funcs starts) (it.frame ∷ it.callers)
    → EachHasRegisters funcs it → Stands funcs it state.stack
    → frames_over ranges state.state (addresses starts (it.frame ∷ it.callers)) ≡ plain_frames funcs state

-- the slot at this place is that of the unit and the index
abbrev pub IsSlotAt : LayoutParts → ℕ → ℕ → ℕ → Type 0
IsSlotAt layout unit index place = (slot : Slot) × (slice_get layout.slots place ≡ Some slot) × (slot.unit ≡ unit) × (slot.index ≡ index)

-- The slot of a unit and an index stands for the unit's function at that index, and for the calls above the unit.
abbrev pub SlotsStand : Type 0
SlotsStand =
    (layout : LayoutParts) (unit index place : ℕ) → IsSlotAt layout unit index place
    → option_map_or (slot_positions layout) (slice_get layout.slots place) [] ≡ (func_at layout.units unit, index) ∷ positions_above layout unit

-- So does the slot that is found for them.
abbrev pub FoundSlotsStand : Type 0
FoundSlotsStand =
    (layout : LayoutParts) (unit index place : ℕ) → slot_of layout unit index ≡ Some place
    → option_map_or (slot_positions layout) (slice_get layout.slots place) [] ≡ (func_at layout.units unit, index) ∷ positions_above layout unit

-- Above an inlined unit is its call, and then what is above the unit of that call.
abbrev pub UnitsStandBelowCalls : Type 0
UnitsStandBelowCalls =
    (funcs : List Func) (code : CodeName) (unit : ℕ) (site : Site)
    → IsProgram funcs → code.func.0 < length funcs → site_of (layout_of funcs code).units unit ≡ Some site
    → positions_above (layout_of funcs code) unit ≡ site_position (layout_of funcs code) site ∷ positions_above (layout_of funcs code) site.unit

-- Above a unit that was not inlined is no call.
abbrev pub FirstUnitsStandAlone : Type 0
FirstUnitsStandAlone = (layout : LayoutParts) (unit : ℕ) → site_of layout.units unit ≡ None → positions_above layout unit ≡ []

-- No slot is found for a unit and an index exactly where the index is past the end of the body of the unit's function.
abbrev pub SlotsEndWithBodies : Type 0
SlotsEndWithBodies =
    (funcs : List Func) (depth number : ℕ) (layout : LayoutParts) (unit index : ℕ) → IsCodeOf funcs depth number layout → unit < length layout.units
    → (slot_of layout unit index ≡ None) ↔ (length (body_of funcs (func_at layout.units unit)) ≤ index)

-- An inlined unit's site is a call of its function, by an instruction of a unit of the layout.
abbrev pub InlinedUnitsAreCalled : Type 0
InlinedUnitsAreCalled =
    (funcs : List Func) (depth number : ℕ) (layout : LayoutParts) (unit : ℕ) (site : Site) → IsCodeOf funcs depth number layout → site_of layout.units unit ≡ Some site
    → (site.unit < length layout.units)
    × ((instr : Instr) × (slice_get (body_of funcs (func_at layout.units site.unit)) site.index ≡ Some instr) × (called instr.op ≡ Some (func_at layout.units unit)))

-- the slot of a frame
abbrev pub IsAtSlot : List Func → CodeFrame → Slot → Type 0
IsAtSlot funcs frame slot = slot_of_frame funcs frame ≡ Some slot

-- At the first slot of the code of a function, with no caller and with zeros in the registers, the stack stands for that of the
-- plain machine that has just begun there.
abbrev pub Begins : Type 0
Begins =
    (funcs : List Func) (code : CodeName) → IsProgram funcs → code.func.0 < length funcs
    → Stands funcs (begun code) (frame_at (code.func.0, 0) (begun code).registers ∷ []) × EachHasRegisters funcs (begun code)

-- The youngest frame of the plain machine is the function of the unit of the youngest frame's slot, at the slot's index.
abbrev pub YoungestIsAtSlot : Type 0
YoungestIsAtSlot =
    (funcs : List Func) (it : Physical) (frame : Frame) (callers : List Frame) (slot : Slot) → Stands funcs it (frame ∷ callers) → IsAtSlot funcs it.frame slot
    → frame ≡ frame_at (func_at (layout_of funcs it.frame.code).units slot.unit, slot.index) it.registers

-- At the slot of another index of its unit, with other registers, the youngest frame stands for its function at that index, with those registers.
abbrev pub GoesOn : Type 0
GoesOn =
    (funcs : List Func) (it : Physical) (frame : Frame) (callers : List Frame) (slot : Slot) (index place : ℕ) (registers : List ℕ)
    → Stands funcs it (frame ∷ callers) → IsAtSlot funcs it.frame slot → IsSlotAt (layout_of funcs it.frame.code) slot.unit index place
    → Stands funcs (gone_on place registers it) (frame_at (frame.func, index) registers ∷ callers)

-- At the first slot of a unit that was inlined at the youngest frame's slot, the youngest frame stands for one function more: that of the unit, at its beginning.
abbrev pub CallsWithin : Type 0
CallsWithin =
    (funcs : List Func) (it : Physical) (stack : List Frame) (slot : Slot) (unit place : ℕ) (site : Site)
    → IsProgram funcs → IsInCode funcs it.frame → Stands funcs it stack → IsAtSlot funcs it.frame slot
    → site_of (layout_of funcs it.frame.code).units unit ≡ Some site → site.unit ≡ slot.unit → site.index ≡ slot.index
    → IsSlotAt (layout_of funcs it.frame.code) unit 0 place
    → Stands funcs (called_within place it) (frame_at (func_at (layout_of funcs it.frame.code).units unit, 0) it.registers ∷ stack)

-- A new frame at the first slot of a function's code stands for one function more: that one, at its beginning.
abbrev pub CallsCode : Type 0
CallsCode =
    (funcs : List Func) (it : Physical) (stack : List Frame) (code : CodeName) → IsProgram funcs → code.func.0 < length funcs → Stands funcs it stack
    → Stands funcs (called_code (first_frame code) it) (frame_at (code.func.0, 0) it.registers ∷ stack)

-- The plain machine has a caller at this position. Where there is a slot after its call, at such a slot it goes on.
abbrev pub ReturnsTo : List Func → List Frame → LayoutParts → ℕ → ℕ → (ℕ → ℕ → Physical) → Type 0
ReturnsTo funcs rest layout unit index returned =
    (caller : Frame) × (callers : List Frame) × (rest ≡ caller ∷ callers) × (caller.func ≡ func_at layout.units unit) × (caller.index ≡ index)
    × ((place number : ℕ) → IsSlotAt layout unit (suc index) place → Stands funcs (returned place number) (resumed number caller ∷ callers))

-- In an inlined unit, the caller of the youngest function is the function of the unit above, at the call that was inlined; at the slot after that call it goes on.
abbrev pub ReturnsWithin : Type 0
ReturnsWithin =
    (funcs : List Func) (it : Physical) (frame : Frame) (rest : List Frame) (slot : Slot) (site : Site)
    → IsProgram funcs → IsInCode funcs it.frame → EachHasRegisters funcs it → Stands funcs it (frame ∷ rest) → IsAtSlot funcs it.frame slot
    → site_of (layout_of funcs it.frame.code).units slot.unit ≡ Some site
    → ReturnsTo funcs rest (layout_of funcs it.frame.code) site.unit site.index (λ place number. returned_within place number it)

-- In a unit that was not inlined, the caller of the youngest function is the function of the next frame's slot; at the slot after that it goes on.
abbrev pub ReturnsToFrame : Type 0
ReturnsToFrame =
    (funcs : List Func) (it : Physical) (frame : Frame) (rest : List Frame) (slot : Slot) (caller : CodeFrame) (others : List CodeFrame) (caller_slot : Slot)
    → EachHasRegisters funcs it → Stands funcs it (frame ∷ rest) → IsAtSlot funcs it.frame slot → site_of (layout_of funcs it.frame.code).units slot.unit ≡ None
    → it.callers ≡ caller ∷ others → IsAtSlot funcs caller caller_slot
    → ReturnsTo funcs rest (layout_of funcs caller.code) caller_slot.unit caller_slot.index (λ place number. returned_to_caller place number it)

-- Where there is no next frame, the youngest function has no caller.
abbrev pub LastReturns : Type 0
LastReturns =
    (funcs : List Func) (it : Physical) (frame : Frame) (rest : List Frame) (slot : Slot)
    → Stands funcs it (frame ∷ rest) → IsAtSlot funcs it.frame slot → site_of (layout_of funcs it.frame.code).units slot.unit ≡ None → it.callers ≡ [] → rest ≡ []

-- Each of these leaves as many lists of registers as there are functions on the stack: going on in a unit,
abbrev pub GoingOnKeepsRegisters : Type 0
GoingOnKeepsRegisters =
    (funcs : List Func) (it : Physical) (slot : Slot) (index place : ℕ) (registers : List ℕ)
    → EachHasRegisters funcs it → IsAtSlot funcs it.frame slot → IsSlotAt (layout_of funcs it.frame.code) slot.unit index place
    → EachHasRegisters funcs (gone_on place registers it)

-- calling an inlined function,
abbrev pub CallingWithinKeepsRegisters : Type 0
CallingWithinKeepsRegisters =
    (funcs : List Func) (it : Physical) (slot : Slot) (unit place : ℕ) (site : Site)
    → IsProgram funcs → IsInCode funcs it.frame → EachHasRegisters funcs it → IsAtSlot funcs it.frame slot
    → site_of (layout_of funcs it.frame.code).units unit ≡ Some site → site.unit ≡ slot.unit → site.index ≡ slot.index
    → IsSlotAt (layout_of funcs it.frame.code) unit 0 place → EachHasRegisters funcs (called_within place it)

-- calling a function in a frame of its own,
abbrev pub CallingCodeKeepsRegisters : Type 0
CallingCodeKeepsRegisters =
    (funcs : List Func) (it : Physical) (code : CodeName) → IsProgram funcs → code.func.0 < length funcs → EachHasRegisters funcs it
    → EachHasRegisters funcs (called_code (first_frame code) it)

-- returning from an inlined function,
abbrev pub ReturningWithinKeepsRegisters : Type 0
ReturningWithinKeepsRegisters =
    (funcs : List Func) (it : Physical) (slot : Slot) (site : Site) (place number : ℕ)
    → IsProgram funcs → IsInCode funcs it.frame → EachHasRegisters funcs it → IsAtSlot funcs it.frame slot
    → site_of (layout_of funcs it.frame.code).units slot.unit ≡ Some site → IsSlotAt (layout_of funcs it.frame.code) site.unit (suc site.index) place
    → EachHasRegisters funcs (returned_within place number it)

-- and returning from a frame.
abbrev pub ReturningToFrameKeepsRegisters : Type 0
ReturningToFrameKeepsRegisters =
    (funcs : List Func) (it : Physical) (slot : Slot) (caller : CodeFrame) (others : List CodeFrame) (caller_slot : Slot) (place number : ℕ)
    → EachHasRegisters funcs it → IsAtSlot funcs it.frame slot → site_of (layout_of funcs it.frame.code).units slot.unit ≡ None
    → it.callers ≡ caller ∷ others → IsAtSlot funcs caller caller_slot → IsSlotAt (layout_of funcs caller.code) caller_slot.unit (suc caller_slot.index) place
    → EachHasRegisters funcs (returned_to_caller place number it)

-- The plain machine has as many callers as there are saved lists of registers.
abbrev pub CallersAreCounted : Type 0
CallersAreCounted =
    (funcs : List Func) (it : Physical) (frame : Frame) (callers : List Frame) → EachHasRegisters funcs it → Stands funcs it (frame ∷ callers) → length callers ≡ length it.saved

-- There are at most as many frames as functions on the stack.
abbrev pub FramesAreFew : Type 0
FramesAreFew =
    (funcs : List Func) (it : Physical) → EachHasRegisters funcs it → AllByRecursion (IsInCode funcs) (it.frame ∷ it.callers) → length it.callers ≤ length it.saved

-- Frames of plain code stand for the positions that they are made for.
abbrev pub PlainCodeFramesStand : Type 0
PlainCodeFramesStand =
    (funcs : List Func) (all : List Position) → AllByRecursion (λ position. position.1 < length (body_of funcs position.0)) all
    → stack_positions funcs (map plain_code_frame all) ≡ all

-- Where the optimised code of a function is given up, the stack stands for the same as before.
abbrev pub GivenUpStand : Type 0
GivenUpStand =
    (funcs : List Func) (func : ℕ) (stack : List CodeFrame) → IsProgram funcs → AllByRecursion (IsInCode funcs) stack
    → stack_positions funcs (all_given_up funcs func stack) ≡ stack_positions funcs stack

-- Then each frame is in code,
abbrev pub GivenUpAreInCode : Type 0
GivenUpAreInCode =
    (funcs : List Func) (func : ℕ) (stack : List CodeFrame) → IsProgram funcs → AllByRecursion (IsInCode funcs) stack
    → AllByRecursion (IsInCode funcs) (all_given_up funcs func stack)

-- and none is in the code that was given up.
abbrev pub NoneIsInGivenUpCode : Type 0
NoneIsInGivenUpCode =
    (funcs : List Func) (func : ℕ) (stack : List CodeFrame) → AllByRecursion (λ frame. is_optimised_of func frame.code ≡ false) (all_given_up funcs func stack)
