-- The physical stack of the machine: frames in code, of which each can stand for several functions, and what they stand for.
use Rattle.std.specs.Prelude.{◌≡◌, ℕ, suc, ◌+◌, ◌*◌, List, [], ◌∷◌, length, map, flat_map, Bool, true, false, ◌&&◌, ◌==◌, Option, unwrap_or, drop, slice_set, if◌then◌else◌}
use Rattle.std.specs.Option.{option_map_or}
use Rattle.std.specs.List.{slice_get}
use Rattle.guest_program.specs.declared.instr.Func.{Func}
use Rattle.code_event.specs.Layout.{sites_above}
use Rattle.code_event.specs.Parts.{LayoutParts}
use Rattle.code_event.specs.declared.layout.TheConstants.{SLOT_SIZE}
use Rattle.code_event.specs.declared.layout.TheConstants.Layout.{MAX_ABOVE}
use Rattle.code_event.specs.declared.layout.Site.{Site}
use Rattle.code_event.specs.declared.layout.Slot.{Slot}
use Rattle.code_event.specs.declared.seen.ResolvedFrame.{ResolvedFrame}
use Rattle.code_layout.specs.Laws.{func_at}
use Rattle.code_objects.specs.CodeObjects.{layout_of}
use Rattle.code_objects.specs.declared.name.CodeKind.{CodeKind}
use Rattle.code_objects.specs.declared.name.CodeKind.TheVariants.{Plain, Optimised}
use Rattle.code_objects.specs.declared.name.CodeName.{CodeName}
use Rattle.plain_machine.specs.PlainMachine.{Frame, zeros}
use Rattle.plain_machine.specs.PlainFrames.{resolved_frame}
use Rattle.guest_stack.specs.declared.stack.CodeFrame.{CodeFrame}

-- a function, and the index of one of its instructions
abbrev pub Position : Type 0
Position = ℕ × ℕ

-- the call at which a unit was inlined
abbrev pub site_position : LayoutParts → Site → Position
site_position layout site = (func_at layout.units site.unit, site.index)

-- the calls at which a unit and those above it were inlined, the innermost first
abbrev pub positions_above : LayoutParts → ℕ → List Position
positions_above layout unit = map (site_position layout) (sites_above MAX_ABOVE layout.units unit)

-- what a slot stands for, youngest first: the function of its unit at its index, and the calls above that unit
abbrev pub slot_positions : LayoutParts → Slot → List Position
slot_positions layout slot = (func_at layout.units slot.unit, slot.index) ∷ positions_above layout slot.unit

-- the slot of a frame, if its code has that slot
abbrev pub slot_of_frame : List Func → CodeFrame → Option Slot
slot_of_frame funcs frame = slice_get (layout_of funcs frame.code).slots frame.slot

-- what a frame stands for, youngest first
abbrev pub frame_positions : List Func → CodeFrame → List Position
frame_positions funcs frame = option_map_or (slot_positions (layout_of funcs frame.code)) (slot_of_frame funcs frame) []

-- what a stack stands for, both youngest first
abbrev pub stack_positions : List Func → List CodeFrame → List Position
stack_positions funcs stack = flat_map (frame_positions funcs) stack

-- the address of a frame's slot, where code starts at these addresses
abbrev pub address : (CodeName → Option ℕ) → CodeFrame → ℕ
address starts frame = unwrap_or (starts frame.code) 0 + SLOT_SIZE * frame.slot

-- the addresses of a stack, both youngest first: that of the youngest frame's slot, and the return address of each other frame, which follows its slot
abbrev pub addresses : (CodeName → Option ℕ) → List CodeFrame → List ℕ
addresses starts [] = []
addresses starts (youngest ∷ callers) = address starts youngest ∷ map (λ frame. address starts frame + SLOT_SIZE) callers

-- the plain machine's frame at a position, with these registers
abbrev pub frame_at : Position → List ℕ → Frame
frame_at position registers = record { func = position.0; index = position.1; registers = registers }

-- the plain machine's frames at these positions, each with its registers
abbrev pub framed : List Position → List (List ℕ) → List Frame
framed [] registers = []
framed (position ∷ positions) [] = []
framed (position ∷ positions) (registers ∷ more) = frame_at position registers ∷ framed positions more

-- the functions of these positions, each at the line of its index
abbrev pub resolved_positions : List Func → List Position → List ResolvedFrame
resolved_positions funcs positions = flat_map (λ position. resolved_frame funcs (frame_at position [])) positions

-- The physical stack: the youngest frame, its callers, the registers of the youngest function, and the saved registers of each
-- other function on the stack, inlined or not. All lists have the youngest first.
pub record Physical : Type 0 where
  pub frame : CodeFrame
  pub callers : List CodeFrame
  pub registers : List ℕ
  pub saved : List (List ℕ)

-- what the physical stack stands for, youngest first
abbrev pub positions : List Func → Physical → List Position
positions funcs it = stack_positions funcs (it.frame ∷ it.callers)

-- the physical stack stands for this stack of the plain machine
abbrev pub Stands : List Func → Physical → List Frame → Type 0
Stands funcs it stack = stack ≡ framed (positions funcs it) (it.registers ∷ it.saved)

-- there are as many lists of registers as functions on the stack
abbrev pub EachHasRegisters : List Func → Physical → Type 0
EachHasRegisters funcs it = length (positions funcs it) ≡ length (it.registers ∷ it.saved)

-- a frame at the first slot of a code
abbrev pub first_frame : CodeName → CodeFrame
first_frame code = record { code = code; slot = 0 }

-- the stack at the first slot of a code, with no caller, and with zeros in the registers
abbrev pub begun : CodeName → Physical
begun code = record { frame = first_frame code; callers = []; registers = zeros; saved = [] }

-- the frame at another slot of its code
abbrev pub at_slot : CodeFrame → ℕ → CodeFrame
at_slot frame slot = record { code = frame.code; slot = slot }

-- the youngest frame is at this slot of its code, with these registers
abbrev pub gone_on : ℕ → List ℕ → Physical → Physical
gone_on slot registers it = record { frame = at_slot it.frame slot; callers = it.callers; registers = registers; saved = it.saved }

-- an inlined function is called, whose first slot this is: it gets a copy of the registers
abbrev pub called_within : ℕ → Physical → Physical
called_within slot it = record { frame = at_slot it.frame slot; callers = it.callers; registers = it.registers; saved = it.registers ∷ it.saved }

-- a function is called in a frame of its own: it gets a copy of the registers
abbrev pub called_code : CodeFrame → Physical → Physical
called_code frame it = record { frame = frame; callers = it.frame ∷ it.callers; registers = it.registers; saved = it.registers ∷ it.saved }

-- an inlined function returns: the function above it is at this slot of the same frame, with its own registers and this number in r0
abbrev pub returned_within : ℕ → ℕ → Physical → Physical
returned_within slot number it =
    record { frame = at_slot it.frame slot; callers = it.callers; registers = slice_set (unwrap_or (slice_get it.saved 0) it.registers) 0 number; saved = drop 1 it.saved }

-- a function returns from a frame of its own: the frame's caller is at this slot, with its own registers and this number in r0
abbrev pub returned_to_caller : ℕ → ℕ → Physical → Physical
returned_to_caller slot number it =
    record {
      frame = at_slot (unwrap_or (slice_get it.callers 0) it.frame) slot;
      callers = drop 1 it.callers;
      registers = slice_set (unwrap_or (slice_get it.saved 0) it.registers) 0 number;
      saved = drop 1 it.saved;
    }

-- the plain machine's caller goes on after its call, with this number in r0
abbrev pub resumed : ℕ → Frame → Frame
resumed number caller = record { func = caller.func; index = suc caller.index; registers = slice_set caller.registers 0 number }

-- the frame of plain code at a position
abbrev pub plain_code_frame : Position → CodeFrame
plain_code_frame position = record { code = record { func = record { 0 = position.0 }; kind = Plain }; slot = position.1 }

abbrev pub is_optimised : CodeKind → Bool
is_optimised Plain = false
is_optimised Optimised = true

-- whether a code is the optimised code of the function with this number
abbrev pub is_optimised_of : ℕ → CodeName → Bool
is_optimised_of func code = code.func.0 == func && is_optimised code.kind

-- What a frame becomes where the optimised code of a function is given up, youngest first: a frame in that code becomes frames
-- of plain code, one for each function that it stands for.
abbrev pub given_up : List Func → ℕ → CodeFrame → List CodeFrame
given_up funcs func frame = if is_optimised_of func frame.code then map plain_code_frame (frame_positions funcs frame) else frame ∷ []

-- what a stack becomes where the optimised code of a function is given up, both youngest first
abbrev pub all_given_up : List Func → ℕ → List CodeFrame → List CodeFrame
all_given_up funcs func stack = flat_map (given_up funcs func) stack
