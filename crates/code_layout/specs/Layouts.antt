-- The layouts of a function's code: its plain code, and its code with calls of inline functions inlined.
use Rattle.std.specs.Prelude.{ℕ, zero, suc, ◌+◌, List, [], ◌∷◌, ◌++◌, length, Option, Some, None, if◌then◌else◌}
use Rattle.std.specs.Option.{option_map_or, option_and_then}
use Rattle.std.specs.List.{slice_get}
use Rattle.guest_program.specs.InlinedSize.{body_of, is_inline, called}
use Rattle.guest_program.specs.declared.instr.Func.{Func}
use Rattle.guest_program.specs.declared.instr.Instr.{Instr}
use Rattle.guest_program.specs.declared.instr.Op.{Op}
use Rattle.code_event.specs.Parts.{LayoutParts}
use Rattle.code_event.specs.declared.entry.Entry.{Entry}
use Rattle.code_event.specs.declared.layout.Unit.{Unit as CodeUnit}
use Rattle.code_event.specs.declared.layout.Site.{Site}
use Rattle.code_event.specs.declared.layout.Slot.{Slot}
use Rattle.code_event.specs.declared.layout.TheConstants.Layout.{MAX_ABOVE}

-- how a profile names a function
abbrev pub entry_of : Func → Entry
entry_of func = record { name = func.name; url = func.url; script = func.script; line = func.line; column = func.column }

abbrev pub no_entry : Entry
no_entry = record { name = []; url = []; script = 0; line = 0; column = 0 }

-- how a profile names the function with this number
abbrev pub entry_at : List Func → ℕ → Entry
entry_at funcs number = option_map_or entry_of (slice_get funcs number) no_entry

-- the unit of a function, with the call at which it was inlined, if it was
abbrev pub unit_of : List Func → ℕ → Option Site → CodeUnit
unit_of funcs number parent = record { func = record { 0 = number }; entry = entry_at funcs number; parent = parent }

-- the slots of a unit 0 that are its instructions, of which the first has this index
abbrev pub slots_from : ℕ → List Instr → List Slot
slots_from index [] = []
slots_from index (instr ∷ instrs) = record { unit = 0; index = index; line = instr.line } ∷ slots_from (suc index) instrs

-- the layout of plain code: the function, and a slot for each instruction
abbrev pub plain_layout : List Func → ℕ → LayoutParts
plain_layout funcs number = record { units = unit_of funcs number None ∷ []; slots = slots_from 0 (body_of funcs number) }

-- Parts of a layout: no part,
abbrev pub nothing : LayoutParts
nothing = record { units = []; slots = [] }

-- one part and then the other,
abbrev pub joined : LayoutParts → LayoutParts → LayoutParts
joined one other = record { units = one.units ++ other.units; slots = one.slots ++ other.slots }

-- a slot and then the part,
abbrev pub with_slot : Slot → LayoutParts → LayoutParts
with_slot slot part = record { units = part.units; slots = slot ∷ part.slots }

-- a unit and then the part.
abbrev pub with_unit : CodeUnit → LayoutParts → LayoutParts
with_unit first part = record { units = first ∷ part.units; slots = part.slots }

-- what an operation at a site adds to a layout besides its own slot, where the next unit has this number
abbrev pub Inlined : Type 0
Inlined = ℕ → Site → Op → LayoutParts

-- The slots of these instructions of a unit, of which the first has this index, each followed by what its operation adds.
-- Units are numbered as they are added, from next on.
abbrev pub expanded_from : Inlined → ℕ → ℕ → ℕ → List Instr → LayoutParts
expanded_from inlined unit next index [] = nothing
expanded_from inlined unit next index (instr ∷ instrs) =
    let within = inlined next (record { unit = unit; index = index; line = instr.line }) instr.op in
    with_slot (record { unit = unit; index = index; line = instr.line })
    (joined within (expanded_from inlined unit (next + length within.units) (suc index) instrs))

-- the slots of a unit of this function, which is the last unit so far, each followed by what its operation adds
abbrev pub expanded_by : Inlined → List Func → ℕ → ℕ → LayoutParts
expanded_by inlined funcs number unit = expanded_from inlined unit (suc unit) 0 (body_of funcs number)

-- the function that an operation calls, if it calls one that is marked `inline`
abbrev pub inline_callee : List Func → Op → Option ℕ
inline_callee funcs op = option_and_then (λ callee. if is_inline funcs callee then Some callee else None) (called op)

-- What an operation adds where calls are inlined to this depth: nothing at depth 0; else a call of a function marked
-- `inline` adds a unit of it, expanded to the depth less one.
abbrev pub inlined_at : List Func → ℕ → Inlined
inlined_at funcs zero next site op = nothing
inlined_at funcs (suc depth) next site op =
    option_map_or (λ callee. with_unit (unit_of funcs callee (Some site)) (expanded_by (inlined_at funcs depth) funcs callee next)) (inline_callee funcs op) nothing

-- what a unit of this function is expanded to where calls are inlined to this depth
abbrev pub expanded : List Func → ℕ → ℕ → ℕ → LayoutParts
expanded funcs depth number unit = expanded_by (inlined_at funcs depth) funcs number unit

-- the layout of a function where calls are inlined to this depth
abbrev pub layout_to : List Func → ℕ → ℕ → LayoutParts
layout_to funcs depth number = with_unit (unit_of funcs number None) (expanded funcs depth number 0)

-- the layout of optimised code: calls are inlined where fewer than four units are above
abbrev pub inlined_layout : List Func → ℕ → LayoutParts
inlined_layout funcs number = layout_to funcs MAX_ABOVE number
