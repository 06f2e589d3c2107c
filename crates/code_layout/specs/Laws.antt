-- What holds of the layouts of a function's code. All is said of the layout where calls are inlined to any depth: plain
-- code is the case of depth 0, and optimised code that of four.
use Rattle.std.specs.Prelude.{◌≡◌, ℕ, suc, ◌<◌, ◌≤◌, ◌⊎◌, List, [], ◌∷◌, length, true, Option, Some, None, ◌&&◌, ◌==◌, if◌then◌else◌}
use Rattle.std.specs.Option.{option_map_or}
use Rattle.std.specs.List.{slice_get, AllByRecursion}
use Rattle.guest_program.specs.InlinedSize.{body_of, is_inline, called, inlined_size}
use Rattle.guest_program.specs.Program.{IsProgram}
use Rattle.guest_program.specs.declared.instr.Func.{Func}
use Rattle.guest_program.specs.declared.instr.Instr.{Instr}
use Rattle.code_event.specs.Layout.{sites_above, IsLayout}
use Rattle.code_event.specs.Parts.{LayoutParts}
use Rattle.code_event.specs.declared.layout.Unit.{Unit as CodeUnit}
use Rattle.code_event.specs.declared.layout.Site.{Site}
use Rattle.code_event.specs.declared.layout.Slot.{Slot}
use Rattle.code_event.specs.declared.layout.TheConstants.Layout.{MAX_SLOTS, MAX_ABOVE}
use Rattle.code_layout.specs.Layouts.{unit_of, plain_layout, layout_to}

-- the function of the unit with this number
abbrev pub func_at : List CodeUnit → ℕ → ℕ
func_at units number = option_map_or (λ u. u.func.0) (slice_get units number) 0

-- the instruction of a function with this index has this line
abbrev pub HasLine : List Func → ℕ → ℕ → ℕ → Type 0
HasLine funcs number index line = (instr : Instr) × (slice_get (body_of funcs number) index ≡ Some instr) × (line ≡ instr.line)

-- The call at which a unit was inlined: an instruction of the unit above, with its line, which calls this unit's function, and
-- that is marked `inline`.
abbrev pub IsCallOf : List Func → List CodeUnit → CodeUnit → Site → Type 0
IsCallOf funcs units u site =
    (instr : Instr) × (slice_get (body_of funcs (func_at units site.unit)) site.index ≡ Some instr)
    × (site.line ≡ instr.line) × (called instr.op ≡ Some u.func.0) × (is_inline funcs u.func.0 ≡ true)

-- the place of the slot of a unit and an index in this list, whose first slot has this place
abbrev pub slot_from : ℕ → List Slot → ℕ → ℕ → Option ℕ
slot_from place [] unit index = None
slot_from place (slot ∷ slots) unit index = if slot.unit == unit && slot.index == index then Some place else slot_from (suc place) slots unit index

-- the place of the slot of a unit and an index
abbrev pub slot_of : LayoutParts → ℕ → ℕ → Option ℕ
slot_of layout unit index = slot_from 0 layout.slots unit index

-- what holds of each unit
pub record IsUnitOf (funcs : List Func) (depth : ℕ) (layout : LayoutParts) (number : ℕ) (u : CodeUnit) : Type 0 where
  -- its function is in the program, and the unit has its name
  pub named : (func : Func) × (slice_get funcs u.func.0 ≡ Some func) × (u ≡ unit_of funcs u.func.0 u.parent)
  -- there is a slot for each of its instructions
  pub full : (index : ℕ) → index < length (body_of funcs u.func.0) → (place : ℕ) × (slot_of layout number index ≡ Some place)
  -- all but the first were inlined at a call of a unit with a smaller number, above which there are fewer units than the depth
  pub inlined :
      (number ≡ 0) ⊎ ((site : Site) × (u.parent ≡ Some site) × (site.unit < number) × IsCallOf funcs layout.units u site
      × (length (sites_above depth layout.units site.unit) < depth))
  -- at most this many are above it
  pub shallow : (most : ℕ) → length (sites_above most layout.units number) ≤ depth

-- a slot is an instruction of its unit, with its line
abbrev pub IsSlotOf : List Func → LayoutParts → Slot → Type 0
IsSlotOf funcs layout slot = (slot.unit < length layout.units) × HasLine funcs (func_at layout.units slot.unit) slot.index slot.line

-- the instruction of a slot, as the site of what is inlined there
abbrev pub site_at : Slot → Site
site_at slot = record { unit = slot.unit; index = slot.index; line = slot.line }

-- there is a unit of this function, which was inlined at this site, and its first slot stands at this place
abbrev pub BeginsAt : List Func → LayoutParts → ℕ → Site → ℕ → Type 0
BeginsAt funcs layout callee site place =
    (number line : ℕ) × (slice_get layout.units number ≡ Some (unit_of funcs callee (Some site))) × (slice_get layout.slots place ≡ Some (record { unit = number; index = 0; line = line }))

-- where a slot is a call of a function that is marked `inline`, and fewer units than the depth are above, that function follows
abbrev pub IsFollowed : List Func → ℕ → LayoutParts → ℕ → Slot → Type 0
IsFollowed funcs depth layout place slot =
    (instr : Instr) (callee : ℕ) → slice_get (body_of funcs (func_at layout.units slot.unit)) slot.index ≡ Some instr → called instr.op ≡ Some callee
    → is_inline funcs callee ≡ true → length (sites_above depth layout.units slot.unit) < depth → BeginsAt funcs layout callee (site_at slot) (suc place)

-- what holds of a layout of a function's code
pub record IsCodeOf (funcs : List Func) (depth number : ℕ) (layout : LayoutParts) : Type 0 where
  -- unit 0 is the function
  pub first : slice_get layout.units 0 ≡ Some (unit_of funcs number None)
  -- the first slot is its first instruction
  pub begins : slot_of layout 0 0 ≡ Some 0
  pub units : (place : ℕ) (u : CodeUnit) → slice_get layout.units place ≡ Some u → IsUnitOf funcs depth layout place u
  pub slots : AllByRecursion (IsSlotOf funcs layout) layout.slots
  pub calls : (place : ℕ) (slot : Slot) → slice_get layout.slots place ≡ Some slot → IsFollowed funcs depth layout place slot

-- Layouts are code of their functions.
abbrev pub LayoutsAreCode : Type 0
LayoutsAreCode = (funcs : List Func) (depth number : ℕ) → IsProgram funcs → number < length funcs → IsCodeOf funcs depth number (layout_to funcs depth number)

-- Where no calls are inlined, the layout is the plain one.
abbrev pub PlainInlinesNothing : Type 0
PlainInlinesNothing = (funcs : List Func) (number : ℕ) → plain_layout funcs number ≡ layout_to funcs 0 number

-- In plain code the slot of an instruction stands at its index.
abbrev pub PlainSlotsAreInstructions : Type 0
PlainSlotsAreInstructions =
    (funcs : List Func) (number index : ℕ) (instr : Instr) → slice_get (body_of funcs number) index ≡ Some instr
    → slice_get (plain_layout funcs number).slots index ≡ Some (record { unit = 0; index = index; line = instr.line })

-- The slot that is found for a unit and an index has that unit and that index.
abbrev pub FoundSlotsAreRight : Type 0
FoundSlotsAreRight =
    (layout : LayoutParts) (unit index place : ℕ) → slot_of layout unit index ≡ Some place
    → (slot : Slot) × (slice_get layout.slots place ≡ Some slot) × (slot.unit ≡ unit) × (slot.index ≡ index)

-- There are as many slots as the inlined size.
abbrev pub SlotsAreCounted : Type 0
SlotsAreCounted = (funcs : List Func) (depth number : ℕ) → length (layout_to funcs depth number).slots ≡ inlined_size funcs depth number

-- Where the inlined size is at most that of a layout, and calls are inlined at most as deep as in one, the rules of a layout
-- are kept.
abbrev pub SmallIsLayout : Type 0
SmallIsLayout =
    (funcs : List Func) (depth number : ℕ) → IsProgram funcs → number < length funcs → depth ≤ MAX_ABOVE → inlined_size funcs depth number ≤ MAX_SLOTS
    → IsLayout (layout_to funcs depth number)
