-- What slots and frames stand for.
use Rattle.std.proofs.Common.{◌≡◌, ℕ, zero, suc, ◌<◌, ◌≤◌, List, [], ◌∷◌, length, map, ◌⊎◌, inl, inr, refl, ap, ap₂, ◌∙◌, sym, subst, arith}
use Rattle.std.proofs.lemmas.Bool.{cases_lt}
use Rattle.std.proofs.lemmas.Option.{slice_get_within, slice_get_past}
use Rattle.std.specs.Prelude.{Option, Some, None}
use Rattle.std.specs.Option.{option_map_or, option_and_then}
use Rattle.std.specs.List.{slice_get}
use Rattle.guest_program.specs.InlinedSize.{body_of, called}
use Rattle.guest_program.specs.Program.{IsProgram}
use Rattle.guest_program.specs.declared.instr.Func.{Func}
use Rattle.guest_program.specs.declared.instr.Instr.{Instr}
use Rattle.code_event.specs.Layout.{site_of, sites_above}
use Rattle.code_event.specs.Parts.{LayoutParts}
use Rattle.code_event.specs.declared.layout.Unit.{Unit as CodeUnit}
use Rattle.code_event.specs.declared.layout.Site.{Site}
use Rattle.code_event.specs.declared.layout.Slot.{Slot}
use Rattle.code_layout.specs.Layouts.{unit_of}
use Rattle.code_layout.specs.Laws.{func_at, slot_of, IsCallOf, IsCodeOf, IsSlotOf}
use Rattle.code_layout.proofs.Standing.{found_is_right}
use Rattle.code_layout.proofs.Expanding.{get_there, layouts_are_code}
use Rattle.code_objects.specs.CodeObjects.{layout_of, depth_of}
use Rattle.code_objects.specs.declared.name.CodeKind.{CodeKind}
use Rattle.code_objects.specs.declared.name.CodeKind.TheVariants.{Plain, Optimised}
use Rattle.code_objects.specs.declared.name.CodeName.{CodeName}
use Rattle.plain_machine.proofs.InBody.{got, body_short}
use Rattle.guest_stack.specs.Stack.{site_position, positions_above, slot_positions, frame_positions, first_frame}
use Rattle.guest_stack.specs.Laws.{IsInCode, IsSlotAt, IsAtSlot, SlotsStand, FoundSlotsStand, UnitsStandBelowCalls, FirstUnitsStandAlone, SlotsEndWithBodies, InlinedUnitsAreCalled}
use Rattle.guest_stack.specs.declared.stack.CodeFrame.{CodeFrame}

-- the layout of the code of a function of the program
pub layout_is_code : (funcs : List Func) (code : CodeName) → IsProgram funcs → code.func.0 < length funcs → IsCodeOf funcs (depth_of code.kind) code.func.0 (layout_of funcs code)
unfolding layout_of
layout_is_code funcs code program there = layouts_are_code funcs (depth_of code.kind) code.func.0 program there

-- calls are inlined to a depth of at most four
pub kinds_are_shallow : (kind : CodeKind) → depth_of kind ≤ 4
kinds_are_shallow Plain = omega arith
kinds_are_shallow Optimised = omega arith

-- the slot at a place of code of the program is an instruction of its unit
pub slot_is : (funcs : List Func) (code : CodeName) (place : ℕ) (slot : Slot) → IsProgram funcs → code.func.0 < length funcs → slice_get (layout_of funcs code).slots place ≡ Some slot → IsSlotOf funcs (layout_of funcs code) slot
slot_is funcs code place slot program there at = got (IsSlotOf funcs (layout_of funcs code)) (layout_of funcs code).slots place slot (layout_is_code funcs code program there).slots at

-- a frame in code is at a slot
pub slot_there : (funcs : List Func) (frame : CodeFrame) → IsInCode funcs frame → (slot : Slot) × IsAtSlot funcs frame slot
slot_there funcs frame in_code = get_there (layout_of funcs frame.code).slots frame.slot in_code.slot

-- a place at which there is a slot is one of the layout's places
pub slot_within : (layout : LayoutParts) (unit index place : ℕ) → IsSlotAt layout unit index place → place < length layout.slots
slot_within layout unit index place is = slice_get_within layout.slots place is.0 is.1

pub slots_stand : SlotsStand
slots_stand layout unit index place is =
    ap (λ o. option_map_or (slot_positions layout) o []) is.1 ∙ ap₂ (λ u i. (func_at layout.units u, i) ∷ positions_above layout u) is.2 is.3

pub found_slots_stand : FoundSlotsStand
found_slots_stand layout unit index place found = slots_stand layout unit index place (found_is_right layout unit index place found)

-- the site of a unit, then those above the unit of that site
pub above_some : (most : ℕ) (units : List CodeUnit) (number : ℕ) (site : Site) → site_of units number ≡ Some site → sites_above (suc most) units number ≡ site ∷ sites_above most units site.unit
above_some most units number site is = ap (λ o. option_map_or (λ s. s ∷ sites_above most units s.unit) o []) is

pub above_none : (most : ℕ) (units : List CodeUnit) (number : ℕ) → site_of units number ≡ None → sites_above most units number ≡ []
above_none zero units number none = refl
above_none (suc most) units number none = ap (λ o. option_map_or (λ s. s ∷ sites_above most units s.unit) o []) none

-- where there are at most this many, those are all
enough : (most : ℕ) (units : List CodeUnit) (number : ℕ) → length (sites_above (suc most) units number) ≤ most → sites_above most units number ≡ sites_above (suc most) units number
enough most units number few = enough_case most units number (site_of units number) refl few
  where
    enough_case : (most : ℕ) (units : List CodeUnit) (number : ℕ) (o : Option Site) → site_of units number ≡ o → length (sites_above (suc most) units number) ≤ most → sites_above most units number ≡ sites_above (suc most) units number
    enough_case most units number None is few = above_none most units number is ∙ sym (above_none (suc most) units number is)
    enough_case zero units number (Some site) is few =
        let size : length (sites_above 1 units number) ≡ 1 = ap length (above_some 0 units number site is) in absurd (omega (arith, size, few))
    enough_case (suc most) units number (Some site) is few =
        let size : length (sites_above (suc (suc most)) units number) ≡ suc (length (sites_above (suc most) units site.unit)) = ap length (above_some (suc most) units number site is) in
        above_some most units number site is
        ∙ ap (λ sites. site ∷ sites) (enough_case most units site.unit (site_of units site.unit) refl (omega (arith, size, few)))
        ∙ sym (above_some (suc most) units number site is)

-- a unit that has a site is one of the layout's units
pub unit_with_site : (units : List CodeUnit) (number : ℕ) (site : Site) → site_of units number ≡ Some site → number < length units
unit_with_site units number site is = elim (cases_lt number (length units)) [
  | inl less ↦ less
  | inr past ↦ (let none : site_of units number ≡ None = ap (λ o. option_and_then (λ (u : CodeUnit). u.parent) o) (slice_get_past units number past) in
      let both : Some site ≡ None = sym is ∙ none in absurd (cc both))
]

pub units_stand_below_calls : UnitsStandBelowCalls
units_stand_below_calls funcs code unit site program known is =
    let layout = layout_of funcs code in
    let u = get_there layout.units unit (unit_with_site layout.units unit site is) in
    let few = ((layout_is_code funcs code program known).units unit u.0 u.1).shallow 5 in
    let low = kinds_are_shallow code.kind in
    let size : length (sites_above 5 layout.units unit) ≡ suc (length (sites_above 4 layout.units site.unit)) = ap length (above_some 4 layout.units unit site is) in
    ap (map (site_position layout)) (above_some 3 layout.units unit site is)
    ∙ ap (λ sites. site_position layout site ∷ map (site_position layout) sites) (enough 3 layout.units site.unit (omega (arith, few, low, size)))

pub first_units_stand_alone : FirstUnitsStandAlone
first_units_stand_alone layout unit none = ap (map (site_position layout)) (above_none 4 layout.units unit none)

-- the index of a slot that is found is in the body of its unit's function
pub in_end : (funcs : List Func) (depth number : ℕ) (layout : LayoutParts) (unit index place : ℕ) → IsCodeOf funcs depth number layout → IsSlotAt layout unit index place
    → index < length (body_of funcs (func_at layout.units unit))
in_end funcs depth number layout unit index place code is =
    let slot = got (IsSlotOf funcs layout) layout.slots place is.0 code.slots is.1 in
    let within = slice_get_within (body_of funcs (func_at layout.units is.0.unit)) is.0.index slot.1.0 slot.1.1 in
    subst (λ i. i < length (body_of funcs (func_at layout.units unit))) is.3 (subst (λ u. is.0.index < length (body_of funcs (func_at layout.units u))) is.2 within)

-- an index in that body has a slot
pub slot_in_body : (funcs : List Func) (depth number : ℕ) (layout : LayoutParts) (unit index : ℕ) → IsCodeOf funcs depth number layout → unit < length layout.units
    → index < length (body_of funcs (func_at layout.units unit)) → (place : ℕ) × (slot_of layout unit index ≡ Some place)
slot_in_body funcs depth number layout unit index code there less =
    let u = get_there layout.units unit there in
    let func_is : func_at layout.units unit ≡ u.0.func.0 = ap (λ o. option_map_or (λ (v : CodeUnit). v.func.0) o 0) u.1 in
    (code.units unit u.0 u.1).full index (subst (λ f. index < length (body_of funcs f)) func_is less)

-- where no slot is found, the index is past the end of that body
pub off_end : (funcs : List Func) (depth number : ℕ) (layout : LayoutParts) (unit index : ℕ) → IsCodeOf funcs depth number layout → unit < length layout.units
    → slot_of layout unit index ≡ None → length (body_of funcs (func_at layout.units unit)) ≤ index
off_end funcs depth number layout unit index code there none = elim (cases_lt index (length (body_of funcs (func_at layout.units unit)))) [
  | inl less ↦ (let found = slot_in_body funcs depth number layout unit index code there less in
      let both : Some found.0 ≡ None = sym found.1 ∙ none in absurd (cc both))
  | inr past ↦ past
]

-- past the end of that body no slot is found
pub none_past_end : (funcs : List Func) (depth number : ℕ) (layout : LayoutParts) (unit index : ℕ) → IsCodeOf funcs depth number layout
    → length (body_of funcs (func_at layout.units unit)) ≤ index → slot_of layout unit index ≡ None
none_past_end funcs depth number layout unit index code past = by_case (slot_of layout unit index) refl
  where
    by_case : (o : Option ℕ) → slot_of layout unit index ≡ o → slot_of layout unit index ≡ None
    by_case None is = is
    by_case (Some place) is =
        let less = in_end funcs depth number layout unit index place code (found_is_right layout unit index place is) in absurd (omega (arith, less, past))

pub slots_end_with_bodies : SlotsEndWithBodies
slots_end_with_bodies funcs depth number layout unit index code there =
    (off_end funcs depth number layout unit index code there, none_past_end funcs depth number layout unit index code)

-- A unit's site is a call of its function.
called_case : (funcs : List Func) (depth number : ℕ) (layout : LayoutParts) (unit : ℕ) (site : Site) (u : CodeUnit) → IsCodeOf funcs depth number layout → unit < length layout.units
    → slice_get layout.units unit ≡ Some u → u.parent ≡ Some site
    → (unit ≡ 0) ⊎ ((s : Site) × (u.parent ≡ Some s) × (s.unit < unit) × IsCallOf funcs layout.units u s × (length (sites_above depth layout.units s.unit) < depth))
    → (site.unit < length layout.units)
    × ((instr : Instr) × (slice_get (body_of funcs (func_at layout.units site.unit)) site.index ≡ Some instr) × (called instr.op ≡ Some (func_at layout.units unit)))
called_case funcs depth number layout unit site u code there at parent (inl zero_is) =
    let none : Some u ≡ Some (unit_of funcs number None) = sym at ∙ ap (slice_get layout.units) zero_is ∙ code.first in
    let first : u ≡ unit_of funcs number None = cc none in
    let both : Some site ≡ None = sym parent ∙ ap (λ (v : CodeUnit). v.parent) first in absurd (cc both)
called_case funcs depth number layout unit site u code there at parent (inr some) =
    let both : Some some.0 ≡ Some site = sym some.1 ∙ parent in
    let same : some.0 ≡ site = cc both in
    let less = some.2 in
    let func_is : func_at layout.units unit ≡ u.func.0 = ap (λ o. option_map_or (λ (v : CodeUnit). v.func.0) o 0) at in
    subst (λ (s : Site). (s.unit < length layout.units) × ((instr : Instr) × (slice_get (body_of funcs (func_at layout.units s.unit)) s.index ≡ Some instr) × (called instr.op ≡ Some (func_at layout.units unit)))) same
    (omega (arith, less, there), (some.3.0, some.3.1, some.3.3 ∙ sym (ap Some func_is)))

pub inlined_units_are_called : InlinedUnitsAreCalled
inlined_units_are_called funcs depth number layout unit site code is =
    let there = unit_with_site layout.units unit site is in
    let u = get_there layout.units unit there in
    called_case funcs depth number layout unit site u.0 code there u.1 (sym (ap (option_and_then (λ (v : CodeUnit). v.parent)) u.1) ∙ is) (code.units unit u.0 u.1).inlined

-- a function with an instruction is in the program
pub func_within : (funcs : List Func) (func index : ℕ) → index < length (body_of funcs func) → func < length funcs
func_within funcs func index less = elim (cases_lt func (length funcs)) [
  | inl there ↦ there
  | inr past ↦ (let none : length (body_of funcs func) ≡ 0 = ap (λ o. length (option_map_or (λ (f : Func). f.body) o [])) (slice_get_past funcs func past) in absurd (omega (arith, none, less)))
]

-- an index with a slot is below 4096
pub index_short : (funcs : List Func) (code : CodeName) (place : ℕ) (slot : Slot) → IsProgram funcs → code.func.0 < length funcs → slice_get (layout_of funcs code).slots place ≡ Some slot → slot.index < 4096
index_short funcs code place slot program there at =
    let is = slot_is funcs code place slot program there at in
    let func = func_at (layout_of funcs code).units slot.unit in
    let within = slice_get_within (body_of funcs func) slot.index is.1.0 is.1.1 in
    let short = body_short funcs func program (func_within funcs func slot.index within) in omega (arith, within, short)

-- a frame at the first slot of code is in code
pub first_in_code : (funcs : List Func) (code : CodeName) → IsProgram funcs → code.func.0 < length funcs → IsInCode funcs (first_frame code)
first_in_code funcs code program there =
    let layout = layout_of funcs code in
    record { func = there; slot = slot_within layout 0 0 0 (found_is_right layout 0 0 0 (layout_is_code funcs code program there).begins) }

-- what a frame at a slot stands for
pub positions_at : (funcs : List Func) (frame : CodeFrame) (slot : Slot) → IsAtSlot funcs frame slot → frame_positions funcs frame ≡ slot_positions (layout_of funcs frame.code) slot
positions_at funcs frame slot at = ap (λ o. option_map_or (slot_positions (layout_of funcs frame.code)) o []) at
