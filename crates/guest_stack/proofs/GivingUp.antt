-- That giving up code leaves what the stack stands for.
use Rattle.std.proofs.Common.{◌≡◌, ℕ, zero, suc, ◌<◌, List, [], ◌∷◌, ◌++◌, length, map, ◌⊎◌, inl, inr, refl, ap, ap₂, ◌∙◌, sym, subst, arith, append-nil}
use Rattle.std.proofs.lemmas.Grind.{flat_map-append}
use Rattle.std.proofs.lemmas.Option.{slice_get_within}
use Rattle.std.specs.Prelude.{Bool, true, false, cond, Some, None, ◌&&◌, ◌==◌}
use Rattle.std.specs.Option.{option_map_or, option_and_then}
use Rattle.std.specs.List.{slice_get, AllByRecursion}
use Rattle.guest_program.specs.InlinedSize.{body_of}
use Rattle.guest_program.specs.Program.{IsProgram}
use Rattle.guest_program.specs.declared.instr.Func.{Func}
use Rattle.code_event.specs.Layout.{site_of, sites_above}
use Rattle.code_event.specs.Parts.{LayoutParts}
use Rattle.code_event.specs.declared.layout.Unit.{Unit as CodeUnit}
use Rattle.code_event.specs.declared.layout.Site.{Site}
use Rattle.code_event.specs.declared.layout.Slot.{Slot}
use Rattle.code_layout.specs.Layouts.{layout_to}
use Rattle.code_layout.specs.Laws.{func_at, IsCallOf, IsCodeOf, IsSlotOf}
use Rattle.code_layout.proofs.Standing.{all_both}
use Rattle.code_layout.proofs.Expanding.{get_there, plain_inlines_nothing, plain_slots_are_instructions}
use Rattle.code_objects.specs.CodeObjects.{layout_of, depth_of}
use Rattle.guest_stack.proofs.Positions.{layout_is_code, func_within, slot_is, slot_there, above_some, above_none, positions_at}
use Rattle.guest_stack.specs.Stack.{Position, site_position, slot_positions, frame_positions, stack_positions, plain_code_frame, is_optimised_of, given_up, all_given_up}
use Rattle.guest_stack.specs.Laws.{IsInCode, PlainCodeFramesStand, GivenUpStand, GivenUpAreInCode, NoneIsInGivenUpCode}
use Rattle.guest_stack.specs.declared.stack.CodeFrame.{CodeFrame}

-- a function at one of its instructions
abbrev IsInstruction : List Func → Position → Type 0
IsInstruction funcs position = position.1 < length (body_of funcs position.0)

-- the slot of an instruction in plain code
plain_slot : (funcs : List Func) (func index : ℕ) → index < length (body_of funcs func) → (line : ℕ) × (slice_get (layout_to funcs 0 func).slots index ≡ Some (record { unit = 0; index = index; line = line }))
plain_slot funcs func index less =
    let instr = get_there (body_of funcs func) index less in
    (instr.0.line, ap (λ (l : LayoutParts). slice_get l.slots index) (sym (plain_inlines_nothing funcs func)) ∙ plain_slots_are_instructions funcs func index instr.0 instr.1)

-- a frame of plain code stands for its function and index
plain_frame_stands : (funcs : List Func) (position : Position) → IsInstruction funcs position → frame_positions funcs (plain_code_frame position) ≡ position ∷ []
unfolding layout_of
plain_frame_stands funcs position less = ap (λ o. option_map_or (slot_positions (layout_to funcs 0 position.0)) o []) (plain_slot funcs position.0 position.1 less).1

pub plain_code_frames_stand : PlainCodeFramesStand
plain_code_frames_stand funcs [] all = refl
plain_code_frames_stand funcs (position ∷ more) all = ap₂ (λ first others. first ++ others) (plain_frame_stands funcs position all.0) (plain_code_frames_stand funcs more all.1)

-- such a frame is in code
plain_frame_in_code : (funcs : List Func) (position : Position) → IsInstruction funcs position → IsInCode funcs (plain_code_frame position)
unfolding layout_of
plain_frame_in_code funcs position less =
    let slot = plain_slot funcs position.0 position.1 less in
    record { func = func_within funcs position.0 position.1 less; slot = slice_get_within (layout_to funcs 0 position.0).slots position.1 (record { unit = 0; index = position.1; line = slot.0 }) slot.1 }

plain_frames_in_code : (funcs : List Func) (all : List Position) → AllByRecursion (IsInstruction funcs) all → AllByRecursion (IsInCode funcs) (map plain_code_frame all)
plain_frames_in_code funcs [] all = tt
plain_frames_in_code funcs (position ∷ more) all = (plain_frame_in_code funcs position all.0, plain_frames_in_code funcs more all.1)

-- What code stands for is at instructions.
module _ (funcs : List Func) (depth number : ℕ) (layout : LayoutParts) (code : IsCodeOf funcs depth number layout) where
  above_in_case : (most unit : ℕ) (u : CodeUnit) → unit < length layout.units → slice_get layout.units unit ≡ Some u
      → ((site : ℕ) → site < length layout.units → AllByRecursion (IsInstruction funcs) (map (site_position layout) (sites_above most layout.units site)))
      → (unit ≡ 0) ⊎ ((site : Site) × (u.parent ≡ Some site) × (site.unit < unit) × IsCallOf funcs layout.units u site × (length (sites_above depth layout.units site.unit) < depth))
      → AllByRecursion (IsInstruction funcs) (map (site_position layout) (sites_above (suc most) layout.units unit))
  above_in_case most unit u there at rest (inl zero_is) =
      let none : site_of layout.units unit ≡ None = ap (λ n. site_of layout.units n) zero_is ∙ ap (option_and_then (λ v. v.parent)) code.first in
      subst (λ sites. AllByRecursion (IsInstruction funcs) (map (site_position layout) sites)) (sym (above_none (suc most) layout.units unit none)) tt
  above_in_case most unit u there at rest (inr some) =
      let is : site_of layout.units unit ≡ Some some.0 = ap (option_and_then (λ v. v.parent)) at ∙ some.1 in
      let less = some.2 in let site_there : some.0.unit < length layout.units = omega (arith, less, there) in
      subst (λ sites. AllByRecursion (IsInstruction funcs) (map (site_position layout) sites)) (sym (above_some most layout.units unit some.0 is))
      (slice_get_within (body_of funcs (func_at layout.units some.0.unit)) some.0.index some.3.0 some.3.1, rest some.0.unit site_there)

  above_in : (most unit : ℕ) → unit < length layout.units → AllByRecursion (IsInstruction funcs) (map (site_position layout) (sites_above most layout.units unit))
  above_in zero unit there = tt
  above_in (suc most) unit there =
      let u = get_there layout.units unit there in above_in_case most unit u.0 there u.1 (λ site known. above_in most site known) (code.units unit u.0 u.1).inlined

  slot_in : (slot : Slot) → IsSlotOf funcs layout slot → AllByRecursion (IsInstruction funcs) (slot_positions layout slot)
  slot_in slot is = (slice_get_within (body_of funcs (func_at layout.units slot.unit)) slot.index is.1.0 is.1.1, above_in 4 slot.unit is.0)

frame_in : (funcs : List Func) (frame : CodeFrame) → IsProgram funcs → IsInCode funcs frame → AllByRecursion (IsInstruction funcs) (frame_positions funcs frame)
frame_in funcs frame program in_code =
    let slot = slot_there funcs frame in_code in
    subst (AllByRecursion (IsInstruction funcs)) (sym (positions_at funcs frame slot.0 slot.1))
    (slot_in funcs (depth_of frame.code.kind) frame.code.func.0 (layout_of funcs frame.code) (layout_is_code funcs frame.code program in_code.func) slot.0
    (slot_is funcs frame.code frame.slot slot.0 program in_code.func slot.1))

-- One frame,
one_given_up : (funcs : List Func) (frame : CodeFrame) (b : Bool) → IsProgram funcs → IsInCode funcs frame
    → stack_positions funcs (cond b (map plain_code_frame (frame_positions funcs frame)) (frame ∷ [])) ≡ frame_positions funcs frame
one_given_up funcs frame true program in_code = plain_code_frames_stand funcs (frame_positions funcs frame) (frame_in funcs frame program in_code)
one_given_up funcs frame false program in_code = append-nil (frame_positions funcs frame)

one_in_code : (funcs : List Func) (frame : CodeFrame) (b : Bool) → IsProgram funcs → IsInCode funcs frame
    → AllByRecursion (IsInCode funcs) (cond b (map plain_code_frame (frame_positions funcs frame)) (frame ∷ []))
one_in_code funcs frame true program in_code = plain_frames_in_code funcs (frame_positions funcs frame) (frame_in funcs frame program in_code)
one_in_code funcs frame false program in_code = (in_code, tt)

none_is_optimised : (func : ℕ) (all : List Position) → AllByRecursion (λ frame. is_optimised_of func frame.code ≡ false) (map plain_code_frame all)
none_is_optimised func [] = tt
none_is_optimised func (position ∷ more) = (never (position.0 == func), none_is_optimised func more)
  where
    never : (b : Bool) → (b && false) ≡ false
    never true = refl
    never false = refl

one_not_left : (funcs : List Func) (func : ℕ) (frame : CodeFrame) (b : Bool) → is_optimised_of func frame.code ≡ b
    → AllByRecursion (λ frame. is_optimised_of func frame.code ≡ false) (cond b (map plain_code_frame (frame_positions funcs frame)) (frame ∷ []))
one_not_left funcs func frame true is = none_is_optimised func (frame_positions funcs frame)
one_not_left funcs func frame false is = (is, tt)

-- and all frames.
pub given_up_stand : GivenUpStand
given_up_stand funcs func [] program all = refl
given_up_stand funcs func (frame ∷ stack) program all =
    flat_map-append (frame_positions funcs) (given_up funcs func frame) (all_given_up funcs func stack)
    ∙ ap₂ (λ first others. first ++ others) (one_given_up funcs frame (is_optimised_of func frame.code) program all.0) (given_up_stand funcs func stack program all.1)

pub given_up_are_in_code : GivenUpAreInCode
given_up_are_in_code funcs func [] program all = tt
given_up_are_in_code funcs func (frame ∷ stack) program all =
    all_both (IsInCode funcs) (given_up funcs func frame) (all_given_up funcs func stack) (one_in_code funcs frame (is_optimised_of func frame.code) program all.0) (given_up_are_in_code funcs func stack program all.1)

pub none_is_in_given_up_code : NoneIsInGivenUpCode
none_is_in_given_up_code funcs func [] = tt
none_is_in_given_up_code funcs func (frame ∷ stack) =
    all_both (λ frame. is_optimised_of func frame.code ≡ false) (given_up funcs func frame) (all_given_up funcs func stack)
    (one_not_left funcs func frame (is_optimised_of func frame.code) refl) (none_is_in_given_up_code funcs func stack)
