-- That a return keeps the rules.
use Rattle.std.proofs.Common.{◌≡◌, ℕ, suc, List, [], ◌∷◌, refl, ap, ◌∙◌, sym}
use Rattle.std.specs.Prelude.{Option, Some, None, is_some, unwrap_or, drop}
use Rattle.std.specs.Option.{option_map_or, option_and_then}
use Rattle.std.specs.List.{slice_get}
use Rattle.guest_program.specs.declared.instr.Func.{Func}
use Rattle.guest_program.specs.declared.instr.Op.TheVariants as op
use Rattle.code_event.specs.Layout.{site_of}
use Rattle.code_event.specs.declared.layout.Site.{Site}
use Rattle.code_event.specs.declared.layout.Slot.{Slot}
use Rattle.code_layout.specs.Laws.{slot_of}
use Rattle.code_objects.specs.CodeObjects.{layout_of}
use Rattle.guest_machine.proofs.Moved.{act_ends, act_goes, same_code, unit_place}
use Rattle.guest_machine.specs.Machine.{ActKeepsRules, Advances, program_of, youngest_layout}
use Rattle.guest_machine.specs.Rules.{after_instr, at_unit, frames_of, resumed_frames, returned_frames}
use Rattle.plain_machine.specs.PlainMachine.{returns}
use Rattle.plain_machine.specs.declared.ended.Ended.{Ended}
use Rattle.guest_stack.specs.Stack.{at_slot, returned_within, returned_to_caller}
use Rattle.guest_stack.specs.Laws.{IsAtSlot}
use Rattle.guest_stack.specs.declared.stack.CodeFrame.{CodeFrame}
use Rattle.guest_machine.specs.declared.machine.Machine.{Machine}

-- the list whose first element this is
begun_by : {X : Type 0} (xs : List X) (x : X) → slice_get xs 0 ≡ Some x → xs ≡ x ∷ drop 1 xs
begun_by [] x is = absurd (cc is)
begun_by (first ∷ xs) x is = let same : first ≡ x = cc is in ap (λ y. y ∷ xs) same

-- the frames after a return, as the unit of the youngest frame's slot was inlined at this site, or was not
returned_at : (funcs : List Func) (frame : CodeFrame) (callers : List CodeFrame) (slot : Slot) (o : Option Site) → IsAtSlot funcs frame slot → site_of (layout_of funcs frame.code).units slot.unit ≡ o
    → returned_frames funcs frame callers ≡ option_map_or (λ (site : Site). at_unit funcs site.unit (suc site.index) frame ∷ callers) o (resumed_frames funcs callers)
returned_at funcs frame callers slot o at site_is =
    ap (λ s. option_map_or (λ (site : Site). at_unit funcs site.unit (suc site.index) frame ∷ callers) s (resumed_frames funcs callers))
    (ap (option_and_then (λ (s : Slot). site_of (layout_of funcs frame.code).units s.unit)) at ∙ site_is)

-- a frame after its instruction
after_place : (funcs : List Func) (frame : CodeFrame) (slot : Slot) (place : ℕ) → IsAtSlot funcs frame slot → slot_of (layout_of funcs frame.code) slot.unit (suc slot.index) ≡ Some place
    → after_instr funcs frame ≡ at_slot frame place
after_place funcs frame slot place at found =
    ap (λ o. option_map_or (λ (s : Slot). at_unit funcs s.unit (suc s.index) frame) o frame) at ∙ unit_place funcs frame slot.unit (suc slot.index) place found

-- A return of the machine.
module _ (old new : Machine) (going : old.ended ≡ None) (advances : Advances old new (λ state frame callers. returns (program_of old) state frame callers)) where
  -- the program has ended
  pub end_keeps : (how : Ended) → new ≡ record old { ended = Some how } → ActKeepsRules old new [] op.Ret
  end_keeps how new_is = act_ends old new [] op.Ret advances (ap (λ m. is_some m.ended) new_is) (same_code old new [] (frames_of old) (ap (λ m. m.code) new_is) refl (ap frames_of new_is))

  -- an inlined function returns
  pub inside_keeps : (slot : Slot) (site : Site) (place number : ℕ) → IsAtSlot (program_of old) old.stack.frame slot → site_of (youngest_layout old).units slot.unit ≡ Some site
      → slot_of (youngest_layout old) site.unit (suc site.index) ≡ Some place → new ≡ record old { stack = returned_within place number old.stack } → ActKeepsRules old new [] op.Ret
  inside_keeps slot site place number at site_is found new_is =
      let funcs = program_of old in
      let after : returned_frames funcs old.stack.frame old.stack.callers ≡ at_slot old.stack.frame place ∷ old.stack.callers =
      returned_at funcs old.stack.frame old.stack.callers slot (Some site) at site_is ∙ ap (λ f. f ∷ old.stack.callers) (unit_place funcs old.stack.frame site.unit (suc site.index) place found) in
      act_goes old new [] op.Ret advances (ap (λ m. m.ended) new_is ∙ going) (λ state frame callers is stack_is.
      same_code old new [] (returned_frames funcs old.stack.frame old.stack.callers) (ap (λ m. m.code) new_is) refl (ap frames_of new_is ∙ sym after))

  -- a frame returns
  pub out_keeps : (slot : Slot) (caller : CodeFrame) (caller_slot : Slot) (place number : ℕ) → IsAtSlot (program_of old) old.stack.frame slot → site_of (youngest_layout old).units slot.unit ≡ None
      → slice_get old.stack.callers 0 ≡ Some caller → IsAtSlot (program_of old) caller caller_slot → slot_of (layout_of (program_of old) caller.code) caller_slot.unit (suc caller_slot.index) ≡ Some place
      → new ≡ record old { stack = returned_to_caller place number old.stack } → ActKeepsRules old new [] op.Ret
  out_keeps slot caller caller_slot place number at site_is first caller_at found new_is =
      let funcs = program_of old in
      let after : returned_frames funcs old.stack.frame old.stack.callers ≡ at_slot caller place ∷ drop 1 old.stack.callers =
      returned_at funcs old.stack.frame old.stack.callers slot None at site_is
      ∙ ap (resumed_frames funcs) (begun_by old.stack.callers caller first)
      ∙ ap (λ f. f ∷ drop 1 old.stack.callers) (after_place funcs caller caller_slot place caller_at found) in
      let here : frames_of new ≡ at_slot caller place ∷ drop 1 old.stack.callers =
      ap frames_of new_is ∙ ap (λ (o : Option CodeFrame). at_slot (unwrap_or o old.stack.frame) place ∷ drop 1 old.stack.callers) first in
      act_goes old new [] op.Ret advances (ap (λ m. m.ended) new_is ∙ going) (λ state frame callers is stack_is.
      same_code old new [] (returned_frames funcs old.stack.frame old.stack.callers) (ap (λ m. m.code) new_is) refl (here ∙ sym after))
