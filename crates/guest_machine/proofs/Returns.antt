-- That a return of the machine is one of the plain machine, and that the machine stays whole.
use Rattle.std.proofs.Common.{◌≡◌, ℕ, suc, ◌+◌, ◌%◌, ◌^◌, ◌<◌, ◌≤◌, List, [], ◌∷◌, length, refl, ap, ◌∙◌, sym, subst, arith}
use Rattle.std.proofs.Math.Nat.{mod-eq_of_lt}
use Rattle.std.proofs.lemmas.Option.{slice_get_within}
use Rattle.std.specs.Prelude.{Option, Some, None, unwrap_or, drop, slice_index, slice_set}
use Rattle.std.specs.List.{slice_get, AllByRecursion}
use Rattle.guest_program.specs.InlinedSize.{body_of}
use Rattle.guest_program.specs.Program.{IsProgram}
use Rattle.code_event.specs.Layout.{site_of}
use Rattle.code_event.specs.Parts.{LayoutParts}
use Rattle.code_event.specs.declared.layout.Site.{Site}
use Rattle.code_event.specs.declared.layout.Slot.{Slot}
use Rattle.code_layout.specs.Laws.{func_at, slot_of, IsCodeOf}
use Rattle.code_layout.proofs.Standing.{found_is_right}
use Rattle.code_objects.specs.CodeObjects.{depth_of, layout_of, start_at}
use Rattle.code_objects.specs.declared.name.CodeName.{CodeName}
use Rattle.guest_machine.proofs.Advancing.{stands_for, ended_so}
use Rattle.plain_machine.proofs.InBody.{body_short}
use Rattle.guest_stack.proofs.Positions.{layout_is_code, slot_is, slot_there, in_end, off_end, slot_within, inlined_units_are_called, func_within, index_short}
use Rattle.guest_machine.proofs.Said.{said_kept}
use Rattle.guest_stack.proofs.StackActs.{still_in, rises_below, rises_past, top_registers}
use Rattle.guest_stack.proofs.Stepping.{returns_within, returns_to_frame, last_returns, returning_within_keeps_registers, returning_to_frame_keeps_registers}
use Rattle.guest_machine.specs.Machine.{IsMachine, IsInState, IsNotInlined, Advances, program_of, youngest_layout}
use Rattle.plain_machine.specs.PlainMachine.{Frame, State, rises, ends, returns, with_register, register}
use Rattle.guest_stack.specs.Stack.{Physical, Stands, at_slot, returned_within, returned_to_caller}
use Rattle.guest_stack.specs.Laws.{IsAtSlot, IsPlaced, ReturnsTo}
use Rattle.guest_stack.specs.declared.stack.CodeFrame.{CodeFrame}
use Rattle.plain_machine.specs.declared.ended.Ended.TheVariants as end
use Rattle.guest_machine.specs.declared.machine.Machine.{Machine}

-- the list whose first element this is
with_first : {X : Type 0} (xs : List X) (x : X) → slice_get xs 0 ≡ Some x → xs ≡ x ∷ drop 1 xs
with_first [] x is = absurd (cc is)
with_first (first ∷ xs) x is = let same : first ≡ x = cc is in ap (λ y. y ∷ xs) same

with_none : {X : Type 0} (xs : List X) → slice_get xs 0 ≡ None → xs ≡ []
with_none [] is = refl
with_none (first ∷ xs) is = absurd (cc is)

few_left : {X : Type 0} (xs : List X) → length xs ≤ 254 → length (drop 1 xs) ≤ 254
few_left [] few = few
few_left (first ∷ xs) few = omega (arith, few)

-- The plain machine has a caller, which is at this position in code.
module _ (old : Machine) (program : IsProgram (program_of old)) (name : CodeName) (there : name.func.0 < length (program_of old)) (unit index : ℕ) (returned : ℕ → ℕ → Physical)
    (state : State) (frame : Frame) (callers : List Frame) (is : IsInState old state) (to : ReturnsTo (program_of old) callers (layout_of (program_of old) name) unit index returned) where
  abbrev layout : LayoutParts
  layout = layout_of (program_of old) name

  code : IsCodeOf (program_of old) (depth_of name.kind) name.func.0 layout
  code = layout_is_code (program_of old) name program there

  abbrev caller : Frame
  caller = with_register to.0 0 (register frame 0)

  rises_there : returns (program_of old) state frame callers ≡ rises (program_of old) state state caller to.1
  rises_there = ap (returns (program_of old) state frame) to.2

  -- where there is a slot after its call, it goes on there
  resumes : (place number : ℕ) → number ≡ register frame 0 % 2 ^ 64 → slot_of layout unit (suc index) ≡ Some place
      → IsInState (record old { stack = returned place number }) (returns (program_of old) state frame callers)
  resumes place number number_is found =
      let right = found_is_right layout unit (suc index) place found in
      let within : suc index < length (body_of (program_of old) (func_at layout.units unit)) = in_end (program_of old) (depth_of name.kind) name.func.0 layout unit (suc index) place code right in
      let same_func : suc index < length (body_of (program_of old) to.0.func) = subst (λ f. suc index < length (body_of (program_of old) f)) (sym to.3) within in
      let less : suc to.0.index < length (body_of (program_of old) to.0.func) = subst (λ i. suc i < length (body_of (program_of old) to.0.func)) (sym to.4) same_func in
      let after : State = record state { stack = record caller { index = suc to.0.index } ∷ to.1 } in
      let gives : returns (program_of old) state frame callers ≡ after = rises_there ∙ rises_below (program_of old) state state caller to.1 less in
      subst (IsInState (record old { stack = returned place number })) (sym gives) (record {
        stack = subst (λ n. Stands (program_of old) (returned place number) (record { func = to.0.func; index = suc to.0.index; registers = slice_set to.0.registers 0 n } ∷ to.1)) number_is (to.5 place number right);
        codes = said_kept old (record old { stack = returned place number }) state after refl refl refl is.codes;
        engine = is.engine;
        rest = is.rest;
        ended = is.ended;
      })

  -- where there is none, it runs off its body
  runs_off : unit < length layout.units → slot_of layout unit (suc index) ≡ None → IsInState (record old { ended = Some end.OffEnd }) (returns (program_of old) state frame callers)
  runs_off known none =
      let end_is : length (body_of (program_of old) (func_at layout.units unit)) ≤ suc index = off_end (program_of old) (depth_of name.kind) name.func.0 layout unit (suc index) code known none in
      let same_func : length (body_of (program_of old) to.0.func) ≤ suc index = subst (λ f. length (body_of (program_of old) f) ≤ suc index) (sym to.3) end_is in
      let past : length (body_of (program_of old) to.0.func) ≤ suc to.0.index = subst (λ i. length (body_of (program_of old) to.0.func) ≤ suc i) (sym to.4) same_func in
      let gives : returns (program_of old) state frame callers ≡ ends end.OffEnd state = rises_there ∙ rises_past (program_of old) state state caller to.1 past in
      subst (IsInState (record old { ended = Some end.OffEnd })) (sym gives) (ended_so old (record old { ended = Some end.OffEnd }) end.OffEnd state is refl)

-- r0, as it was read
module _ (old : Machine) (number : ℕ) (number_is : number ≡ slice_index old.stack.registers 0) (fits : number < 2 ^ 64) where
  returned_number : (state : State) (frame : Frame) (callers : List Frame) → IsInState old state → state.stack ≡ frame ∷ callers → number ≡ register frame 0 % 2 ^ 64
  returned_number state frame callers is stack_is =
      let own : frame.registers ≡ old.stack.registers = top_registers (program_of old) old.stack frame callers (stands_for old state frame callers is stack_is) in
      let read : number ≡ register frame 0 = number_is ∙ ap (λ rs. slice_index rs 0) (sym own) in
      sym (mod-eq_of_lt fits) ∙ ap (λ n. n % 2 ^ 64) read

-- The site at which a unit of the youngest frame's code was inlined.
module _ (old : Machine) (whole : IsMachine old) (unit : ℕ) (site : Site) (site_is : site_of (youngest_layout old).units unit ≡ Some site) where
  code_here : IsCodeOf (program_of old) (depth_of old.stack.frame.code.kind) old.stack.frame.code.func.0 (youngest_layout old)
  code_here = layout_is_code (program_of old) old.stack.frame.code whole.program whole.placed.0.code.func

  -- its unit is one of the layout's
  pub site_within : site.unit < length (youngest_layout old).units
  site_within = (inlined_units_are_called (program_of old) (depth_of old.stack.frame.code.kind) old.stack.frame.code.func.0 (youngest_layout old) unit site code_here site_is).0

  -- its index is less than the greatest length of a body
  pub site_short : site.index < 4096
  site_short =
      let call = (inlined_units_are_called (program_of old) (depth_of old.stack.frame.code.kind) old.stack.frame.code.func.0 (youngest_layout old) unit site code_here site_is).1 in
      let func = func_at (youngest_layout old).units site.unit in
      let within = slice_get_within (body_of (program_of old) func) site.index call.0 call.1 in
      let short = body_short (program_of old) func whole.program (func_within (program_of old) func site.index within) in omega (arith, within, short)

-- A return from an inlined function.
module _ (old : Machine) (whole : IsMachine old) (slot : Slot) (at : IsAtSlot (program_of old) old.stack.frame slot) (site : Site) (site_is : site_of (youngest_layout old).units slot.unit ≡ Some site) where
  to_site : (state : State) (frame : Frame) (callers : List Frame) → IsInState old state → state.stack ≡ frame ∷ callers
      → ReturnsTo (program_of old) callers (youngest_layout old) site.unit site.index (λ place number. returned_within place number old.stack)
  to_site state frame callers is stack_is =
      returns_within (program_of old) old.stack frame callers slot site whole.program whole.placed.0.code whole.registers (stands_for old state frame callers is stack_is) at site_is

  pub returned_inside : (new : Machine) (place number : ℕ) → number ≡ slice_index old.stack.registers 0 → number < 2 ^ 64 → slot_of (youngest_layout old) site.unit (suc site.index) ≡ Some place
      → new ≡ record old { stack = returned_within place number old.stack } → Advances old new (λ state frame callers. returns (program_of old) state frame callers)
  returned_inside new place number number_is fits found new_is state frame callers is stack_is =
      subst (λ m. IsInState m (returns (program_of old) state frame callers)) (sym new_is)
      (resumes old whole.program old.stack.frame.code whole.placed.0.code.func site.unit site.index (λ place number. returned_within place number old.stack) state frame callers is
      (to_site state frame callers is stack_is) place number (returned_number old number number_is fits state frame callers is stack_is) found)

  pub ran_off_inside : (new : Machine) → slot_of (youngest_layout old) site.unit (suc site.index) ≡ None → new ≡ record old { ended = Some end.OffEnd }
      → Advances old new (λ state frame callers. returns (program_of old) state frame callers)
  ran_off_inside new none new_is state frame callers is stack_is =
      subst (λ m. IsInState m (returns (program_of old) state frame callers)) (sym new_is)
      (runs_off old whole.program old.stack.frame.code whole.placed.0.code.func site.unit site.index (λ place number. returned_within place number old.stack) state frame callers is
      (to_site state frame callers is stack_is) (site_within old whole slot.unit site site_is) none)

  pub whole_inside : (new : Machine) (place number : ℕ) → slot_of (youngest_layout old) site.unit (suc site.index) ≡ Some place → new ≡ record old { stack = returned_within place number old.stack }
      → IsMachine new
  whole_inside new place number found new_is =
      subst IsMachine (sym new_is) (record {
        program = whole.program;
        placed = (
          record {
            code = still_in (program_of old) old.stack slot whole.program whole.placed.0.code at site.unit (suc site.index) place found;
            start = whole.placed.0.start;
          },
          whole.placed.1,
        );
        registers =
            returning_within_keeps_registers (program_of old) old.stack slot site place number whole.program whole.placed.0.code whole.registers at site_is
            (found_is_right (youngest_layout old) site.unit (suc site.index) place found);
        few = few_left old.stack.saved whole.few;
        flags = whole.flags;
      })

-- A return from a frame.
module _ (old : Machine) (whole : IsMachine old) (outermost : IsNotInlined old) where
  own_slot : (slot : Slot) × IsAtSlot (program_of old) old.stack.frame slot
  own_slot = slot_there (program_of old) old.stack.frame whole.placed.0.code

  -- where there is no next frame, the program has ended
  pub halted : (new : Machine) → slice_get old.stack.callers 0 ≡ None → new ≡ record old { ended = Some end.Halt }
      → Advances old new (λ state frame callers. returns (program_of old) state frame callers)
  halted new none new_is state frame callers is stack_is =
      let stands = stands_for old state frame callers is stack_is in
      let alone : callers ≡ [] = last_returns (program_of old) old.stack frame callers own_slot.0 stands own_slot.1 (outermost own_slot.0 own_slot.1) (with_none old.stack.callers none) in
      subst (IsInState new) (sym (ap (returns (program_of old) state frame) alone)) (ended_so old new end.Halt state is new_is)

  -- the next frame
  module _ (caller : CodeFrame) (first : slice_get old.stack.callers 0 ≡ Some caller) where
    callers_are : old.stack.callers ≡ caller ∷ drop 1 old.stack.callers
    callers_are = with_first old.stack.callers caller first

    frames_placed : AllByRecursion (IsPlaced (program_of old) (start_at old.code.starts)) (caller ∷ drop 1 old.stack.callers)
    frames_placed = subst (AllByRecursion (IsPlaced (program_of old) (start_at old.code.starts))) callers_are whole.placed.1

    pub caller_placed : IsPlaced (program_of old) (start_at old.code.starts) caller
    caller_placed = frames_placed.0

    module _ (slot : Slot) (at : IsAtSlot (program_of old) caller slot) where
      -- its slot's index is less than the greatest length of a body
      pub caller_short : slot.index < 4096
      caller_short = index_short (program_of old) caller.code caller.slot slot whole.program caller_placed.code.func at

      to_caller : (state : State) (frame : Frame) (callers : List Frame) → IsInState old state → state.stack ≡ frame ∷ callers
          → ReturnsTo (program_of old) callers (layout_of (program_of old) caller.code) slot.unit slot.index (λ place number. returned_to_caller place number old.stack)
      to_caller state frame callers is stack_is =
          returns_to_frame (program_of old) old.stack frame callers own_slot.0 caller (drop 1 old.stack.callers) slot whole.registers (stands_for old state frame callers is stack_is) own_slot.1
          (outermost own_slot.0 own_slot.1) callers_are at

      pub returned_out : (new : Machine) (place number : ℕ) → number ≡ slice_index old.stack.registers 0 → number < 2 ^ 64
          → slot_of (layout_of (program_of old) caller.code) slot.unit (suc slot.index) ≡ Some place
          → new ≡ record old { stack = returned_to_caller place number old.stack } → Advances old new (λ state frame callers. returns (program_of old) state frame callers)
      returned_out new place number number_is fits found new_is state frame callers is stack_is =
          subst (λ m. IsInState m (returns (program_of old) state frame callers)) (sym new_is)
          (resumes old whole.program caller.code caller_placed.code.func slot.unit slot.index (λ place number. returned_to_caller place number old.stack) state frame callers is
          (to_caller state frame callers is stack_is) place number (returned_number old number number_is fits state frame callers is stack_is) found)

      pub ran_off_out : (new : Machine) → slot_of (layout_of (program_of old) caller.code) slot.unit (suc slot.index) ≡ None → new ≡ record old { ended = Some end.OffEnd }
          → Advances old new (λ state frame callers. returns (program_of old) state frame callers)
      ran_off_out new none new_is state frame callers is stack_is =
          let known = (slot_is (program_of old) caller.code caller.slot slot whole.program caller_placed.code.func at).0 in
          subst (λ m. IsInState m (returns (program_of old) state frame callers)) (sym new_is)
          (runs_off old whole.program caller.code caller_placed.code.func slot.unit slot.index (λ place number. returned_to_caller place number old.stack) state frame callers is
          (to_caller state frame callers is stack_is) known none)

      pub whole_out : (new : Machine) (place number : ℕ) → slot_of (layout_of (program_of old) caller.code) slot.unit (suc slot.index) ≡ Some place
          → new ≡ record old { stack = returned_to_caller place number old.stack } → IsMachine new
      whole_out new place number found new_is =
          let right = found_is_right (layout_of (program_of old) caller.code) slot.unit (suc slot.index) place found in
          let there : IsPlaced (program_of old) (start_at old.code.starts) (at_slot caller place) = record {
            code = record { func = caller_placed.code.func; slot = slot_within (layout_of (program_of old) caller.code) slot.unit (suc slot.index) place right };
            start = caller_placed.start;
          } in
          subst IsMachine (sym new_is) (record {
            program = whole.program;
            placed = (subst (λ (o : Option CodeFrame). IsPlaced (program_of old) (start_at old.code.starts) (at_slot (unwrap_or o old.stack.frame) place)) (sym first) there, frames_placed.1);
            registers =
                returning_to_frame_keeps_registers (program_of old) old.stack own_slot.0 caller (drop 1 old.stack.callers) slot place number whole.registers own_slot.1
                (outermost own_slot.0 own_slot.1) callers_are at right;
            few = few_left old.stack.saved whole.few;
            flags = whole.flags;
          })

-- the place that was read of the index that follows
pub next_place : (parts read_of : LayoutParts) (unit index : ℕ) (read o : Option ℕ) → read_of ≡ parts → read ≡ slot_of read_of unit (index + 1) → read ≡ o → slot_of parts unit (suc index) ≡ o
next_place parts read_of unit index read o same is found =
    let one_more : suc index ≡ index + 1 = omega arith in ap (slot_of parts unit) one_more ∙ ap (λ l. slot_of l unit (index + 1)) (sym same) ∙ sym is ∙ found

-- the site that was read of a unit of the youngest frame's code
pub site_read : (old : Machine) (frame : CodeFrame) (unit : ℕ) (read o : Option Site) → frame ≡ old.stack.frame → read ≡ site_of (layout_of (program_of old) frame.code).units unit → read ≡ o
    → site_of (youngest_layout old).units unit ≡ o
site_read old frame unit read o same is found = ap (λ f. site_of (layout_of (program_of old) f.code).units unit) (sym same) ∙ sym is ∙ found
