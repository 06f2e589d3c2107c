-- That what the machine does is what the plain machine does, and that it stays whole.
use Rattle.std.proofs.Common.{◌≡◌, ℕ, suc, ◌+◌, ◌%◌, ◌^◌, ◌<◌, ◌≤◌, List, ◌∷◌, ◌++◌, length, refl, ap, ap₂, ◌∙◌, sym, subst, arith, append-nil}
use Rattle.std.proofs.lemmas.Bool.{cond-true, cond-false, ne_eqb, lt-ltb, le-ltb}
use Rattle.std.specs.Prelude.{Bool, true, false, cond, nat_lt, ◌==◌, Option, Some, None, slice_index, slice_set, decimal, codes}
use Rattle.std.proofs.lemmas.List.{append_assoc}
use Rattle.guest_program.specs.InlinedSize.{body_of}
use Rattle.guest_program.specs.declared.instr.Op.TheVariants as op
use Rattle.code_event.specs.declared.layout.Slot.{Slot}
use Rattle.code_event.specs.declared.tick.VmState.{VmState}
use Rattle.code_layout.specs.Laws.{slot_of}
use Rattle.code_layout.proofs.Standing.{found_is_right}
use Rattle.code_objects.specs.CodeObjects.{depth_of, layout_of}
use Rattle.guest_machine.proofs.Said.{said_kept}
use Rattle.guest_stack.proofs.StackActs.{unit_there, index_is, goes_to, is_below, is_past, still_in, registers_set, top_registers, rises_below, rises_past}
use Rattle.guest_stack.proofs.Positions.{layout_is_code, slot_in_body, index_short}
use Rattle.guest_stack.proofs.Stepping.{going_on_keeps_registers}
use Rattle.guest_machine.specs.Machine.{IsMachine, IsInState, IsInYoungestBody, Advances, HasRisen, HasRunOff, Rises, program_of, youngest_layout, printed_text}
use Rattle.plain_machine.specs.PlainMachine.{Frame, State, does, rises, ends, jumps, sets, waits, with_register, register}
use Rattle.guest_stack.specs.Stack.{Stands, gone_on}
use Rattle.guest_stack.specs.Laws.{IsAtSlot}
use Rattle.guest_stack.specs.declared.stack.CodeFrame.{CodeFrame}
use Rattle.plain_machine.specs.declared.ended.Ended.{Ended}
use Rattle.plain_machine.specs.declared.ended.Ended.TheVariants as end
use Rattle.guest_machine.specs.declared.machine.Machine.{Machine}

-- the physical stack stands for the state's, which is this
pub stands_for : (machine : Machine) (state : State) (frame : Frame) (callers : List Frame) → IsInState machine state → state.stack ≡ frame ∷ callers
    → Stands (program_of machine) machine.stack (frame ∷ callers)
stands_for machine state frame callers is stack_is = subst (Stands (program_of machine) machine.stack) stack_is is.stack

-- What was read of the youngest frame.
module _ (machine : Machine) (frame : CodeFrame) (slot : Slot) where
  pub youngest_at : frame ≡ machine.stack.frame → IsAtSlot (program_of machine) frame slot → IsAtSlot (program_of machine) machine.stack.frame slot
  youngest_at same at = subst (λ f. IsAtSlot (program_of machine) f slot) same at

  pub youngest_next : (read o : Option ℕ) → frame ≡ machine.stack.frame → read ≡ slot_of (layout_of (program_of machine) frame.code) slot.unit (slot.index + 1) → read ≡ o
      → slot_of (youngest_layout machine) slot.unit (suc slot.index) ≡ o
  youngest_next read o same is found =
      let one_more : suc slot.index ≡ slot.index + 1 = omega arith in
      ap (slot_of (youngest_layout machine) slot.unit) one_more ∙ ap (λ f. slot_of (layout_of (program_of machine) f.code) slot.unit (slot.index + 1)) (sym same) ∙ sym is ∙ found

  pub youngest_place : (index : ℕ) (read o : Option ℕ) → frame ≡ machine.stack.frame → read ≡ slot_of (layout_of (program_of machine) frame.code) slot.unit index → read ≡ o
      → slot_of (youngest_layout machine) slot.unit index ≡ o
  youngest_place index read o same is found = ap (λ f. slot_of (layout_of (program_of machine) f.code) slot.unit index) (sym same) ∙ sym is ∙ found

-- a slot's index is less than the greatest length of a body
pub slot_short : (machine : Machine) → IsMachine machine → (slot : Slot) → IsAtSlot (program_of machine) machine.stack.frame slot → slot.index < 4096
slot_short machine whole slot at = index_short (program_of machine) machine.stack.frame.code machine.stack.frame.slot slot whole.program whole.placed.0.code.func at

-- it has ended so, and nothing else has changed
pub ended_so : (old new : Machine) (how : Ended) (state : State) → IsInState old state → new ≡ record old { ended = Some how } → IsInState new (ends how state)
ended_so old new how state is new_is = subst (λ m. IsInState m (ends how state)) (sym new_is) (record { stack = is.stack; codes = said_kept old (record old { ended = Some how }) state (ends how state) refl refl refl is.codes; engine = is.engine; rest = is.rest; ended = refl })

pub whole_ended : (old new : Machine) (how : Ended) → IsMachine old → new ≡ record old { ended = Some how } → IsMachine new
whole_ended old new how machine new_is =
    subst IsMachine (sym new_is) (record { program = machine.program; placed = machine.placed; registers = machine.registers; few = machine.few; flags = machine.flags })

-- The youngest frame at its slot.
module _ (old : Machine) (machine : IsMachine old) (slot : Slot) (at : IsAtSlot (program_of old) old.stack.frame slot) where
  -- it goes to the slot of another index
  pub gone : (new : Machine) (index place : ℕ) → slot_of (youngest_layout old) slot.unit index ≡ Some place → new ≡ record old { stack = gone_on place old.stack.registers old.stack }
      → Advances old new (λ state frame callers. jumps state frame callers index)
  gone new index place found new_is state frame callers is stack_is =
      subst (λ m. IsInState m (jumps state frame callers index)) (sym new_is) (record {
        stack = goes_to (program_of old) old.stack slot machine.program machine.placed.0.code at frame callers (stands_for old state frame callers is stack_is) index place found;
        codes = said_kept old (record old { stack = gone_on place old.stack.registers old.stack }) state (jumps state frame callers index) refl refl refl is.codes;
        engine = is.engine;
        rest = is.rest;
        ended = is.ended;
      })

  pub risen : (new : Machine) (place : ℕ) → slot_of (youngest_layout old) slot.unit (suc slot.index) ≡ Some place → new ≡ record old { stack = gone_on place old.stack.registers old.stack }
      → HasRisen old new
  risen new place found new_is state frame callers is stack_is =
      let stands = stands_for old state frame callers is stack_is in
      let same : suc frame.index ≡ suc slot.index = ap suc (index_is (program_of old) old.stack slot machine.program machine.placed.0.code at frame callers stands) in (
        is_below (program_of old) old.stack slot machine.program machine.placed.0.code at frame callers stands place found,
        subst (λ i. IsInState new (jumps state frame callers i)) (sym same) (gone new (suc slot.index) place found new_is state frame callers is stack_is),
      )

  pub run_off : (new : Machine) → slot_of (youngest_layout old) slot.unit (suc slot.index) ≡ None → new ≡ record old { ended = Some end.OffEnd } → HasRunOff old new
  run_off new none new_is state frame callers is stack_is =
      let stands = stands_for old state frame callers is stack_is in
      (is_past (program_of old) old.stack slot machine.program machine.placed.0.code at frame callers stands none, ended_so old new end.OffEnd state is new_is)

  -- an index of its body has a slot
  pub is_found : (index : ℕ) → IsInYoungestBody old index → slot_of (youngest_layout old) slot.unit index ≡ None → ⊥
  is_found index within none =
      let code = layout_is_code (program_of old) old.stack.frame.code machine.program machine.placed.0.code.func in
      let there = unit_there (program_of old) old.stack slot machine.program machine.placed.0.code at in
      let found = slot_in_body (program_of old) (depth_of old.stack.frame.code.kind) old.stack.frame.code.func.0 (youngest_layout old) slot.unit index code there (within slot at) in
      let both : Some found.0 ≡ None = sym found.1 ∙ none in absurd (cc both)

  pub whole_gone : (new : Machine) (index place : ℕ) → slot_of (youngest_layout old) slot.unit index ≡ Some place → new ≡ record old { stack = gone_on place old.stack.registers old.stack }
      → IsMachine new
  whole_gone new index place found new_is =
      subst IsMachine (sym new_is) (record {
        program = machine.program;
        placed = (
          record {
            code = still_in (program_of old) old.stack slot machine.program machine.placed.0.code at slot.unit index place found;
            start = machine.placed.0.start;
          },
          machine.placed.1,
        );
        registers = going_on_keeps_registers (program_of old) old.stack slot index place old.stack.registers machine.registers at (found_is_right (youngest_layout old) slot.unit index place found);
        few = machine.few;
        flags = machine.flags;
      })

-- Where a step goes on, and where it runs off the body, for a change of the state and of the frame that keeps the frame's function and index.
module _ (old new : Machine) (state_of : State → Frame → State) (frame_of : Frame → Frame) (same_func : (f : Frame) → (frame_of f).func ≡ f.func) (same_index : (f : Frame) → (frame_of f).index ≡ f.index) where
  pub went_on : (mid : Machine) → HasRisen old mid
      → ((state : State) (frame : Frame) (callers : List Frame) → IsInState old state → state.stack ≡ frame ∷ callers
      → IsInState mid (record state { stack = record frame { index = suc frame.index } ∷ callers })
      → IsInState new (record (state_of state frame) { stack = record (frame_of frame) { index = suc (frame_of frame).index } ∷ callers }))
      → Advances old new (λ state frame callers. rises (program_of old) state (state_of state frame) (frame_of frame) callers)
  went_on mid has goes state frame callers is stack_is =
      let r = has state frame callers is stack_is in
      let less : suc (frame_of frame).index < length (body_of (program_of old) (frame_of frame).func) =
      subst (λ f. suc (frame_of frame).index < length (body_of (program_of old) f)) (sym (same_func frame)) (subst (λ i. suc i < length (body_of (program_of old) frame.func)) (sym (same_index frame)) r.0) in
      subst (IsInState new) (sym (rises_below (program_of old) state (state_of state frame) (frame_of frame) callers less)) (goes state frame callers is stack_is r.1)

  pub went_off : HasRunOff old new → Advances old new (λ state frame callers. rises (program_of old) state (state_of state frame) (frame_of frame) callers)
  went_off has state frame callers is stack_is =
      let r = has state frame callers is stack_is in
      let past : length (body_of (program_of old) (frame_of frame).func) ≤ suc (frame_of frame).index =
      subst (λ f. length (body_of (program_of old) f) ≤ suc (frame_of frame).index) (sym (same_func frame)) (subst (λ i. length (body_of (program_of old) frame.func) ≤ suc i) (sym (same_index frame)) r.0) in
      subst (IsInState new) (sym (rises_past (program_of old) state (state_of state frame) (frame_of frame) callers past)) r.1

-- a register has got a number
pub has_set : (old mid new : Machine) (to number : ℕ) (n : Frame → ℕ) → ((frame : Frame) → frame.registers ≡ old.stack.registers → number ≡ n frame % 2 ^ 64) → HasRisen old mid
    → new ≡ record mid { stack = record mid.stack { registers = slice_set mid.stack.registers to number } }
    → Advances old new (λ state frame callers. sets (program_of old) state frame callers to (n frame))
has_set old mid new to number n number_is has new_is =
    went_on old new (λ state frame. state) (λ frame. with_register frame to (n frame)) (λ f. refl) (λ f. refl) mid has
    (λ state frame callers is stack_is mid_is.
    let own : frame.registers ≡ old.stack.registers = top_registers (program_of old) old.stack frame callers (stands_for old state frame callers is stack_is) in
    let risen_frame : Frame = record frame { index = suc frame.index } in
    let kept : frame.registers ≡ mid.stack.registers = top_registers (program_of mid) mid.stack risen_frame callers mid_is.stack in
    let value : slice_set mid.stack.registers to number ≡ slice_set frame.registers to (n frame % 2 ^ 64) = ap₂ (λ rs v. slice_set rs to v) (sym kept) (number_is frame own) in
    let set = registers_set (program_of mid) mid.stack risen_frame callers (slice_set mid.stack.registers to number) mid_is.stack in
    let after : State = record state { stack = record (with_register frame to (n frame)) { index = suc frame.index } ∷ callers } in
    subst (λ m. IsInState m after) (sym new_is) (record {
      stack = subst (λ rs. Stands (program_of mid) (record mid.stack { registers = slice_set mid.stack.registers to number }) (record risen_frame { registers = rs } ∷ callers)) value set;
      codes = said_kept mid (record mid { stack = record mid.stack { registers = slice_set mid.stack.registers to number } }) (record state { stack = risen_frame ∷ callers }) after refl refl refl mid_is.codes;
      engine = mid_is.engine;
      rest = mid_is.rest;
      ended = mid_is.ended;
    }))

pub has_not_set : (old new : Machine) (to : ℕ) (n : Frame → ℕ) → HasRunOff old new → Advances old new (λ state frame callers. sets (program_of old) state frame callers to (n frame))
has_not_set old new to n has = went_off old new (λ state frame. state) (λ frame. with_register frame to (n frame)) (λ f. refl) (λ f. refl) has

pub whole_set : (mid new : Machine) (registers : List ℕ) → IsMachine mid → new ≡ record mid { stack = record mid.stack { registers = registers } } → IsMachine new
whole_set mid new registers machine new_is =
    subst IsMachine (sym new_is) (record { program = machine.program; placed = machine.placed; registers = machine.registers; few = machine.few; flags = machine.flags })

-- the engine is in another state
pub has_waited : (old mid new : Machine) (engine : VmState) (steps : ℕ) → HasRisen old mid → new ≡ record mid { state = engine; rest = steps }
    → Advances old new (λ state frame callers. waits (program_of old) state frame callers engine steps)
has_waited old mid new engine steps has new_is =
    went_on old new (λ state frame. record state { state = engine; rest = steps }) (λ frame. frame) (λ f. refl) (λ f. refl) mid has
    (λ state frame callers is stack_is mid_is.
    let after : State = record state { state = engine; rest = steps; stack = record frame { index = suc frame.index } ∷ callers } in
    subst (λ m. IsInState m after) (sym new_is) (record { stack = mid_is.stack; codes = said_kept mid (record mid { state = engine; rest = steps }) (record state { stack = record frame { index = suc frame.index } ∷ callers }) after refl refl refl mid_is.codes; engine = refl; rest = refl; ended = mid_is.ended }))

pub has_not_waited : (old new : Machine) (engine : VmState) (steps : ℕ) → HasRunOff old new → Advances old new (λ state frame callers. waits (program_of old) state frame callers engine steps)
has_not_waited old new engine steps has = went_off old new (λ state frame. record state { state = engine; rest = steps }) (λ frame. frame) (λ f. refl) (λ f. refl) has

pub whole_waiting : (mid new : Machine) (engine : VmState) (steps : ℕ) → IsMachine mid → new ≡ record mid { state = engine; rest = steps } → IsMachine new
whole_waiting mid new engine steps machine new_is =
    subst IsMachine (sym new_is) (record { program = machine.program; placed = machine.placed; registers = machine.registers; few = machine.few; flags = machine.flags })

-- the printed text of a state in which a number has been printed
abbrev pub after_print : ℕ → State → Frame → State
after_print from state frame = record state { printed = state.printed ++ decimal (register frame from) ++ codes "\n" }

pub has_printed : (old new : Machine) (from : ℕ) → HasRisen old new → Advances old new (λ state frame callers. rises (program_of old) state (after_print from state frame) frame callers)
has_printed old new from has =
    went_on old new (after_print from) (λ frame. frame) (λ f. refl) (λ f. refl) new has
    (λ state frame callers is stack_is mid_is.
    let risen : State = record state { stack = record frame { index = suc frame.index } ∷ callers } in
    let after : State = record (after_print from state frame) { stack = record frame { index = suc frame.index } ∷ callers } in
    record { stack = mid_is.stack; codes = said_kept new new risen after refl refl refl mid_is.codes; engine = mid_is.engine; rest = mid_is.rest; ended = mid_is.ended })

pub has_not_printed : (old new : Machine) (from : ℕ) → HasRunOff old new → Advances old new (λ state frame callers. rises (program_of old) state (after_print from state frame) frame callers)
has_not_printed old new from has = went_off old new (after_print from) (λ frame. frame) (λ f. refl) (λ f. refl) has

pub text_printed : (old new : Machine) (from number : ℕ) → HasRisen old new → number ≡ slice_index old.stack.registers from
    → (state : State) (frame : Frame) (callers : List Frame) → IsInState old state → state.stack ≡ frame ∷ callers
    → (rises (program_of old) state (after_print from state frame) frame callers).printed ≡ state.printed ++ printed_text (Some number)
text_printed old new from number has number_is state frame callers is stack_is =
    let r = has state frame callers is stack_is in
    let own : frame.registers ≡ old.stack.registers = top_registers (program_of old) old.stack frame callers (stands_for old state frame callers is stack_is) in
    ap (λ (s : State). s.printed) (rises_below (program_of old) state (after_print from state frame) frame callers r.0)
    ∙ ap (λ n. state.printed ++ decimal n ++ codes "\n") (ap (λ rs. slice_index rs from) own ∙ sym number_is)
    ∙ append_assoc state.printed (decimal number) (codes "\n")

pub text_not_printed : (old new : Machine) (from : ℕ) → HasRunOff old new
    → (state : State) (frame : Frame) (callers : List Frame) → IsInState old state → state.stack ≡ frame ∷ callers
    → (rises (program_of old) state (after_print from state frame) frame callers).printed ≡ state.printed ++ printed_text None
text_not_printed old new from has state frame callers is stack_is =
    let r = has state frame callers is stack_is in
    ap (λ (s : State). s.printed) (rises_past (program_of old) state (after_print from state frame) frame callers r.0) ∙ sym (append-nil state.printed)

-- it has gone on, or run off
pub has_passed : (old new : Machine) (risen : Bool) → Rises risen old new → Advances old new (λ state frame callers. rises (program_of old) state state frame callers)
has_passed old new true has = went_on old new (λ state frame. state) (λ frame. frame) (λ f. refl) (λ f. refl) new has (λ state frame callers is stack_is mid_is. mid_is)
has_passed old new false has = went_off old new (λ state frame. state) (λ frame. frame) (λ f. refl) (λ f. refl) has

-- the register of a plain frame that has the registers of the machine
pub register_read : (registers : List ℕ) (from number : ℕ) (frame : Frame) → number ≡ slice_index registers from → frame.registers ≡ registers → number ≡ register frame from
register_read registers from number frame is same = is ∙ ap (λ rs. slice_index rs from) (sym same)

-- a register is tested
module _ (old new : Machine) (tested index number : ℕ) (number_is : number ≡ slice_index old.stack.registers tested) where
  tested_is : (state : State) (frame : Frame) (callers : List Frame) → IsInState old state → state.stack ≡ frame ∷ callers → number ≡ register frame tested
  tested_is state frame callers is stack_is =
      register_read old.stack.registers tested number frame number_is (top_registers (program_of old) old.stack frame callers (stands_for old state frame callers is stack_is))

  pub has_jumped : number ≡ 0 → Advances old new (λ state frame callers. jumps state frame callers index) → Advances old new (λ state frame callers. does (program_of old) state frame callers (op.Jz tested index))
  has_jumped zero_is does_so state frame callers is stack_is =
      let zero_here : (register frame tested == 0) ≡ true = ap (λ n. n == 0) (sym (tested_is state frame callers is stack_is) ∙ zero_is) in
      subst (IsInState new) (sym (cond-true (register frame tested == 0) (jumps state frame callers index) (rises (program_of old) state state frame callers) zero_here)) (does_so state frame callers is stack_is)

  pub has_not_jumped : (number ≡ 0 → ⊥) → Advances old new (λ state frame callers. rises (program_of old) state state frame callers)
      → Advances old new (λ state frame callers. does (program_of old) state frame callers (op.Jz tested index))
  has_not_jumped not_zero does_so state frame callers is stack_is =
      let here : (register frame tested == 0) ≡ false = ne_eqb (register frame tested) 0 (λ zero_is. not_zero (tested_is state frame callers is stack_is ∙ zero_is)) in
      subst (IsInState new) (sym (cond-false (register frame tested == 0) (jumps state frame callers index) (rises (program_of old) state state frame callers) here)) (does_so state frame callers is stack_is)

-- 1 for what is less, 0 for what is not
pub less_value : (a b x y : ℕ) → a ≡ x → b ≡ y → a < b → 1 ≡ cond (nat_lt x y) 1 0 % 2 ^ 64
less_value a b x y a_is b_is less = sym (ap (λ n. n % 2 ^ 64) (cond-true (nat_lt x y) 1 0 (lt-ltb x y (omega (arith, a_is, b_is, less)))))

pub not_less_value : (a b x y : ℕ) → a ≡ x → b ≡ y → b ≤ a → 0 ≡ cond (nat_lt x y) 1 0 % 2 ^ 64
not_less_value a b x y a_is b_is past = sym (ap (λ n. n % 2 ^ 64) (cond-false (nat_lt x y) 1 0 (le-ltb x y (omega (arith, a_is, b_is, past)))))
