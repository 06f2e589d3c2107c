-- Where the frames are after an operation that moves the youngest within its unit, and how an operation keeps the rules.
use Rattle.std.proofs.Common.{◌≡◌, ℕ, suc, List, [], ◌∷◌, length, refl, ap, ◌∙◌, sym, subst}
use Rattle.std.specs.Prelude.{Bool, true, false, cond, nat_lt, Some, None, is_some, unwrap_or}
use Rattle.std.specs.Option.{option_map_or}
use Rattle.std.specs.List.{slice_get}
use Rattle.guest_program.specs.declared.instr.Func.{Func}
use Rattle.guest_program.specs.declared.instr.Op.{Op}
use Rattle.guest_program.specs.declared.instr.Op.TheVariants as op
use Rattle.code_event.specs.declared.event.CodeEvent.{CodeEvent}
use Rattle.code_event.specs.declared.layout.Slot.{Slot}
use Rattle.code_layout.specs.Laws.{slot_of}
use Rattle.code_layout.proofs.Standing.{found_is_right}
use Rattle.code_objects.specs.CodeObjects.{layout_of}
use Rattle.guest_stack.proofs.Positions.{slot_there}
use Rattle.guest_stack.proofs.Stepping.{stack_some, youngest_is_at_slot}
use Rattle.guest_machine.specs.Machine.{ActKeepsRules, Advances, HasMoved, IsInState, IsMachine, Rises, StaysInUnit, program_of, youngest_layout}
use Rattle.guest_machine.specs.Rules.{Becomes, Does, EndsOrDoes, Unchanged, at_index, at_unit, frames_of, gone_to, top_index}
use Rattle.plain_machine.specs.PlainMachine.{Frame, State, does, ends, rises}
use Rattle.plain_machine.specs.declared.ended.Ended.TheVariants as end
use Rattle.guest_program.specs.InlinedSize.{body_of}
use Rattle.guest_machine.proofs.Advancing.{has_passed}
use Rattle.guest_stack.specs.Stack.{Physical, Stands, at_slot, gone_on}
use Rattle.guest_stack.specs.Laws.{IsAtSlot}
use Rattle.guest_stack.specs.declared.stack.CodeFrame.{CodeFrame}
use Rattle.guest_machine.specs.declared.machine.Machine.{Machine}

-- the youngest frame went from its slot to that of another index of its unit
pub has_gone : (old new : Machine) (slot : Slot) (index place : ℕ) → IsAtSlot (program_of old) old.stack.frame slot → slot_of (youngest_layout old) slot.unit index ≡ Some place
    → new ≡ record old { stack = gone_on place old.stack.registers old.stack } → HasMoved true old new
has_gone old new slot index place at found new_is = (
  ap (λ m. m.ended) new_is,
  λ other other_at.
      let both : Some slot ≡ Some other = sym at ∙ other_at in
      let same : slot ≡ other = cc both in (index, place, subst (λ (s : Slot). slot_of (youngest_layout old) s.unit index ≡ Some place) same found, ap frames_of new_is),
)

-- After a move, the frames and the end were left as they were.
pub still_moved : (moved : Bool) (old mid new : Machine) → HasMoved moved old mid → frames_of new ≡ frames_of mid → new.ended ≡ mid.ended → HasMoved moved old new
still_moved true old mid new has frames ended = (
  ended ∙ has.0,
  λ slot at.
      let to = has.1 slot at in (to.0, to.1, to.2, frames ∙ to.3),
)
still_moved false old mid new has frames ended = (ap is_some ended ∙ has.0, frames ∙ has.1)

pub set_stays : (moved : Bool) (old mid new : Machine) → HasMoved moved old mid → frames_of new ≡ frames_of mid → new.ended ≡ mid.ended → StaysInUnit old new
set_stays moved old mid new has frames ended = (moved, still_moved moved old mid new has frames ended)

-- the frame at the slot of a unit and an index that is found
pub unit_place : (funcs : List Func) (frame : CodeFrame) (unit index place : ℕ) → slot_of (layout_of funcs frame.code) unit index ≡ Some place → at_unit funcs unit index frame ≡ at_slot frame place
unit_place funcs frame unit index place found = ap (λ o. at_slot frame (unwrap_or o frame.slot)) found

-- the frame at the slot of an index of its unit that is found
pub index_place : (funcs : List Func) (frame : CodeFrame) (slot : Slot) (index place : ℕ) → IsAtSlot funcs frame slot → slot_of (layout_of funcs frame.code) slot.unit index ≡ Some place
    → at_index funcs index frame ≡ at_slot frame place
index_place funcs frame slot index place at found =
    ap (λ o. option_map_or (λ (s : Slot). at_unit funcs s.unit index frame) o frame) at ∙ unit_place funcs frame slot.unit index place found

-- the index of the plain machine's youngest frame is that of the youngest frame's slot
pub top_is : (funcs : List Func) (it : Physical) (state : State) (slot : Slot) → Stands funcs it state.stack → IsAtSlot funcs it.frame slot → top_index state ≡ slot.index
top_is funcs it state slot stands at =
    let some = stack_some funcs it state.stack slot stands at in
    ap (λ (frames : List Frame). option_map_or (λ (f : Frame). f.index) (slice_get frames 0) 0) some.2
    ∙ ap (λ (f : Frame). f.index) (youngest_is_at_slot funcs it some.0 some.1 slot (subst (Stands funcs it) some.2 stands) at)

-- Where a frame moved, it is where the plain machine's youngest frame is.
pub moved_to : (old new : Machine) → IsMachine old → program_of new ≡ program_of old → HasMoved true old new → (after : State) → IsInState new after → frames_of new ≡ gone_to (top_index after) old
moved_to old new whole program has after is =
    let funcs = program_of old in
    let there = slot_there funcs old.stack.frame whole.placed.0.code in
    let to = has.1 there.0 there.1 in
    let right = found_is_right (youngest_layout old) there.0.unit to.0 to.1 to.2 in
    let frame_is : new.stack.frame ≡ at_slot old.stack.frame to.1 = cc to.3 in
    let at : IsAtSlot funcs new.stack.frame right.0 = subst (λ f. IsAtSlot funcs f right.0) (sym frame_is) right.1 in
    let stands : Stands funcs new.stack after.stack = subst (λ fs. Stands fs new.stack after.stack) program is.stack in
    let index_is : to.0 ≡ top_index after = sym (top_is funcs new.stack after right.0 stands at ∙ right.3) in
    to.3
    ∙ ap (λ f. f ∷ old.stack.callers) (sym (index_place funcs old.stack.frame there.0 to.0 to.1 there.1 to.2))
    ∙ ap (λ i. gone_to i old) index_is

-- The index after a rise does not depend on what else changed.
pub same_top : (funcs : List Func) (state one other : State) (frame : Frame) (callers : List Frame) → top_index (rises funcs state one frame callers) ≡ top_index (rises funcs state other frame callers)
same_top funcs state one other frame callers = by_case (nat_lt (suc frame.index) (length (body_of funcs frame.func)))
  where
    risen : State → State
    risen after = record after { stack = record frame { index = suc frame.index } ∷ callers }

    by_case : (b : Bool) → top_index (cond b (risen one) (ends end.OffEnd state)) ≡ top_index (cond b (risen other) (ends end.OffEnd state))
    by_case true = refl
    by_case false = refl

-- Where a frame has risen, it is where the plain machine's youngest frame is, whatever else changes in that.
pub risen_to : (old mid : Machine) → IsMachine old → program_of mid ≡ program_of old → HasMoved true old mid → Rises true old mid → (after state : State) (frame : Frame) (callers : List Frame)
    → IsInState old state → state.stack ≡ frame ∷ callers → frames_of mid ≡ gone_to (top_index (rises (program_of old) state after frame callers)) old
risen_to old mid whole program has risen after state frame callers is stack_is =
    moved_to old mid whole program has (rises (program_of old) state state frame callers) (has_passed old mid true risen state frame callers is stack_is)
    ∙ ap (λ i. gone_to i old) (same_top (program_of old) state state after frame callers)

-- The plain machine goes on where the machine does, and has ended where it has.
pub still_going : (new : Machine) (after : State) → IsInState new after → new.ended ≡ None → is_some after.ended ≡ false
still_going new after is going = ap is_some (sym is.ended ∙ going)

pub has_ended : (new : Machine) (after : State) → IsInState new after → is_some new.ended ≡ true → is_some after.ended ≡ true
has_ended new after is ended = ap is_some (sym is.ended) ∙ ended

-- no code changed, and the frames are these
pub same_code : (old new : Machine) (events : List CodeEvent) (after : List CodeFrame) → new.code ≡ old.code → events ≡ [] → frames_of new ≡ after → Becomes Unchanged after old new events
same_code old new events after code none frames = record { code = (code, none); frames = frames }

-- An operation that leads the plain machine to the state in which the machine is.
module _ (old new : Machine) (events : List CodeEvent) (op : Op) (advances : Advances old new (λ state frame callers. does (program_of old) state frame callers op)) where
  -- it ended the program, and nothing changed
  pub act_ends : is_some new.ended ≡ true → Becomes Unchanged (frames_of old) old new events → ActKeepsRules old new events op
  act_ends ended becomes state frame callers is stack_is =
      let after = does (program_of old) state frame callers op in
      subst (λ b. EndsOrDoes b state after op old new events) (sym (has_ended new after (advances state frame callers is stack_is) ended)) becomes

  -- the program goes on, and it did what it does
  pub act_goes : new.ended ≡ None
      → ((state : State) (frame : Frame) (callers : List Frame) → IsInState old state → state.stack ≡ frame ∷ callers → Does state (top_index (does (program_of old) state frame callers op)) op old new events)
      → ActKeepsRules old new events op
  act_goes going did state frame callers is stack_is =
      let after = does (program_of old) state frame callers op in
      subst (λ b. EndsOrDoes b state after op old new events) (sym (still_going new after (advances state frame callers is stack_is) going)) (did state frame callers is stack_is)

-- The youngest frame moved, and then the code changed, but no frame did.
pub then_keeps : (old mid new : Machine) (events : List CodeEvent) (op : Op) → IsMachine old → old.ended ≡ None → HasMoved true old mid → frames_of new ≡ frames_of mid → new.ended ≡ mid.ended → program_of new ≡ program_of old
    → Advances old new (λ state frame callers. does (program_of old) state frame callers op)
    → ((state : State) (frame : Frame) (callers : List Frame) → IsInState old state → state.stack ≡ frame ∷ callers → (index : ℕ) → frames_of mid ≡ gone_to index old → Does state index op old new events)
    → ActKeepsRules old new events op
then_keeps old mid new events op whole going has frames ended program advances did =
    let still : HasMoved true old new = still_moved true old mid new has frames ended in
    act_goes old new events op advances (still.0 ∙ going) (λ state frame callers is stack_is.
    let after = does (program_of old) state frame callers op in
    did state frame callers is stack_is (top_index after) (sym frames ∙ moved_to old new whole program still after (advances state frame callers is stack_is)))

-- The body had no next instruction, and nothing changed.
pub unmoved_keeps : (old new : Machine) (events : List CodeEvent) (op : Op) → Advances old new (λ state frame callers. does (program_of old) state frame callers op) → HasMoved false old new → new.code ≡ old.code → events ≡ []
    → ActKeepsRules old new events op
unmoved_keeps old new events op advances has code none = act_ends old new events op advances has.0 (same_code old new events (frames_of old) code none has.1)

-- an operation that leaves code as it is, and goes on in its unit
abbrev pub GoesOn : Op → Type 0
GoesOn (op.Call func) = ⊥
GoesOn op.Ret = ⊥
GoesOn (op.Opt func) = ⊥
GoesOn (op.NoOpt func reason) = ⊥
GoesOn (op.Deopt func reason) = ⊥
GoesOn (op.Drop func) = ⊥
GoesOn op.Gc = ⊥
GoesOn other = Unit {0}

-- that is what it does
goes_on_does : (state : State) (index : ℕ) (op : Op) (old new : Machine) (events : List CodeEvent) → GoesOn op → Becomes Unchanged (gone_to index old) old new events → Does state index op old new events
goes_on_does state index (op.Set to number) old new events goes becomes = becomes
goes_on_does state index (op.Add to from) old new events goes becomes = becomes
goes_on_does state index (op.Sub to from) old new events goes becomes = becomes
goes_on_does state index (op.Mul to from) old new events goes becomes = becomes
goes_on_does state index (op.Lt to from) old new events goes becomes = becomes
goes_on_does state index (op.Jump to) old new events goes becomes = becomes
goes_on_does state index (op.Jz tested to) old new events goes becomes = becomes
goes_on_does state index (op.Call func) old new events goes becomes = absurd goes
goes_on_does state index op.Ret old new events goes becomes = absurd goes
goes_on_does state index (op.Print from) old new events goes becomes = becomes
goes_on_does state index op.Halt old new events goes becomes = becomes
goes_on_does state index (op.Opt func) old new events goes becomes = absurd goes
goes_on_does state index (op.Deopt func reason) old new events goes becomes = absurd goes
goes_on_does state index (op.NoOpt func reason) old new events goes becomes = absurd goes
goes_on_does state index (op.Drop func) old new events goes becomes = absurd goes
goes_on_does state index op.Gc old new events goes becomes = absurd goes
goes_on_does state index (op.Idle steps) old new events goes becomes = becomes
goes_on_does state index (op.Native steps) old new events goes becomes = becomes
goes_on_does state index (op.Collect steps) old new events goes becomes = becomes

-- An operation that leaves code as it is, and goes on in its unit or ends the program, keeps the rules.
pub stays_keep : (old new : Machine) (events : List CodeEvent) (op : Op) → IsMachine old → old.ended ≡ None → StaysInUnit old new → new.code ≡ old.code → events ≡ [] → GoesOn op
    → Advances old new (λ state frame callers. does (program_of old) state frame callers op) → ActKeepsRules old new events op
stays_keep old new events op whole going stays code none goes advances = by_case stays.0 stays.1
  where
    by_case : (moved : Bool) → HasMoved moved old new → ActKeepsRules old new events op
    by_case true has =
        act_goes old new events op advances (has.0 ∙ going) (λ state frame callers is stack_is.
        let after = does (program_of old) state frame callers op in
        goes_on_does state (top_index after) op old new events goes
        (same_code old new events (gone_to (top_index after) old) code none
        (moved_to old new whole (ap (λ c. c.funcs) code) has after (advances state frame callers is stack_is))))
    by_case false has = act_ends old new events op advances has.0 (same_code old new events (frames_of old) code none has.1)
