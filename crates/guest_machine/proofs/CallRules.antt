-- That a call keeps the rules.
use Rattle.std.proofs.Common.{◌≡◌, ℕ, List, [], ◌∷◌, refl, ap, ◌∙◌, sym, subst}
use Rattle.std.proofs.lemmas.Bool.{cond-true, cond-false}
use Rattle.std.specs.Prelude.{true, false, is_some, Some, None, Result, Ok, Err, IfOk}
use Rattle.prof_base.specs.declared.ids.FuncId.{FuncId}
use Rattle.guest_program.specs.declared.instr.Op.TheVariants as op
use Rattle.code_event.specs.declared.event.CodeEvent.{CodeEvent}
use Rattle.code_layout.specs.Laws.{slot_of}
use Rattle.code_objects.specs.Changes.{HasCode}
use Rattle.code_objects.specs.CodeObjects.{CodeParts, optimised_name, plain_name}
use Rattle.code_objects.specs.declared.name.CodeName.{CodeName}
use Rattle.guest_machine.proofs.Apart.{units_apart}
use Rattle.guest_machine.proofs.Moved.{act_ends, act_goes, same_code, unit_place}
use Rattle.guest_stack.proofs.Positions.{slot_there}
use Rattle.guest_machine.specs.Machine.{ActKeepsRules, Advances, IsChild, IsMachine, program_of, youngest_layout}
use Rattle.guest_machine.specs.Rules.{Becomes, IsSure, Unchanged, at_unit, code_called, frames_of, has_code}
use Rattle.plain_machine.specs.PlainMachine.{calls}
use Rattle.plain_machine.specs.declared.ended.Ended.TheVariants as end
use Rattle.guest_stack.specs.Stack.{at_slot, called_code, called_within, first_frame}
use Rattle.guest_machine.specs.declared.machine.Machine.{Machine}

-- two facts of a result
pub both_ok : {X E : Type 0} (r : Result X E) (P Q R : X → Type 0) → ((x : X) → P x → Q x → R x) → IfOk r P → IfOk r Q → IfOk r R
both_ok (Ok x) P Q R goes one other = goes x one other
both_ok (Err e) P Q R goes one other = tt

-- Only one unit was inlined at the youngest frame's slot.
pub only_child : (machine : Machine) → IsMachine machine → (one other : ℕ) → IsChild machine one → IsChild machine other → one ≡ other
only_child machine whole one other child also =
    let slot = slot_there (program_of machine) machine.stack.frame whole.placed.0.code in
    let s = child slot.0 slot.1 in
    let t = also slot.0 slot.1 in
    units_apart (program_of machine) machine.stack.frame.code one other s.0 t.0 s.1 t.1 (s.2 ∙ sym t.2) (s.3 ∙ sym t.3)

-- optimised code is there already
pub sure_there : (name : CodeName) (code : CodeParts) (events : List CodeEvent) → HasCode code name → events ≡ [] → IsSure name code code events
sure_there name code events there none = record { event = None; sure = (there, refl); others = λ other differs. refl; funcs = refl; raised = none }

pub called_optimised : (code : CodeParts) (func : FuncId) → has_code code (optimised_name func) ≡ true → code_called code func ≡ optimised_name func
called_optimised code func there = cond-true (has_code code (optimised_name func)) (optimised_name func) (plain_name func) there

pub called_plain : (code : CodeParts) (func : FuncId) → has_code code (optimised_name func) ≡ false → code_called code func ≡ plain_name func
called_plain code func none = cond-false (has_code code (optimised_name func)) (optimised_name func) (plain_name func) none

-- A call of the machine.
module _ (old new : Machine) (func : FuncId) (events : List CodeEvent) (advances : Advances old new (λ state frame callers. calls state frame callers func.0)) where
  -- the stack is full
  pub overflow_keeps : new ≡ record old { ended = Some end.Overflow } → events ≡ [] → ActKeepsRules old new events (op.Call func)
  overflow_keeps new_is none =
      act_ends old new events (op.Call func) advances (ap (λ m. is_some m.ended) new_is) (same_code old new events (frames_of old) (ap (λ m. m.code) new_is) none (ap frames_of new_is))

  -- the function is called in a frame of its own
  pub out_keeps : old.ended ≡ None → ((unit : ℕ) → IsChild old unit → ⊥) → (code : CodeParts) (name : CodeName) → code_called old.code func ≡ name → IsSure name old.code code events
      → new ≡ record old { code = code; stack = called_code (first_frame name) old.stack } → ActKeepsRules old new events (op.Call func)
  out_keeps going outside code name name_is sure new_is =
      let becomes : Becomes (IsSure name) (first_frame name ∷ frames_of old) old new events =
      record { code = subst (λ c. IsSure name old.code c events) (sym (ap (λ m. m.code) new_is)) sure; frames = ap frames_of new_is } in
      act_goes old new events (op.Call func) advances (ap (λ m. m.ended) new_is ∙ going) (λ state frame callers is stack_is. record {
        within = λ unit child. absurd (outside unit child);
        out = λ none. subst (λ n. Becomes (IsSure n) (first_frame n ∷ frames_of old) old new events) (sym name_is) becomes;
      })

  -- the function was inlined
  pub within_keeps : IsMachine old → old.ended ≡ None → (unit place : ℕ) → IsChild old unit → slot_of (youngest_layout old) unit 0 ≡ Some place
      → new ≡ record old { stack = called_within place old.stack } → events ≡ [] → ActKeepsRules old new events (op.Call func)
  within_keeps whole going unit place child found new_is none =
      let funcs = program_of old in
      let at : at_unit funcs unit 0 old.stack.frame ∷ old.stack.callers ≡ at_slot old.stack.frame place ∷ old.stack.callers = ap (λ f. f ∷ old.stack.callers) (unit_place funcs old.stack.frame unit 0 place found) in
      let becomes : Becomes Unchanged (at_unit funcs unit 0 old.stack.frame ∷ old.stack.callers) old new events = same_code old new events _ (ap (λ m. m.code) new_is) none (ap frames_of new_is ∙ sym at) in
      act_goes old new events (op.Call func) advances (ap (λ m. m.ended) new_is ∙ going) (λ state frame callers is stack_is. record {
        within = λ other also. subst (λ u. Becomes Unchanged (at_unit funcs u 0 old.stack.frame ∷ old.stack.callers) old new events) (only_child old whole unit other child also) becomes;
        out = λ outside. absurd (outside unit child);
      })
