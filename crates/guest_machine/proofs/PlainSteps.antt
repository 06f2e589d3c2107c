-- That a step of the machine is a step of the plain machine.
use Rattle.std.proofs.Common.{◌≡◌, ℕ, suc, ◌+◌, ◌-◌, ◌^◌, min, List, [], ◌∷◌, ◌++◌, refl, ap, ◌∙◌, sym, subst, arith, append-nil}
use Rattle.std.proofs.lemmas.Bool.{cond-true, cond-false}
use Rattle.std.specs.Prelude.{Bool, true, false, cond, not, ◌&&◌, Some, None, is_some, nat_le, option_and_then}
use Rattle.std.specs.List.{slice_get}
use Rattle.std.specs.Option.{option_map_or}
use Rattle.guest_program.specs.declared.instr.Func.{Func}
use Rattle.guest_program.specs.declared.instr.Instr.{Instr}
use Rattle.guest_program.specs.declared.instr.Op.TheVariants as op
use Rattle.code_objects.specs.CodeObjects.{LieAt}
use Rattle.code_event.specs.CodeMap.{after_events, ranges}
use Rattle.code_event.specs.DeoptReasons.{DeoptReasons, no_reasons, reasons, reasons_after}
use Rattle.code_event.specs.declared.event.CodeEvent.{CodeEvent}
use Rattle.code_event.specs.declared.tick.VmState.TheVariants.{Js}
use Rattle.code_layout.specs.Laws.{func_at}
use Rattle.code_objects.proofs.Keeping.{events_add_up}
use Rattle.guest_machine.proofs.Advancing.{stands_for}
use Rattle.guest_machine.proofs.ActsDone.{there}
use Rattle.guest_machine.proofs.Instructions.{next_is, instr_there}
use Rattle.guest_machine.proofs.Raised.{reasons_both}
use Rattle.guest_machine.proofs.RulesSame.{rules_same}
use Rattle.guest_machine.proofs.Said.{said_kept}
use Rattle.guest_stack.proofs.Stepping.{youngest_is_at_slot, stack_some}
use Rattle.guest_machine.specs.Machine.{ActKeepsRules, DoesOp, op_deopts, IsInState, IsMachine, Reflects, Steps, Waits, next_op, printed_text, program_of, youngest_layout}
use Rattle.plain_machine.specs.PlainFrames.{reason_in, reasons_of}
use Rattle.plain_machine.specs.PlainMachine.{Frame, State, does, deopts, gives_up, instr_of, is_js, js_gives_up, js_step, plain, step, wait_step}
use Rattle.guest_stack.specs.Stack.{frame_at}
use Rattle.guest_machine.specs.Rules.{KeepsRules, OpKeepsRules, WaitsOrActs, frames_of, plain_op}
use Rattle.guest_machine.specs.declared.machine.Machine.{Machine}
use Rattle.guest_machine.specs.declared.machine.StepDone.{StepDone}

-- The machine, which has not ended, before a step.
module _ (old : Machine) (whole : IsMachine old) (going : old.ended ≡ None) where
  abbrev funcs : List Func
  funcs = program_of old

  -- in each of its states there is a frame
  some_frame : (state : State) → IsInState old state → (frame : Frame) × (callers : List Frame) × (state.stack ≡ frame ∷ callers)
  some_frame state is = let slot = there old whole in stack_some funcs old.stack state.stack slot.0 is.stack slot.1

  not_ended : (state : State) → IsInState old state → is_some state.ended ≡ false
  not_ended state is = ap is_some (sym is.ended ∙ going)

  -- In state Js it does the next operation.
  module _ (js : old.state ≡ Js) (state : State) (is : IsInState old state) (frame : Frame) (callers : List Frame) (stack_is : state.stack ≡ frame ∷ callers) where
    instr_is : (instr : Instr) × (instr_of funcs frame ≡ Some instr) × (instr.op ≡ next_op old)
    instr_is =
        let slot = there old whole in
        let first : frame ≡ frame_at (func_at (youngest_layout old).units slot.0.unit, slot.0.index) old.stack.registers =
        youngest_is_at_slot funcs old.stack frame callers slot.0 (stands_for old state frame callers is stack_is) slot.1 in
        let instr = instr_there old whole slot.0 slot.1 in
        (instr.0, ap (instr_of funcs) first ∙ instr.1, next_is old whole slot.0 slot.1 instr.0 instr.1)

    engine_js : is_js state.state ≡ true
    engine_js = ap is_js (sym is.engine ∙ js)

    js_steps : step funcs state ≡ does funcs state frame callers (next_op old)
    js_steps =
        cond-false (is_some state.ended) state (cond (is_js state.state) (js_step funcs state state.stack) (wait_step state)) (not_ended state is)
        ∙ cond-true (is_js state.state) (js_step funcs state state.stack) (wait_step state) engine_js
        ∙ ap (js_step funcs state) stack_is
        ∙ ap (λ o. option_map_or (λ (i : Instr). does funcs state frame callers i.op) o state) instr_is.1
        ∙ ap (does funcs state frame callers) instr_is.2

    -- the operation that the plain machine does
    js_op : plain_op funcs state ≡ next_op old
    js_op =
        ap (λ stack. option_map_or (λ (i : Instr). i.op) (option_and_then (instr_of funcs) (slice_get stack 0)) op.Halt) stack_is
        ∙ ap (λ o. option_map_or (λ (i : Instr). i.op) o op.Halt) instr_is.1
        ∙ instr_is.2

    js_up : js_gives_up funcs state state.stack ≡ gives_up state (next_op old)
    js_up =
        ap (js_gives_up funcs state) stack_is
        ∙ ap (λ o. option_map_or (λ (i : Instr). gives_up state i.op) o false) instr_is.1
        ∙ ap (gives_up state) instr_is.2

    js_tick : op_deopts funcs state frame callers (next_op old)
        ≡ (not (is_some state.ended) && is_js state.state && js_gives_up funcs state state.stack && not (is_some (step funcs state).ended))
    js_tick =
        ap (λ (after : State). gives_up state (next_op old) && not (is_some after.ended)) (sym js_steps)
        ∙ ap (λ b. b && not (is_some (step funcs state).ended)) (sym js_up)
        ∙ ap (λ b. b && js_gives_up funcs state state.stack && not (is_some (step funcs state).ended)) (sym engine_js)
        ∙ ap (λ b. not b && is_js state.state && js_gives_up funcs state state.stack && not (is_some (step funcs state).ended)) (sym (not_ended state is))

    js_rules : (new : Machine) (events : List CodeEvent) → ActKeepsRules old new events (next_op old) → KeepsRules state old new events
    js_rules new events rules =
        let one : OpKeepsRules state (step funcs state) (next_op old) old new events = subst (λ (after : State). OpKeepsRules state after (next_op old) old new events) (sym js_steps) (rules state frame callers is stack_is) in
        subst (λ b. WaitsOrActs b state old new events) (sym engine_js) (subst (λ o. OpKeepsRules state (step funcs state) o old new events) (sym js_op) one)

  -- In another state it waits.
  module _ (waiting : is_js old.state ≡ false) (state : State) (is : IsInState old state) where
    engine_waits : is_js state.state ≡ false
    engine_waits = ap is_js (sym is.engine) ∙ waiting

    wait_steps : step funcs state ≡ wait_step state
    wait_steps =
        cond-false (is_some state.ended) state (cond (is_js state.state) (js_step funcs state state.stack) (wait_step state)) (not_ended state is)
        ∙ cond-false (is_js state.state) (js_step funcs state state.stack) (wait_step state) engine_waits

  and_false : (a b c d : Bool) → b ≡ false → (a && b && c && d) ≡ false
  and_false true true c d is = absurd (cc is)
  and_false true false c d is = refl
  and_false false b c d is = refl

  pub js_done : (new : Machine) (done : StepDone) → old.state ≡ Js → DoesOp old new done (next_op old) → Steps old new done
  js_done new done js does_so =
      record {
        whole = does_so.acts.whole;
        program = does_so.acts.program;
        does = λ state is.
            let some = some_frame state is in
            subst (IsInState new) (sym (js_steps js state is some.0 some.1 some.2)) (does_so.acts.advances state some.0 some.1 is some.2);
        code = does_so.acts.code;
        reasons = λ state at why is lie are entry.
            let some = some_frame state is in
            does_so.acts.reasons state some.0 some.1 at why is some.2 lie are entry
            ∙ ap (λ (s : State). reasons_of funcs s entry) (sym (js_steps js state is some.0 some.1 some.2));
        rules = λ state is. let some = some_frame state is in js_rules js state is some.0 some.1 some.2 new done.events does_so.acts.rules;
        tick = λ steps is.
            let state = plain funcs steps in
            let some = some_frame state is in
            does_so.tick state some.0 some.1 is some.2 ∙ js_tick js state is some.0 some.1 some.2;
        printed = λ state is.
            let some = some_frame state is in
            ap (λ (s : State). s.printed) (js_steps js state is some.0 some.1 some.2) ∙ does_so.printed state some.0 some.1 is some.2;
        engine = does_so.engine;
      }

  -- a wait says nothing and prints nothing
  wait_says : (state : State) → ((wait_step state).code ≡ state.code) × ((wait_step state).printed ≡ state.printed)
  wait_says state = by_test (nat_le state.rest 1) refl
    where
      by_test : (b : Bool) → nat_le state.rest 1 ≡ b → ((wait_step state).code ≡ state.code) × ((wait_step state).printed ≡ state.printed)
      by_test true is =
          let last : wait_step state ≡ record state { state = Js; rest = 0 } = cond-true (nat_le state.rest 1) _ _ is in
          (ap (λ (s : State). s.code) last, ap (λ (s : State). s.printed) last)
      by_test false is =
          let more : wait_step state ≡ record state { rest = state.rest - 1 } = cond-false (nat_le state.rest 1) _ _ is in
          (ap (λ (s : State). s.code) more, ap (λ (s : State). s.printed) more)

  pub wait_done : (new : Machine) (done : StepDone) → is_js old.state ≡ false → Waits old new done → Steps old new done
  wait_done new done waiting waits =
      record {
        whole = waits.whole;
        program = ap (λ c. c.funcs) waits.code;
        does = λ state is.
            let some = some_frame state is in
            subst (IsInState new) (sym (wait_steps waiting state is)) (waits.does state some.0 some.1 is some.2);
        code = λ at lie. subst (λ events. LieAt new.code (after_events at events)) (sym waits.events) (subst (λ c. LieAt c at) (sym waits.code) lie);
        reasons = λ state at why is lie are entry.
            ap (λ events. reasons_after at why events entry) waits.events
            ∙ are entry
            ∙ ap (λ codes. reason_in funcs codes entry) (sym (ap (λ (s : State). s.code) (wait_steps waiting state is) ∙ (wait_says state).0));
        rules = λ state is. subst (λ b. WaitsOrActs b state old new done.events) (sym (engine_waits waiting state is)) (record { code = (waits.code, waits.events); frames = waits.frames });
        tick = λ steps is.
            let state = plain funcs steps in
            waits.tick ∙ sym (and_false (not (is_some state.ended)) (is_js state.state) (js_gives_up funcs state state.stack) (not (is_some (step funcs state).ended)) (engine_waits waiting state is));
        printed = λ state is.
            ap (λ (s : State). s.printed) (wait_steps waiting state is)
            ∙ (wait_says state).1
            ∙ sym (append-nil state.printed)
            ∙ ap (λ o. state.printed ++ printed_text o) (sym waits.printed);
        engine = waits.engine;
      }

-- A step that is counted.
module _ (old mid new : Machine) (done : StepDone) (whole : IsMachine old) (going : old.ended ≡ None) (stepped : Steps old mid done) (new_is : new ≡ record mid { steps = min (old.steps + 1) (2 ^ 64 - 1) }) where
  pub whole_after : IsMachine new
  whole_after =
      let machine = stepped.whole in
      subst IsMachine (sym new_is) (record { program = machine.program; placed = machine.placed; registers = machine.registers; few = machine.few; flags = machine.flags })

  pub program_after : program_of new ≡ program_of old
  program_after = ap program_of new_is ∙ stepped.program

  counted : (steps : ℕ) → old.steps ≡ min steps (2 ^ 64 - 1) → min (old.steps + 1) (2 ^ 64 - 1) ≡ min (suc steps) (2 ^ 64 - 1)
  counted steps is = omega (arith, is)

  pub reflects_after : (steps : ℕ) (events : List CodeEvent) → Reflects old steps events → Reflects new (suc steps) (events ++ done.events)
  reflects_after steps events reflects =
      let counted_machine : Machine = record mid { steps = min (old.steps + 1) (2 ^ 64 - 1) } in
      let after : State = plain (program_of old) (suc steps) in
      let state : IsInState mid after = stepped.does (plain (program_of old) steps) reflects.state in
      subst (λ m. Reflects m (suc steps) (events ++ done.events)) (sym new_is) (record {
        state = subst (λ p. IsInState (record mid { steps = min (old.steps + 1) (2 ^ 64 - 1) }) (plain p (suc steps))) (sym stepped.program)
            (record { stack = state.stack; codes = said_kept mid counted_machine after after refl refl refl state.codes; engine = state.engine; rest = state.rest; ended = state.ended });
        code = events_add_up old.code mid.code events done.events reflects.code stepped.code;
        reasons = λ entry.
            ap (λ (why : DeoptReasons). why entry) (reasons_both [] no_reasons events done.events)
            ∙ stepped.reasons (plain (program_of old) steps) (ranges events) (reasons events) reflects.state reflects.code reflects.reasons entry
            ∙ ap (λ p. reasons_of p (plain p (suc steps)) entry) (sym stepped.program);
        counted = counted steps reflects.counted;
      })

  pub tick_after : (steps : ℕ) (events : List CodeEvent) → Reflects old steps events → done.vm_tick ≡ deopts (program_of old) steps
  tick_after steps events reflects = stepped.tick steps reflects.state

  pub printed_after : (steps : ℕ) (events : List CodeEvent) → Reflects old steps events
      → (plain (program_of old) (suc steps)).printed ≡ (plain (program_of old) steps).printed ++ printed_text done.printed
  printed_after steps events reflects = stepped.printed (plain (program_of old) steps) reflects.state

  pub rules_after : (steps : ℕ) (events : List CodeEvent) → Reflects old steps events → KeepsRules (plain (program_of old) steps) old new done.events
  rules_after steps events reflects =
      rules_same (plain (program_of old) steps) old mid new done.events (ap (λ m. m.code) new_is) (ap frames_of new_is) (stepped.rules (plain (program_of old) steps) reflects.state)
