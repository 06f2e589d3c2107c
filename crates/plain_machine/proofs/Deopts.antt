-- That the deoptimisations are the steps that take a function's optimised code away.
use Rattle.std.proofs.Common.{◌≡◌, inl, inr, sym, ℕ, zero, suc, ◌+◌, ◌-◌, ◌*◌, ◌^◌, List, [], ◌∷◌, ◌++◌, length, refl, ap, ◌∙◌}
use Rattle.std.proofs.lemmas.Bool.{and_from, and_parts, both_ways, cases_Bool, true_from_ne_false, cond_both, cond-true, cond-false, not-true, not_from_false}
use Rattle.std.specs.Prelude.{Bool, true, false, not, ◌&&◌, ◌||◌, Option, Some, None, nat_lt, nat_le, ◌==◌, is_some, slice_set, decimal, codes, if◌then◌else◌}
use Rattle.std.specs.Option.{option_map_or}
use Rattle.std.specs.List.{slice_get}
use Rattle.guest_program.specs.InlinedSize.{body_of, inlined_size}
use Rattle.guest_program.specs.declared.instr.Func.{Func}
use Rattle.guest_program.specs.declared.instr.Instr.{Instr}
use Rattle.guest_program.specs.declared.instr.Op.{Op}
use Rattle.guest_program.specs.declared.instr.Op.TheVariants as op
use Rattle.code_event.specs.declared.tick.VmState.{VmState}
use Rattle.code_event.specs.declared.tick.VmState.TheVariants.{Js, Idle, Native, Gc}
use Rattle.plain_machine.specs.Laws.{DeoptsTakeCodeAway}
use Rattle.plain_machine.specs.PlainMachine.{State, Frame, Code, ends, rises, with_register, register, sets, jumps, calls, returns, waits, code_at, says, optimised, deoptimised, disabled, does, instr_of, js_step, wait_step, is_js, step, plain, gives_up, js_gives_up, deopts}
use Rattle.plain_machine.specs.declared.ended.Ended.TheVariants as end

-- the code of a function in a list
abbrev said : List Code → ℕ → Code
said codes func = option_map_or (λ code. code) (slice_get codes func) (record { optimised = false; disabled = false; reason = None })

-- what is put into the list for a function that is optimised is then its code
said-set : (codes : List Code) (func : ℕ) (code : Code) → (said codes func).optimised ≡ true → said (slice_set codes func code) func ≡ code
said-set [] func code is = absurd (cc is)
said-set (first ∷ codes) zero code is = refl
said-set (first ∷ codes) (suc func) code is = said-set codes func code is

-- what is optimised in one list is optimised in the other
abbrev KeepsCode : List Code → List Code → Type 0
KeepsCode before after = (func : ℕ) → (said before func).optimised ≡ true → (said after func).optimised ≡ true

set_keeps : (codes : List Code) (func : ℕ) (code : Code) → ((said codes func).optimised ≡ true → code.optimised ≡ true) → KeepsCode codes (slice_set codes func code)
set_keeps [] func code keeps other is = is
set_keeps (first ∷ codes) zero code keeps zero is = keeps is
set_keeps (first ∷ codes) zero code keeps (suc other) is = is
set_keeps (first ∷ codes) (suc func) code keeps zero is = is
set_keeps (first ∷ codes) (suc func) code keeps (suc other) is = set_keeps codes func code keeps other is

-- `opt` keeps optimised what is optimised
optimised_keeps : (size : ℕ) (code : Code) → code.optimised ≡ true → (optimised size code).optimised ≡ true
optimised_keeps size code is =
    let large : Code = record { optimised = false; disabled = true; reason = Some (codes "too large") } in
    let either : (code.optimised || code.disabled) ≡ true = ap (λ b. b || code.disabled) is in
    ap (λ (c : Code). c.optimised) (cond-true (code.optimised || code.disabled) code (if nat_lt 4096 size then large else record code { optimised = true }) either) ∙ is

-- after `deopt` a function is not optimised
deoptimised_not : (reason : List ℕ) (code : Code) → (deoptimised reason code).optimised ≡ false
deoptimised_not reason code =
    cond_both code.optimised (record { optimised = false; disabled = code.disabled; reason = Some reason }) code (λ (after : Code). after.optimised ≡ false)
    (λ is. refl)
    (λ not. not)

-- no function's optimised code is taken away between two states
abbrev Keeps : State → State → Type 0
Keeps before after = KeepsCode before.code after.code

-- some function's optimised code is taken away between two states
abbrev Takes : State → State → Type 0
Takes before after = (func : ℕ) × ((code_at before func).optimised ≡ true) × ((code_at after func).optimised ≡ false)

keeps_not_takes : (before after : State) → Keeps before after → Takes before after → ⊥
keeps_not_takes before after keeps takes = both_ways (code_at after takes.0).optimised takes.2 (keeps takes.0 takes.1)

module _ (funcs : List Func) where
  rises_keeps : (before state : State) (frame : Frame) (callers : List Frame) → Keeps before state → Keeps before (rises funcs before state frame callers)
  rises_keeps before state frame callers keeps =
      cond_both (nat_lt (suc frame.index) (length (body_of funcs frame.func))) (record state { stack = record frame { index = suc frame.index } ∷ callers })
      (ends end.OffEnd before) (Keeps before)
      (λ below. keeps)
      (λ past func is. is)

  sets_keeps : (state : State) (frame : Frame) (callers : List Frame) (to number : ℕ) → Keeps state (sets funcs state frame callers to number)
  sets_keeps state frame callers to number = rises_keeps state state (with_register frame to number) callers (λ func is. is)

  calls_keeps : (state : State) (frame : Frame) (callers : List Frame) (func : ℕ) → Keeps state (calls state frame callers func)
  calls_keeps state frame callers func =
      cond_both (nat_lt (length callers) 254) (record state { stack = record { func = func; index = 0; registers = frame.registers } ∷ frame ∷ callers })
      (ends end.Overflow state) (Keeps state)
      (λ below other is. is)
      (λ full other is. is)

  returns_keeps : (state : State) (frame : Frame) (callers : List Frame) → Keeps state (returns funcs state frame callers)
  returns_keeps state frame [] func is = is
  returns_keeps state frame (caller ∷ callers) func is =
      rises_keeps state state (with_register caller 0 (register frame 0)) callers (λ func is. is) func is

  says_keeps : (state : State) (frame : Frame) (callers : List Frame) (func : ℕ) (code : Code) → ((code_at state func).optimised ≡ true → code.optimised ≡ true)
      → Keeps state (says funcs state frame callers func code)
  says_keeps state frame callers func code keeps =
      rises_keeps state (record state { code = slice_set state.code func code }) frame callers (set_keeps state.code func code keeps)

  waits_keeps : (state : State) (frame : Frame) (callers : List Frame) (engine : VmState) (steps : ℕ) → Keeps state (waits funcs state frame callers engine steps)
  waits_keeps state frame callers engine steps = rises_keeps state (record state { state = engine; rest = steps }) frame callers (λ func is. is)

  -- an operation that gives nothing up
  does_keeps : (state : State) (frame : Frame) (callers : List Frame) (op : Op) → gives_up state op ≡ false → Keeps state (does funcs state frame callers op)
  does_keeps state frame callers (op.Set to number) none = sets_keeps state frame callers to number
  does_keeps state frame callers (op.Add to from) none = sets_keeps state frame callers to (register frame to + register frame from)
  does_keeps state frame callers (op.Sub to from) none = sets_keeps state frame callers to (register frame to + 2 ^ 64 - register frame from)
  does_keeps state frame callers (op.Mul to from) none = sets_keeps state frame callers to (register frame to * register frame from)
  does_keeps state frame callers (op.Lt to from) none = sets_keeps state frame callers to (if nat_lt (register frame to) (register frame from) then 1 else 0)
  does_keeps state frame callers (op.Jump index) none = λ func is. is
  does_keeps state frame callers (op.Jz tested index) none =
      cond_both (register frame tested == 0) (jumps state frame callers index) (rises funcs state state frame callers) (Keeps state)
      (λ is func before. before)
      (λ not. rises_keeps state state frame callers (λ func is. is))
  does_keeps state frame callers (op.Call func) none = calls_keeps state frame callers func.0
  does_keeps state frame callers op.Ret none = returns_keeps state frame callers
  does_keeps state frame callers (op.Print from) none =
      rises_keeps state (record state { printed = state.printed ++ decimal (register frame from) ++ codes "\n" }) frame callers (λ func is. is)
  does_keeps state frame callers op.Halt none = λ func is. is
  does_keeps state frame callers (op.Opt func) none =
      says_keeps state frame callers func.0 (optimised (inlined_size funcs 4 func.0) (code_at state func.0)) (optimised_keeps (inlined_size funcs 4 func.0) (code_at state func.0))
  does_keeps state frame callers (op.Deopt func reason) none =
      says_keeps state frame callers func.0 (deoptimised reason (code_at state func.0)) (λ is. absurd (both_ways (code_at state func.0).optimised none is))
  does_keeps state frame callers (op.NoOpt func reason) none = says_keeps state frame callers func.0 (disabled reason (code_at state func.0)) (λ is. is)
  does_keeps state frame callers (op.Drop func) none = rises_keeps state state frame callers (λ func is. is)
  does_keeps state frame callers op.Gc none = rises_keeps state state frame callers (λ func is. is)
  does_keeps state frame callers (op.Idle steps) none = waits_keeps state frame callers Idle steps
  does_keeps state frame callers (op.Native steps) none = waits_keeps state frame callers Native steps
  does_keeps state frame callers (op.Collect steps) none = waits_keeps state frame callers Gc steps

  -- optimised code that an operation gives up is taken away, unless the operation ends the machine
  does_takes : (state : State) (frame : Frame) (callers : List Frame) (op : Op) → gives_up state op ≡ true
      → is_some (does funcs state frame callers op).ended ≡ false → Takes state (does funcs state frame callers op)
  does_takes state frame callers (op.Deopt func reason) gives goes_on =
      let code = deoptimised reason (code_at state func.0) in (
        func.0,
        gives,
        cond_both (nat_lt (suc frame.index) (length (body_of funcs frame.func)))
            (record state { code = slice_set state.code func.0 code; stack = record frame { index = suc frame.index } ∷ callers })
            (ends end.OffEnd state) (λ after. is_some after.ended ≡ false → (code_at after func.0).optimised ≡ false)
            (λ below before. ap (λ (c : Code). c.optimised) (said-set state.code func.0 code gives) ∙ deoptimised_not reason (code_at state func.0))
            (λ past before. absurd (cc before))
            goes_on,
      )
  does_takes state frame callers other gives goes_on = absurd (cc gives)

  -- where the operation ends the machine, nothing is taken away
  last_keeps : (state : State) (frame : Frame) (callers : List Frame) (op : Op) → is_some state.ended ≡ false → gives_up state op ≡ true
      → is_some (does funcs state frame callers op).ended ≡ true → Keeps state (does funcs state frame callers op)
  last_keeps state frame callers (op.Deopt func reason) begins gives ended =
      cond_both (nat_lt (suc frame.index) (length (body_of funcs frame.func)))
      (record state { code = slice_set state.code func.0 (deoptimised reason (code_at state func.0)); stack = record frame { index = suc frame.index } ∷ callers })
      (ends end.OffEnd state) (λ after. is_some after.ended ≡ true → Keeps state after)
      (λ below after. absurd (both_ways (is_some state.ended) begins after))
      (λ past after other is. is)
      ended
  last_keeps state frame callers other begins gives ended = absurd (cc gives)

  -- the instruction, if there is one
  found_takes : (state : State) (frame : Frame) (callers : List Frame) (found : Option Instr)
      → option_map_or (λ instr. gives_up state instr.op) found false ≡ true
      → is_some (option_map_or (λ instr. does funcs state frame callers instr.op) found state).ended ≡ false
      → Takes state (option_map_or (λ instr. does funcs state frame callers instr.op) found state)
  found_takes state frame callers None gives goes_on = absurd (cc gives)
  found_takes state frame callers (Some instr) gives goes_on = does_takes state frame callers instr.op gives goes_on

  -- the same, where the machine ends
  found_last : (state : State) (frame : Frame) (callers : List Frame) (found : Option Instr) → is_some state.ended ≡ false
      → option_map_or (λ instr. gives_up state instr.op) found false ≡ true
      → is_some (option_map_or (λ instr. does funcs state frame callers instr.op) found state).ended ≡ true
      → Keeps state (option_map_or (λ instr. does funcs state frame callers instr.op) found state)
  found_last state frame callers None begins gives ended = absurd (cc gives)
  found_last state frame callers (Some instr) begins gives ended = last_keeps state frame callers instr.op begins gives ended

  -- the same, where nothing is given up
  found_keeps : (state : State) (frame : Frame) (callers : List Frame) (found : Option Instr)
      → option_map_or (λ instr. gives_up state instr.op) found false ≡ false
      → Keeps state (option_map_or (λ instr. does funcs state frame callers instr.op) found state)
  found_keeps state frame callers None none = λ func is. is
  found_keeps state frame callers (Some instr) none = does_keeps state frame callers instr.op none

  js_takes : (state : State) (stack : List Frame) → js_gives_up funcs state stack ≡ true → is_some (js_step funcs state stack).ended ≡ false
      → Takes state (js_step funcs state stack)
  js_takes state [] gives goes_on = absurd (cc gives)
  js_takes state (frame ∷ callers) gives goes_on = found_takes state frame callers (instr_of funcs frame) gives goes_on

  js_last : (state : State) (stack : List Frame) → is_some state.ended ≡ false → js_gives_up funcs state stack ≡ true
      → is_some (js_step funcs state stack).ended ≡ true → Keeps state (js_step funcs state stack)
  js_last state [] begins gives ended = absurd (cc gives)
  js_last state (frame ∷ callers) begins gives ended = found_last state frame callers (instr_of funcs frame) begins gives ended

  js_keeps : (state : State) (stack : List Frame) → js_gives_up funcs state stack ≡ false → Keeps state (js_step funcs state stack)
  js_keeps state [] none = λ func is. is
  js_keeps state (frame ∷ callers) none = found_keeps state frame callers (instr_of funcs frame) none

  wait_keeps : (state : State) → Keeps state (wait_step state)
  wait_keeps state =
      cond_both (nat_le state.rest 1) (record state { state = Js; rest = 0 }) (record state { rest = state.rest - 1 }) (Keeps state)
      (λ last func is. is)
      (λ more func is. is)

  -- a step of a machine that has not ended, in state Js
  step-js : (state : State) → is_some state.ended ≡ false → is_js state.state ≡ true → step funcs state ≡ js_step funcs state state.stack
  step-js state begins js =
      cond-false (is_some state.ended) state (if is_js state.state then js_step funcs state state.stack else wait_step state) begins
      ∙ cond-true (is_js state.state) (js_step funcs state state.stack) (wait_step state) js

  step_takes : (state : State) → is_some state.ended ≡ false → is_js state.state ≡ true → js_gives_up funcs state state.stack ≡ true
      → is_some (step funcs state).ended ≡ false → Takes state (step funcs state)
  step_takes state begins js gives goes_on =
      rw (step-js state begins js) (js_takes state state.stack gives (ap (λ (s : State). is_some s.ended) (sym (step-js state begins js)) ∙ goes_on))

  -- where one of the four tests of a deoptimisation fails, the step takes nothing away
  ended_keeps : (state : State) → is_some state.ended ≡ true → Keeps state (step funcs state)
  ended_keeps state ended =
      rw (cond-true (is_some state.ended) state (if is_js state.state then js_step funcs state state.stack else wait_step state) ended) (λ func is. is)

  waiting_keeps : (state : State) → is_js state.state ≡ false → Keeps state (step funcs state)
  waiting_keeps state other =
      cond_both (is_some state.ended) state (if is_js state.state then js_step funcs state state.stack else wait_step state) (Keeps state)
      (λ ended func is. is)
      (λ begins. cond_both (is_js state.state) (js_step funcs state state.stack) (wait_step state) (Keeps state)
      (λ js. absurd (both_ways (is_js state.state) other js))
      (λ not. wait_keeps state))

  unasked_keeps : (state : State) → js_gives_up funcs state state.stack ≡ false → Keeps state (step funcs state)
  unasked_keeps state none =
      cond_both (is_some state.ended) state (if is_js state.state then js_step funcs state state.stack else wait_step state) (Keeps state)
      (λ ended func is. is)
      (λ begins. cond_both (is_js state.state) (js_step funcs state state.stack) (wait_step state) (Keeps state)
      (λ js. js_keeps state state.stack none)
      (λ not. wait_keeps state))

  -- the last of the four tests: the step ends the machine
  last_step_keeps : (state : State) → is_some state.ended ≡ false → is_js state.state ≡ true → js_gives_up funcs state state.stack ≡ true
      → is_some (step funcs state).ended ≡ true → Keeps state (step funcs state)
  last_step_keeps state begins js gives ended =
      rw (step-js state begins js) (js_last state state.stack begins gives (ap (λ (s : State). is_some s.ended) (sym (step-js state begins js)) ∙ ended))

  -- whether a step from this state is a deoptimisation
  abbrev deopts_from : State → Bool
  deopts_from state = not (is_some state.ended) && is_js state.state && js_gives_up funcs state state.stack && not (is_some (step funcs state).ended)

  deopts-all : (state : State) → is_some state.ended ≡ false → is_js state.state ≡ true → js_gives_up funcs state state.stack ≡ true
      → is_some (step funcs state).ended ≡ false → deopts_from state ≡ true
  deopts-all state begins js gives goes_on =
      let js_here = and_from (not (is_some state.ended)) (is_js state.state) (not_from_false (is_some state.ended) begins) js in
      let given_here = and_from (not (is_some state.ended) && is_js state.state) (js_gives_up funcs state state.stack) js_here gives in
      and_from (not (is_some state.ended) && is_js state.state && js_gives_up funcs state state.stack) (not (is_some (step funcs state).ended))
      given_here (not_from_false (is_some (step funcs state).ended) goes_on)

  takes_from : (state : State) → deopts_from state ≡ true → Takes state (step funcs state)
  takes_from state all =
      let last = and_parts (not (is_some state.ended) && is_js state.state && js_gives_up funcs state state.stack) (not (is_some (step funcs state).ended)) all in
      let gives = and_parts (not (is_some state.ended) && is_js state.state) (js_gives_up funcs state state.stack) last.0 in
      let first = and_parts (not (is_some state.ended)) (is_js state.state) gives.0 in
      step_takes state (not-true (is_some state.ended) first.0) first.1 gives.1 (not-true (is_some (step funcs state).ended) last.1)

  keeps_from : (state : State) → deopts_from state ≡ false → Keeps state (step funcs state)
  keeps_from state fails =
      elim (cases_Bool (is_some state.ended)) [
        | inl over ↦ ended_keeps state over
        | inr begins ↦ elim (cases_Bool (is_js state.state)) [
          | inr other ↦ waiting_keeps state other
          | inl js ↦ elim (cases_Bool (js_gives_up funcs state state.stack)) [
            | inr none ↦ unasked_keeps state none
            | inl gives ↦ elim (cases_Bool (is_some (step funcs state).ended)) [
              | inl ended ↦ last_step_keeps state begins js gives ended
              | inr goes_on ↦ absurd (both_ways (deopts_from state) fails (deopts-all state begins js gives goes_on))
            ]
          ]
        ]
      ]

pub deopts_take_code_away : DeoptsTakeCodeAway
deopts_take_code_away funcs steps =
    let before = plain funcs steps in
    (λ deopts. takes_from funcs before deopts, λ takes. true_from_ne_false (deopts funcs steps) (λ none. keeps_not_takes before (step funcs before) (keeps_from funcs before none) takes))
