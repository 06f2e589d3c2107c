-- What each step keeps of the stack and of the functions' code, derived from what single frames keep.
use Rattle.std.proofs.Common.{◌≡◌, ℕ, zero, suc, ◌+◌, ◌-◌, ◌*◌, ◌^◌, ◌<◌, ◌≤◌, List, [], ◌∷◌, ◌++◌, length, refl, ◌∙◌, arith}
use Rattle.std.proofs.lemmas.Bool.{cond_both, ltb-true}
use Rattle.std.proofs.lemmas.List.{length-set, length-map}
use Rattle.std.specs.Prelude.{Option, Some, None, nat_lt, nat_le, ◌==◌, is_some, slice_set, decimal, codes, if◌then◌else◌}
use Rattle.std.specs.List.{AllByRecursion}
use Rattle.std.specs.Option.{option_map_or}
use Rattle.guest_program.specs.InlinedSize.{body_of, inlined_size}
use Rattle.guest_program.specs.declared.instr.Func.{Func}
use Rattle.guest_program.specs.declared.instr.Instr.{Instr}
use Rattle.guest_program.specs.declared.instr.Op.{Op}
use Rattle.guest_program.specs.declared.instr.Op.TheVariants as op
use Rattle.code_event.specs.declared.tick.VmState.{VmState}
use Rattle.code_event.specs.declared.tick.VmState.TheVariants.{Js, Idle, Native, Gc}
use Rattle.plain_machine.specs.PlainMachine.{State, Frame, Code, plain_code, zeros, main_of, start, ends, rises, with_register, register, sets, jumps, calls, returns, waits, code_at, says, optimised, deoptimised, disabled, does, instr_of, js_step, wait_step, is_js, step, plain}
use Rattle.plain_machine.specs.declared.ended.Ended.TheVariants as end

-- where an operation may go, and what it may call
abbrev pub OpFits : (ℕ → Type 0) → (ℕ → Type 0) → Op → Type 0
OpFits Place Callee (op.Jump index) = Place index
OpFits Place Callee (op.Jz tested index) = Place index
OpFits Place Callee (op.Call func) = Callee func.0
OpFits Place Callee other = Unit {0}

-- what has to be shown of a claim on frames for each frame to keep it
pub record Moves (funcs : List Func) (P : Frame → Type 0) (Place : Frame → ℕ → Type 0) (Callee : ℕ → Type 0) : Type 0 where
  pub begins : P (record { func = main_of funcs; index = 0; registers = zeros })
  pub rising : (frame : Frame) → P frame → suc frame.index < length (body_of funcs frame.func) → P (record frame { index = suc frame.index })
  pub setting : (frame : Frame) (to number : ℕ) → P frame → P (with_register frame to number)
  pub jumping : (frame : Frame) (index : ℕ) → P frame → Place frame index → P (record frame { index = index })
  pub calling : (frame : Frame) (func : ℕ) → P frame → Callee func → P (record { func = func; index = 0; registers = frame.registers })
  pub fitting : (frame : Frame) (instr : Instr) → P frame → instr_of funcs frame ≡ Some instr → OpFits (Place frame) Callee instr.op

-- a stack that has a frame and has room, and the claim for each frame
pub record StackKept (P : Frame → Type 0) (stack : List Frame) : Type 0 where
  pub some : 1 ≤ length stack
  pub room : length stack ≤ 255
  pub each : AllByRecursion P stack

pub record Kept (funcs : List Func) (P : Frame → Type 0) (state : State) : Type 0 where
  pub stack : StackKept P state.stack
  pub code : length state.code ≡ length funcs

stack_of : (P : Frame → Type 0) (frame : Frame) (callers : List Frame) → P frame → AllByRecursion P callers → length callers < 255 → StackKept P (frame ∷ callers)
stack_of P frame callers top each room = record { some = omega arith; room = room; each = (top, each) }

module _ (funcs : List Func) (P : Frame → Type 0) (Place : Frame → ℕ → Type 0) (Callee : ℕ → Type 0) (moves : Moves funcs P Place Callee) where
  rises_keeps : (before state : State) (frame : Frame) (callers : List Frame) → Kept funcs P before → length state.code ≡ length funcs
      → P frame → AllByRecursion P callers → length callers < 255 → Kept funcs P (rises funcs before state frame callers)
  rises_keeps before state frame callers kept code top each room =
      cond_both (nat_lt (suc frame.index) (length (body_of funcs frame.func))) (record state { stack = record frame { index = suc frame.index } ∷ callers })
      (ends end.OffEnd before) (Kept funcs P)
      (λ below. record { stack = stack_of P (record frame { index = suc frame.index }) callers (moves.rising frame top (ltb-true (suc frame.index) (length (body_of funcs frame.func)) below)) each room; code = code })
      (λ past. record { stack = kept.stack; code = kept.code })

  sets_keeps : (state : State) (frame : Frame) (callers : List Frame) (to number : ℕ) → Kept funcs P state
      → P frame → AllByRecursion P callers → length callers < 255 → Kept funcs P (sets funcs state frame callers to number)
  sets_keeps state frame callers to number kept top each room =
      rises_keeps state state (with_register frame to number) callers kept kept.code (moves.setting frame to number top) each room

  jumps_keeps : (state : State) (frame : Frame) (callers : List Frame) (index : ℕ) → Kept funcs P state
      → P frame → AllByRecursion P callers → length callers < 255 → Place frame index → Kept funcs P (jumps state frame callers index)
  jumps_keeps state frame callers index kept top each room fits =
      record { stack = stack_of P (record frame { index = index }) callers (moves.jumping frame index top fits) each room; code = kept.code }

  calls_keeps : (state : State) (frame : Frame) (callers : List Frame) (func : ℕ) → Kept funcs P state
      → P frame → AllByRecursion P callers → Callee func → Kept funcs P (calls state frame callers func)
  calls_keeps state frame callers func kept top each fits =
      cond_both (nat_lt (length callers) 254) (record state { stack = record { func = func; index = 0; registers = frame.registers } ∷ frame ∷ callers })
      (ends end.Overflow state) (Kept funcs P)
      (λ below. let room : length callers < 254 = ltb-true (length callers) 254 below in record {
        stack = stack_of P (record { func = func; index = 0; registers = frame.registers }) (frame ∷ callers) (moves.calling frame func top fits) (top, each) (omega arith);
        code = kept.code;
      })
      (λ full. record { stack = kept.stack; code = kept.code })

  returns_keeps : (state : State) (frame : Frame) (callers : List Frame) → Kept funcs P state
      → AllByRecursion P callers → length callers < 255 → Kept funcs P (returns funcs state frame callers)
  returns_keeps state frame [] kept each room = record { stack = kept.stack; code = kept.code }
  returns_keeps state frame (caller ∷ callers) kept each room =
      rises_keeps state state (with_register caller 0 (register frame 0)) callers kept kept.code (moves.setting caller 0 (register frame 0) each.0) each.1 (omega arith)

  says_keeps : (state : State) (frame : Frame) (callers : List Frame) (func : ℕ) (code : Code) → Kept funcs P state
      → P frame → AllByRecursion P callers → length callers < 255 → Kept funcs P (says funcs state frame callers func code)
  says_keeps state frame callers func code kept top each room =
      rises_keeps state (record state { code = slice_set state.code func code }) frame callers kept (length-set state.code func code ∙ kept.code) top each room

  waits_keeps : (state : State) (frame : Frame) (callers : List Frame) (engine : VmState) (steps : ℕ) → Kept funcs P state
      → P frame → AllByRecursion P callers → length callers < 255 → Kept funcs P (waits funcs state frame callers engine steps)
  waits_keeps state frame callers engine steps kept top each room =
      rises_keeps state (record state { state = engine; rest = steps }) frame callers kept kept.code top each room

  does_keeps : (state : State) (frame : Frame) (callers : List Frame) (op : Op) → Kept funcs P state
      → P frame → AllByRecursion P callers → length callers < 255 → OpFits (Place frame) Callee op → Kept funcs P (does funcs state frame callers op)
  does_keeps state frame callers (op.Set to number) kept top each room fits = sets_keeps state frame callers to number kept top each room
  does_keeps state frame callers (op.Add to from) kept top each room fits = sets_keeps state frame callers to (register frame to + register frame from) kept top each room
  does_keeps state frame callers (op.Sub to from) kept top each room fits = sets_keeps state frame callers to (register frame to + 2 ^ 64 - register frame from) kept top each room
  does_keeps state frame callers (op.Mul to from) kept top each room fits = sets_keeps state frame callers to (register frame to * register frame from) kept top each room
  does_keeps state frame callers (op.Lt to from) kept top each room fits =
      sets_keeps state frame callers to (if nat_lt (register frame to) (register frame from) then 1 else 0) kept top each room
  does_keeps state frame callers (op.Jump index) kept top each room fits = jumps_keeps state frame callers index kept top each room fits
  does_keeps state frame callers (op.Jz tested index) kept top each room fits =
      cond_both (register frame tested == 0) (jumps state frame callers index) (rises funcs state state frame callers) (Kept funcs P)
      (λ is. jumps_keeps state frame callers index kept top each room fits)
      (λ not. rises_keeps state state frame callers kept kept.code top each room)
  does_keeps state frame callers (op.Call func) kept top each room fits = calls_keeps state frame callers func.0 kept top each fits
  does_keeps state frame callers op.Ret kept top each room fits = returns_keeps state frame callers kept each room
  does_keeps state frame callers (op.Print from) kept top each room fits =
      rises_keeps state (record state { printed = state.printed ++ decimal (register frame from) ++ codes "\n" }) frame callers kept kept.code top each room
  does_keeps state frame callers op.Halt kept top each room fits = record { stack = kept.stack; code = kept.code }
  does_keeps state frame callers (op.Opt func) kept top each room fits =
      says_keeps state frame callers func.0 (optimised (inlined_size funcs 4 func.0) (code_at state func.0)) kept top each room
  does_keeps state frame callers (op.Deopt func reason) kept top each room fits =
      says_keeps state frame callers func.0 (deoptimised reason (code_at state func.0)) kept top each room
  does_keeps state frame callers (op.NoOpt func reason) kept top each room fits =
      says_keeps state frame callers func.0 (disabled reason (code_at state func.0)) kept top each room
  does_keeps state frame callers (op.Drop func) kept top each room fits = rises_keeps state state frame callers kept kept.code top each room
  does_keeps state frame callers op.Gc kept top each room fits = rises_keeps state state frame callers kept kept.code top each room
  does_keeps state frame callers (op.Idle steps) kept top each room fits = waits_keeps state frame callers Idle steps kept top each room
  does_keeps state frame callers (op.Native steps) kept top each room fits = waits_keeps state frame callers Native steps kept top each room
  does_keeps state frame callers (op.Collect steps) kept top each room fits = waits_keeps state frame callers Gc steps kept top each room

  -- the instruction, if there is one
  found_keeps : (state : State) (frame : Frame) (callers : List Frame) (found : Option Instr) → instr_of funcs frame ≡ found → Kept funcs P state
      → P frame → AllByRecursion P callers → length callers < 255 → Kept funcs P (option_map_or (λ instr. does funcs state frame callers instr.op) found state)
  found_keeps state frame callers None is kept top each room = kept
  found_keeps state frame callers (Some instr) is kept top each room = does_keeps state frame callers instr.op kept top each room (moves.fitting frame instr top is)

  js_keeps : (state : State) (stack : List Frame) → Kept funcs P state → StackKept P stack → Kept funcs P (js_step funcs state stack)
  js_keeps state [] kept stack = kept
  js_keeps state (frame ∷ callers) kept stack = found_keeps state frame callers (instr_of funcs frame) refl kept stack.each.0 stack.each.1 stack.room

  wait_keeps : (state : State) → Kept funcs P state → Kept funcs P (wait_step state)
  wait_keeps state kept =
      cond_both (nat_le state.rest 1) (record state { state = Js; rest = 0 }) (record state { rest = state.rest - 1 }) (Kept funcs P)
      (λ last. record { stack = kept.stack; code = kept.code })
      (λ more. record { stack = kept.stack; code = kept.code })

  step_keeps : (state : State) → Kept funcs P state → Kept funcs P (step funcs state)
  step_keeps state kept =
      cond_both (is_some state.ended) state (if is_js state.state then js_step funcs state state.stack else wait_step state) (Kept funcs P)
      (λ ended. kept)
      (λ goes_on. cond_both (is_js state.state) (js_step funcs state state.stack) (wait_step state) (Kept funcs P)
      (λ js. js_keeps state state.stack kept kept.stack)
      (λ other. wait_keeps state kept))

  start_keeps : Kept funcs P (start funcs)
  start_keeps = record {
    stack = stack_of P (record { func = main_of funcs; index = 0; registers = zeros }) [] moves.begins tt (omega arith);
    code = length-map funcs plain_code;
  }

  pub plain_keeps : (steps : ℕ) → Kept funcs P (plain funcs steps)
  plain_keeps zero = start_keeps
  plain_keeps (suc steps) = step_keeps (plain funcs steps) (plain_keeps steps)

-- where nothing is asked of places and callees, each operation fits
pub any_fits : (op : Op) → OpFits (λ index. Unit {0}) (λ func. Unit {0}) op
any_fits (op.Jump index) = tt
any_fits (op.Jz tested index) = tt
any_fits (op.Call func) = tt
any_fits other = tt
