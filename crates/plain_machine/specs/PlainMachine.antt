-- The meaning of guest programs: over functions, indices and numbers alone, with no code and no addresses.
use Rattle.std.specs.Prelude.{bytes_eq, ℕ, zero, suc, ◌+◌, ◌-◌, ◌*◌, ◌%◌, ◌^◌, List, [], ◌∷◌, ◌++◌, length, map, reverse, Bool, true, false, not, ◌&&◌, ◌||◌, ◌==◌, nat_lt, nat_le, Option, Some, None, is_some, codes, decimal, slice_index, slice_set, if◌then◌else◌}
use Rattle.std.specs.Option.{option_map_or}
use Rattle.std.specs.List.{slice_get}
use Rattle.guest_program.specs.InlinedSize.{body_of, inlined_size}
use Rattle.guest_program.specs.declared.instr.Op.{Op}
use Rattle.guest_program.specs.declared.instr.Op.TheVariants as op
use Rattle.guest_program.specs.declared.instr.Instr.{Instr}
use Rattle.guest_program.specs.declared.instr.Func.{Func}
use Rattle.code_event.specs.declared.tick.VmState.{VmState}
use Rattle.code_event.specs.declared.tick.VmState.TheVariants.{Js, Idle, Native, Gc}
use Rattle.plain_machine.specs.declared.ended.Ended.{Ended}
use Rattle.plain_machine.specs.declared.ended.Ended.TheVariants as end

-- a call that is under way: a function, the index of its instruction, and its eight registers
pub record Frame : Type 0 where
  pub func : ℕ
  pub index : ℕ
  pub registers : List ℕ

-- the code of a function: whether there is optimised code, whether optimising is disabled, and the reason that was given last
pub record Code : Type 0 where
  pub optimised : Bool
  pub disabled : Bool
  pub reason : Option (List ℕ)

-- The machine: its frames, the youngest first; the state of its engine, and for how many more steps if that is not Js; the text that it has printed; the code of each function; and its end.
pub record State : Type 0 where
  pub stack : List Frame
  pub state : VmState
  pub rest : ℕ
  pub printed : List ℕ
  pub code : List Code
  pub ended : Option Ended

-- the frames, the oldest first
abbrev pub frames : State → List Frame
frames state = reverse state.stack

-- a function with no optimised code, not disabled and with no reason
abbrev pub plain_code : Func → Code
plain_code func = record { optimised = false; disabled = false; reason = None }

-- eight zeros
abbrev pub zeros : List ℕ
zeros = 0 ∷ 0 ∷ 0 ∷ 0 ∷ 0 ∷ 0 ∷ 0 ∷ 0 ∷ []

-- the number of the function labelled `main`, from this one on
abbrev pub main_from : ℕ → List Func → ℕ
main_from number [] = number
main_from number (func ∷ funcs) = if bytes_eq func.label (codes "main") then number else main_from (suc number) funcs

abbrev pub main_of : List Func → ℕ
main_of funcs = main_from 0 funcs

-- before the first step
abbrev pub start : List Func → State
start funcs =
    record {
      stack = record { func = main_of funcs; index = 0; registers = zeros } ∷ [];
      state = Js;
      rest = 0;
      printed = [];
      code = map plain_code funcs;
      ended = None;
    }

-- the machine has ended in this way
abbrev pub ends : Ended → State → State
ends ended state = record state { ended = Some ended }

-- the frame's index rises by 1 in the machine that the step has made; if it would leave the body, the machine before the step has ended
abbrev pub rises : List Func → State → State → Frame → List Frame → State
rises funcs before state frame callers =
    if nat_lt (suc frame.index) (length (body_of funcs frame.func))
    then record state { stack = record frame { index = suc frame.index } ∷ callers }
    else ends end.OffEnd before

-- the register has this number
abbrev pub with_register : Frame → ℕ → ℕ → Frame
with_register frame register number = record frame { registers = slice_set frame.registers register (number % 2 ^ 64) }

abbrev pub register : Frame → ℕ → ℕ
register frame number = slice_index frame.registers number

-- the register gets this number, and the index rises
abbrev pub sets : List Func → State → Frame → List Frame → ℕ → ℕ → State
sets funcs state frame callers to number = rises funcs state state (with_register frame to number) callers

-- the frame goes on at this index
abbrev pub jumps : State → Frame → List Frame → ℕ → State
jumps state frame callers index = record state { stack = record frame { index = index } ∷ callers }

-- a frame of the function is put on top; after 255 frames there is no room
abbrev pub calls : State → Frame → List Frame → ℕ → State
calls state frame callers func =
    if nat_lt (length callers) 254
    then record state { stack = record { func = func; index = 0; registers = frame.registers } ∷ frame ∷ callers }
    else ends end.Overflow state

-- the caller gets r0 and goes on; if there is no caller, the program ends
abbrev pub returns : List Func → State → Frame → List Frame → State
returns funcs state frame [] = ends end.Halt state
returns funcs state frame (caller ∷ callers) = rises funcs state state (with_register caller 0 (register frame 0)) callers

-- the engine is in this state for this many steps, and the index has risen
abbrev pub waits : List Func → State → Frame → List Frame → VmState → ℕ → State
waits funcs state frame callers engine steps = rises funcs state (record state { state = engine; rest = steps }) frame callers

-- the code of a function
abbrev pub code_at : State → ℕ → Code
code_at state func = option_map_or (λ code. code) (slice_get state.code func) (record { optimised = false; disabled = false; reason = None })

-- this is the code of a function from now on, and the index rises
abbrev pub says : List Func → State → Frame → List Frame → ℕ → Code → State
says funcs state frame callers func code = rises funcs state (record state { code = slice_set state.code func code }) frame callers

-- the code of a function after `opt`: what is optimised or disabled stays the same; what is too large is disabled
abbrev pub optimised : ℕ → Code → Code
optimised size code =
    if code.optimised || code.disabled then code
    else if nat_lt 4096 size then record { optimised = false; disabled = true; reason = Some (codes "too large") }
    else record code { optimised = true }

-- the code of a function after `deopt`: what is optimised no longer is, for the reason given
abbrev pub deoptimised : List ℕ → Code → Code
deoptimised reason code = if code.optimised then record { optimised = false; disabled = code.disabled; reason = Some reason } else code

-- the code of a function after `noopt`
abbrev pub disabled : List ℕ → Code → Code
disabled reason code = record { optimised = code.optimised; disabled = true; reason = Some reason }

-- a step in state Js: the youngest frame's operation
abbrev pub does : List Func → State → Frame → List Frame → Op → State
does funcs state frame callers (op.Set to number) = sets funcs state frame callers to number
does funcs state frame callers (op.Add to from) = sets funcs state frame callers to (register frame to + register frame from)
does funcs state frame callers (op.Sub to from) = sets funcs state frame callers to (register frame to + 2 ^ 64 - register frame from)
does funcs state frame callers (op.Mul to from) = sets funcs state frame callers to (register frame to * register frame from)
does funcs state frame callers (op.Lt to from) = sets funcs state frame callers to (if nat_lt (register frame to) (register frame from) then 1 else 0)
does funcs state frame callers (op.Jump index) = jumps state frame callers index
does funcs state frame callers (op.Jz tested index) = if register frame tested == 0 then jumps state frame callers index else rises funcs state state frame callers
does funcs state frame callers (op.Call func) = calls state frame callers func.0
does funcs state frame callers op.Ret = returns funcs state frame callers
does funcs state frame callers (op.Print from) = rises funcs state (record state { printed = state.printed ++ decimal (register frame from) ++ codes "\n" }) frame callers
does funcs state frame callers op.Halt = ends end.Halt state
does funcs state frame callers (op.Opt func) = says funcs state frame callers func.0 (optimised (inlined_size funcs 4 func.0) (code_at state func.0))
does funcs state frame callers (op.Deopt func reason) = says funcs state frame callers func.0 (deoptimised reason (code_at state func.0))
does funcs state frame callers (op.NoOpt func reason) = says funcs state frame callers func.0 (disabled reason (code_at state func.0))
does funcs state frame callers (op.Drop func) = rises funcs state state frame callers
does funcs state frame callers op.Gc = rises funcs state state frame callers
does funcs state frame callers (op.Idle steps) = waits funcs state frame callers Idle steps
does funcs state frame callers (op.Native steps) = waits funcs state frame callers Native steps
does funcs state frame callers (op.Collect steps) = waits funcs state frame callers Gc steps

-- the instruction of a frame, if its index is in the body
abbrev pub instr_of : List Func → Frame → Option Instr
instr_of funcs frame = slice_get (body_of funcs frame.func) frame.index

-- a step in state Js
abbrev pub js_step : List Func → State → List Frame → State
js_step funcs state [] = state
js_step funcs state (frame ∷ callers) = option_map_or (λ instr. does funcs state frame callers instr.op) (instr_of funcs frame) state

-- a step in another state: one step less is left, and at 0 the state is Js
abbrev pub wait_step : State → State
wait_step state = if nat_le state.rest 1 then record state { state = Js; rest = 0 } else record state { rest = state.rest - 1 }

abbrev pub is_js : VmState → Bool
is_js Js = true
is_js Idle = false
is_js Native = false
is_js Gc = false

-- a step; after the end it changes nothing
abbrev pub step : List Func → State → State
step funcs state =
    if is_some state.ended then state
    else if is_js state.state then js_step funcs state state.stack
    else wait_step state

-- the machine after this many steps
abbrev pub plain : List Func → ℕ → State
plain funcs zero = start funcs
plain funcs (suc steps) = step funcs (plain funcs steps)

-- whether an operation gives up optimised code
abbrev pub gives_up : State → Op → Bool
gives_up state (op.Deopt func reason) = (code_at state func.0).optimised
gives_up state other = false

abbrev pub js_gives_up : List Func → State → List Frame → Bool
js_gives_up funcs state [] = false
js_gives_up funcs state (frame ∷ callers) = option_map_or (λ instr. gives_up state instr.op) (instr_of funcs frame) false

-- whether the step after this many steps makes a deoptimisation: it gives optimised code up, and does not leave the body
abbrev pub deopts : List Func → ℕ → Bool
deopts funcs steps =
    let before = plain funcs steps in
    not (is_some before.ended) && is_js before.state && js_gives_up funcs before before.stack && not (is_some (step funcs before).ended)
