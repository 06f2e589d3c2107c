-- What operations print, and that operations which leave code plain change nothing that is said of code.
use Rattle.std.proofs.Common.{◌≡◌, ℕ, suc, ◌+◌, ◌*◌, ◌-◌, ◌^◌, List, [], ◌∷◌, ◌++◌, length, refl}
use Rattle.std.proofs.lemmas.Bool.{cond_both}
use Rattle.std.specs.Prelude.{nat_lt, ◌==◌, false, decimal, codes, if◌then◌else◌}
use Rattle.guest_program.specs.InlinedSize.{body_of}
use Rattle.guest_program.specs.declared.instr.Func.{Func}
use Rattle.guest_program.specs.declared.instr.Op.{Op}
use Rattle.guest_program.specs.declared.instr.Op.TheVariants as op
use Rattle.code_event.specs.declared.tick.VmState.{VmState}
use Rattle.code_event.specs.declared.tick.VmState.TheVariants.{Idle, Native, Gc}
use Rattle.plain_machine.specs.PlainMachine.{State, Frame, ends, rises, with_register, register, sets, jumps, returns, waits, does, gives_up}
use Rattle.plain_machine.specs.declared.ended.Ended.TheVariants as end

-- nothing was printed, and what is said of the functions' code is the same
pub record IsQuiet (before after : State) : Type 0 where
  pub code : after.code ≡ before.code
  pub printed : after.printed ≡ before.printed

-- an operation that neither optimises a function, nor gives optimised code up, nor disables optimising
abbrev pub LeavesCodePlain : Op → Type 0
LeavesCodePlain (op.Opt func) = ⊥
LeavesCodePlain (op.Deopt func reason) = ⊥
LeavesCodePlain (op.NoOpt func reason) = ⊥
LeavesCodePlain other = Unit {0}

-- an operation that does not print
abbrev pub IsSilent : Op → Type 0
IsSilent (op.Print from) = ⊥
IsSilent other = Unit {0}

-- each end of a rise is quiet where what it begins with is
rises_quiet : (funcs : List Func) (before state : State) (frame : Frame) (callers : List Frame) → IsQuiet before state → IsQuiet before (rises funcs before state frame callers)
rises_quiet funcs before state frame callers quiet =
    cond_both (nat_lt (suc frame.index) (length (body_of funcs frame.func))) (record state { stack = record frame { index = suc frame.index } ∷ callers })
    (ends end.OffEnd before) (IsQuiet before)
    (λ below. record { code = quiet.code; printed = quiet.printed })
    (λ past. record { code = refl; printed = refl })

same : (state : State) → IsQuiet state state
same state = record { code = refl; printed = refl }

returns_quiet : (funcs : List Func) (state : State) (frame : Frame) (callers : List Frame) → IsQuiet state (returns funcs state frame callers)
returns_quiet funcs state frame [] = record { code = refl; printed = refl }
returns_quiet funcs state frame (caller ∷ callers) = rises_quiet funcs state state (with_register caller 0 (register frame 0)) callers (same state)

sets_quiet : (funcs : List Func) (state : State) (frame : Frame) (callers : List Frame) (to number : ℕ) → IsQuiet state (sets funcs state frame callers to number)
sets_quiet funcs state frame callers to number = rises_quiet funcs state state (with_register frame to number) callers (same state)

waits_quiet : (funcs : List Func) (state : State) (frame : Frame) (callers : List Frame) (engine : VmState) (steps : ℕ) → IsQuiet state (waits funcs state frame callers engine steps)
waits_quiet funcs state frame callers engine steps =
    rises_quiet funcs state (record state { state = engine; rest = steps }) frame callers (record { code = refl; printed = refl })

-- An operation that leaves code plain and does not print is quiet.
pub does_quiet : (funcs : List Func) (state : State) (frame : Frame) (callers : List Frame) (op : Op) → LeavesCodePlain op → IsSilent op → IsQuiet state (does funcs state frame callers op)
does_quiet funcs state frame callers (op.Set to number) plain silent = sets_quiet funcs state frame callers to number
does_quiet funcs state frame callers (op.Add to from) plain silent = sets_quiet funcs state frame callers to (register frame to + register frame from)
does_quiet funcs state frame callers (op.Sub to from) plain silent = sets_quiet funcs state frame callers to (register frame to + 2 ^ 64 - register frame from)
does_quiet funcs state frame callers (op.Mul to from) plain silent = sets_quiet funcs state frame callers to (register frame to * register frame from)
does_quiet funcs state frame callers (op.Lt to from) plain silent = sets_quiet funcs state frame callers to (if nat_lt (register frame to) (register frame from) then 1 else 0)
does_quiet funcs state frame callers (op.Jump index) plain silent = record { code = refl; printed = refl }
does_quiet funcs state frame callers (op.Jz tested index) plain silent =
    cond_both (register frame tested == 0) (jumps state frame callers index) (rises funcs state state frame callers) (IsQuiet state)
    (λ is. record { code = refl; printed = refl })
    (λ not. rises_quiet funcs state state frame callers (same state))
does_quiet funcs state frame callers (op.Call func) plain silent =
    cond_both (nat_lt (length callers) 254) (record state { stack = record { func = func.0; index = 0; registers = frame.registers } ∷ frame ∷ callers })
    (ends end.Overflow state) (IsQuiet state)
    (λ below. record { code = refl; printed = refl })
    (λ full. record { code = refl; printed = refl })
does_quiet funcs state frame callers op.Ret plain silent = returns_quiet funcs state frame callers
does_quiet funcs state frame callers (op.Print from) plain silent = absurd silent
does_quiet funcs state frame callers op.Halt plain silent = record { code = refl; printed = refl }
does_quiet funcs state frame callers (op.Opt func) plain silent = absurd plain
does_quiet funcs state frame callers (op.Deopt func reason) plain silent = absurd plain
does_quiet funcs state frame callers (op.NoOpt func reason) plain silent = absurd plain
does_quiet funcs state frame callers (op.Drop func) plain silent = rises_quiet funcs state state frame callers (same state)
does_quiet funcs state frame callers op.Gc plain silent = rises_quiet funcs state state frame callers (same state)
does_quiet funcs state frame callers (op.Idle steps) plain silent = waits_quiet funcs state frame callers Idle steps
does_quiet funcs state frame callers (op.Native steps) plain silent = waits_quiet funcs state frame callers Native steps
does_quiet funcs state frame callers (op.Collect steps) plain silent = waits_quiet funcs state frame callers Gc steps

-- A print leaves what is said of code as it was.
pub prints_code : (funcs : List Func) (state : State) (frame : Frame) (callers : List Frame) (from : ℕ) → (does funcs state frame callers (op.Print from)).code ≡ state.code
prints_code funcs state frame callers from =
    cond_both (nat_lt (suc frame.index) (length (body_of funcs frame.func)))
    (record state { stack = record frame { index = suc frame.index } ∷ callers; printed = state.printed ++ decimal (register frame from) ++ codes "\n" })
    (ends end.OffEnd state) (λ (after : State). after.code ≡ state.code)
    (λ below. refl)
    (λ past. refl)

-- so does every operation that leaves code plain
pub does_code : (funcs : List Func) (state : State) (frame : Frame) (callers : List Frame) (op : Op) → LeavesCodePlain op → (does funcs state frame callers op).code ≡ state.code
does_code funcs state frame callers (op.Set to number) plain = (does_quiet funcs state frame callers (op.Set to number) tt tt).code
does_code funcs state frame callers (op.Add to from) plain = (does_quiet funcs state frame callers (op.Add to from) tt tt).code
does_code funcs state frame callers (op.Sub to from) plain = (does_quiet funcs state frame callers (op.Sub to from) tt tt).code
does_code funcs state frame callers (op.Mul to from) plain = (does_quiet funcs state frame callers (op.Mul to from) tt tt).code
does_code funcs state frame callers (op.Lt to from) plain = (does_quiet funcs state frame callers (op.Lt to from) tt tt).code
does_code funcs state frame callers (op.Jump index) plain = refl
does_code funcs state frame callers (op.Jz tested index) plain = (does_quiet funcs state frame callers (op.Jz tested index) tt tt).code
does_code funcs state frame callers (op.Call func) plain = (does_quiet funcs state frame callers (op.Call func) tt tt).code
does_code funcs state frame callers op.Ret plain = (does_quiet funcs state frame callers op.Ret tt tt).code
does_code funcs state frame callers (op.Print from) plain = prints_code funcs state frame callers from
does_code funcs state frame callers op.Halt plain = refl
does_code funcs state frame callers (op.Opt func) plain = absurd plain
does_code funcs state frame callers (op.Deopt func reason) plain = absurd plain
does_code funcs state frame callers (op.NoOpt func reason) plain = absurd plain
does_code funcs state frame callers (op.Drop func) plain = (does_quiet funcs state frame callers (op.Drop func) tt tt).code
does_code funcs state frame callers op.Gc plain = (does_quiet funcs state frame callers op.Gc tt tt).code
does_code funcs state frame callers (op.Idle steps) plain = (does_quiet funcs state frame callers (op.Idle steps) tt tt).code
does_code funcs state frame callers (op.Native steps) plain = (does_quiet funcs state frame callers (op.Native steps) tt tt).code
does_code funcs state frame callers (op.Collect steps) plain = (does_quiet funcs state frame callers (op.Collect steps) tt tt).code

-- and none gives optimised code up
pub gives_none_up : (state : State) (op : Op) → LeavesCodePlain op → gives_up state op ≡ false
gives_none_up state (op.Opt func) plain = absurd plain
gives_none_up state (op.Deopt func reason) plain = absurd plain
gives_none_up state (op.NoOpt func reason) plain = absurd plain
gives_none_up state (op.Set to number) plain = refl
gives_none_up state (op.Add to from) plain = refl
gives_none_up state (op.Sub to from) plain = refl
gives_none_up state (op.Mul to from) plain = refl
gives_none_up state (op.Lt to from) plain = refl
gives_none_up state (op.Jump index) plain = refl
gives_none_up state (op.Jz tested index) plain = refl
gives_none_up state (op.Call func) plain = refl
gives_none_up state op.Ret plain = refl
gives_none_up state (op.Print from) plain = refl
gives_none_up state op.Halt plain = refl
gives_none_up state (op.Drop func) plain = refl
gives_none_up state op.Gc plain = refl
gives_none_up state (op.Idle steps) plain = refl
gives_none_up state (op.Native steps) plain = refl
gives_none_up state (op.Collect steps) plain = refl
