-- Small programs that were run by hand.
use Rattle.std.specs.Prelude.{ℕ, List, [], ◌∷◌, Bool, true, false, map, codes}
use Rattle.prof_base.specs.declared.ids.FuncId.{FuncId}
use Rattle.guest_program.specs.declared.instr.Op.{Op}
use Rattle.guest_program.specs.declared.instr.Op.TheVariants as op
use Rattle.guest_program.specs.declared.instr.Func.{Func}
use Rattle.plain_machine.specs.PlainMachine.{State, Frame, frames}

-- a function with these operations, all in line 1
abbrev pub function : List ℕ → Bool → List Op → Func
function label inline ops =
    record {
      label = label;
      name = label;
      url = codes "a.js";
      script = 1;
      line = 1;
      column = 1;
      inline = inline;
      body = map (λ op. record { line = 1; op = op }) ops;
    }

abbrev pub main_alone : List Op → List Func
main_alone ops = function (codes "main") false ops ∷ []

-- `main` calls the function `f`
abbrev pub main_and : List Op → Bool → List Op → List Func
main_and ops inline others = function (codes "main") false ops ∷ function (codes "f") inline others ∷ []

-- where the machine is: each frame's function and index, oldest first
abbrev pub places : State → List (ℕ × ℕ)
places state = map (λ frame. (frame.func, frame.index)) (frames state)

abbrev pub top_registers : List Frame → List ℕ
top_registers [] = []
top_registers (frame ∷ callers) = frame.registers

-- the registers of the youngest frame
abbrev pub registers_of : State → List ℕ
registers_of state = top_registers state.stack

-- a function by its number
abbrev pub func : ℕ → FuncId
func number = record { 0 = number }

-- two steps in native code and one idle
abbrev pub waiting : List Func
waiting = main_alone (op.Native 2 ∷ op.Idle 1 ∷ op.Halt ∷ [])

-- r0 is 5 once the function returns, and r1 stays as it was
abbrev pub calling : List Func
calling = main_and (op.Set 1 7 ∷ op.Call (func 1) ∷ op.Print 0 ∷ op.Halt ∷ []) false (op.Set 0 5 ∷ op.Set 1 1 ∷ op.Ret ∷ [])

-- it calls itself forever
abbrev pub deep : List Func
deep = main_alone (op.Call (func 0) ∷ [])

-- its body does not end in a halt
abbrev pub running_off : List Func
running_off = main_alone (op.Set 0 1 ∷ [])

-- an inline function that calls itself eight times
abbrev pub growing : List Func
growing =
    main_and (op.Opt (func 1) ∷ op.Halt ∷ []) true (
    op.Call (func 1) ∷ op.Call (func 1) ∷ op.Call (func 1) ∷ op.Call (func 1)
    ∷ op.Call (func 1) ∷ op.Call (func 1) ∷ op.Call (func 1) ∷ op.Call (func 1) ∷ []
    )

-- a function is optimised, its optimised code is given up, and then is to be given up again, when there is none
abbrev pub deoptimising : List Func
deoptimising = main_and (op.Opt (func 1) ∷ op.Deopt (func 1) (codes "x") ∷ op.Deopt (func 1) (codes "y") ∷ op.Halt ∷ []) false (op.Ret ∷ [])

-- the last instruction of the body would give up optimised code, but its index cannot rise
abbrev pub deoptimising_last : List Func
deoptimising_last = main_and (op.Opt (func 1) ∷ op.Deopt (func 1) (codes "x") ∷ []) false (op.Ret ∷ [])

-- a function is optimised, and then disabled
abbrev pub disabling : List Func
disabling = main_and (op.Opt (func 1) ∷ op.NoOpt (func 1) (codes "x") ∷ op.Halt ∷ []) false (op.Ret ∷ [])
