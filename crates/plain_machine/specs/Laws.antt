-- What holds of the plain machine for every program and every number of steps.
use Rattle.std.specs.Prelude.{◌≡◌, ◌↔◌, ℕ, suc, ◌+◌, ◌^◌, ◌<◌, ◌≤◌, List, length, true, false, Some, is_some, slice_set}
use Rattle.std.specs.List.{AllByRecursion}
use Rattle.guest_program.specs.InlinedSize.{body_of}
use Rattle.guest_program.specs.Program.{IsProgram}
use Rattle.guest_program.specs.declared.instr.Func.{Func}
use Rattle.code_event.specs.DeoptReasons.{with_reason}
use Rattle.code_event.specs.declared.entry.Entry.{Entry}
use Rattle.code_layout.specs.Layouts.{entry_at}
use Rattle.plain_machine.specs.PlainMachine.{Frame, Code, plain, deopts, code_at, instr_of}
use Rattle.plain_machine.specs.PlainFrames.{reason_in}

-- where the machine has ended after a number of steps, it is the same after any further steps
abbrev pub EndsAreFinal : Type 0
EndsAreFinal = (funcs : List Func) (steps more : ℕ) → is_some (plain funcs steps).ended ≡ true → plain funcs (steps + more) ≡ plain funcs steps

-- where the machine has ended, the next step makes no deoptimisation
abbrev pub NoneIsGivenUpAtTheEnd : Type 0
NoneIsGivenUpAtTheEnd = (funcs : List Func) (steps : ℕ) → is_some (plain funcs steps).ended ≡ true → deopts funcs steps ≡ false

-- there is always a frame
abbrev pub StacksAreNotEmpty : Type 0
StacksAreNotEmpty = (funcs : List Func) (steps : ℕ) → 1 ≤ length (plain funcs steps).stack

-- there are never more than 255 frames
abbrev pub StacksAreSmall : Type 0
StacksAreSmall = (funcs : List Func) (steps : ℕ) → length (plain funcs steps).stack ≤ 255

-- the machine always has the code of each function, and of nothing else
abbrev pub CodeIsOfFunctions : Type 0
CodeIsOfFunctions = (funcs : List Func) (steps : ℕ) → length (plain funcs steps).code ≡ length funcs

-- a frame of a function that exists, at one of its instructions
pub record IsInBody (funcs : List Func) (frame : Frame) : Type 0 where
  pub func : frame.func < length funcs
  pub index : frame.index < length (body_of funcs frame.func)

-- in a program, each frame is always at an instruction
abbrev pub FramesAreInBodies : Type 0
FramesAreInBodies = (funcs : List Func) (steps : ℕ) → IsProgram funcs → AllByRecursion (IsInBody funcs) (plain funcs steps).stack

-- in a program, there is always an instruction for each frame
abbrev pub FramesHaveInstructions : Type 0
FramesHaveInstructions = (funcs : List Func) (steps : ℕ) → IsProgram funcs → AllByRecursion (λ frame. is_some (instr_of funcs frame) ≡ true) (plain funcs steps).stack

-- eight registers, each of which fits 64 bits
pub record HasRegisters (frame : Frame) : Type 0 where
  pub eight : length frame.registers ≡ 8
  pub each : AllByRecursion (λ number. number < 2 ^ 64) frame.registers

-- each frame always has its eight registers
abbrev pub FramesHaveRegisters : Type 0
FramesHaveRegisters = (funcs : List Func) (steps : ℕ) → AllByRecursion HasRegisters (plain funcs steps).stack

-- the step after this many steps takes a function's optimised code away
abbrev pub TakesCodeAway : List Func → ℕ → Type 0
TakesCodeAway funcs steps = (func : ℕ) × ((code_at (plain funcs steps) func).optimised ≡ true) × ((code_at (plain funcs (suc steps)) func).optimised ≡ false)

-- a step makes a deoptimisation exactly where it takes some function's optimised code away
abbrev pub DeoptsTakeCodeAway : Type 0
DeoptsTakeCodeAway = (funcs : List Func) (steps : ℕ) → (deopts funcs steps ≡ true) ↔ TakesCodeAway funcs steps

-- where a function of a program gets a reason, its own entry has that reason, and each other entry the one that it had
abbrev pub ReasonsFollow : Type 0
ReasonsFollow =
    (funcs : List Func) (codes : List Code) (func : ℕ) (code : Code) (reason : List ℕ) (entry : Entry)
    → IsProgram funcs → length codes ≡ length funcs → func < length funcs → code.reason ≡ Some reason
    → reason_in funcs (slice_set codes func code) entry ≡ with_reason (reason_in funcs codes) reason (entry_at funcs func) entry
