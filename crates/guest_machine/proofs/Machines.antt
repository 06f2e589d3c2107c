-- What holds of machines, from what holds of their stacks.
use Rattle.std.proofs.Common.{◌≡◌, ℕ, ◌≤◌, List, [], ◌∷◌, length, ap, ◌∙◌, arith}
use Rattle.std.specs.Prelude.{Option}
use Rattle.std.specs.List.{AllByRecursion}
use Rattle.guest_program.specs.declared.instr.Func.{Func}
use Rattle.code_event.specs.CodeMap.{ranges}
use Rattle.code_event.specs.Symbolizer.{frames_over}
use Rattle.code_event.specs.declared.event.CodeEvent.{CodeEvent}
use Rattle.code_event.specs.declared.tick.VmState.{VmState}
use Rattle.code_event.proofs.Disjoint.{always_disjoint}
use Rattle.code_objects.specs.CodeObjects.{start_at}
use Rattle.code_objects.specs.declared.name.CodeName.{CodeName}
use Rattle.guest_stack.proofs.StackIsPlain.{stack_is_plain}
use Rattle.guest_stack.proofs.Stepping.{frames_are_few}
use Rattle.guest_machine.specs.Machine.{IsMachine, Reflects, program_of}
use Rattle.plain_machine.specs.PlainFrames.{plain_frames}
use Rattle.plain_machine.specs.PlainMachine.{plain}
use Rattle.guest_stack.specs.Stack.{addresses}
use Rattle.guest_stack.specs.Laws.{IsInCode, IsPlaced}
use Rattle.guest_machine.specs.declared.machine.Machine.{Machine}
use Rattle.guest_stack.specs.declared.stack.CodeFrame.{CodeFrame}

pub all_in_code : (funcs : List Func) (starts : CodeName → Option ℕ) (frames : List CodeFrame) → AllByRecursion (IsPlaced funcs starts) frames → AllByRecursion (IsInCode funcs) frames
all_in_code funcs starts [] all = tt
all_in_code funcs starts (frame ∷ frames) all = (all.0.code, all_in_code funcs starts frames all.1)

-- there are at most 254 callers
pub frames_few : (machine : Machine) → IsMachine machine → length machine.stack.callers ≤ 254
frames_few machine whole =
    let few = frames_are_few (program_of machine) machine.stack whole.registers (all_in_code (program_of machine) (start_at machine.code.starts) (machine.stack.frame ∷ machine.stack.callers) whole.placed) in
    let saved = whole.few in omega (arith, few, saved)

-- the addresses, read through the ranges of the events, are the plain machine's frames
pub frames_read : (machine : Machine) → IsMachine machine → (steps : ℕ) (events : List CodeEvent) → Reflects machine steps events
    → frames_over (ranges events) machine.state (addresses (start_at machine.code.starts) (machine.stack.frame ∷ machine.stack.callers)) ≡ plain_frames (program_of machine) (plain (program_of machine) steps)
frames_read machine whole steps events reflects =
    ap (λ (engine : VmState). frames_over (ranges events) engine (addresses (start_at machine.code.starts) (machine.stack.frame ∷ machine.stack.callers))) reflects.state.engine
    ∙ stack_is_plain (program_of machine) (start_at machine.code.starts) (ranges events) machine.stack (plain (program_of machine) steps) whole.program reflects.code (always_disjoint events) whole.placed whole.registers reflects.state.stack
