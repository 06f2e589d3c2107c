use Rattle.std.proofs.Common.{◌≡◌, ◌++◌, ◌+◌, map}
use Rattle.std.specs.List.{AllByRecursion}
use Rattle.std.specs.Prelude.{reverse}
use Rattle.code_event.specs.declared.layout.TheConstants.{SLOT_SIZE}
use Rattle.code_objects.specs.CodeObjects.{start_at}
use Rattle.guest_machine.specs.Machine.{program_of}
use Rattle.guest_stack.specs.Stack.{address}
use Rattle.guest_stack.specs.Laws.{IsPlaced}
use Rattle.guest_machine.proofs.machine.Machine.push_return_addresses.Given as goal

abbrev pub invariant-loop-caller : goal.invariant-loop-caller
invariant-loop-caller l =
    (l.frames ++ map (λ frame. address (start_at l.fn.self.code.starts) frame + SLOT_SIZE) (reverse l.caller-iterator.iter.rest.now)
    ≡ l.initial.frames ++ map (λ frame. address (start_at l.fn.self.code.starts) frame + SLOT_SIZE) l.fn.self.stack.callers)
    × AllByRecursion (IsPlaced (program_of l.fn.self) (start_at l.fn.self.code.starts)) (reverse l.caller-iterator.iter.rest.now)
