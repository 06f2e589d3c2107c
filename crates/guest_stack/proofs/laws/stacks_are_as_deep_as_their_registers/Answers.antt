use Rattle.guest_stack.proofs.Stepping.{callers_are_counted, frames_are_few}
use Rattle.guest_stack.proofs.laws.stacks_are_as_deep_as_their_registers.Goals as goal

pub returns : goal.returns
returns c = record { callers = callers_are_counted; frames = frames_are_few }
