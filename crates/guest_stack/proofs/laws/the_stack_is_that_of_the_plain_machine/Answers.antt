use Rattle.guest_stack.proofs.StackIsPlain.{stack_is_plain}
use Rattle.guest_stack.proofs.laws.the_stack_is_that_of_the_plain_machine.Goals as goal

pub returns : goal.returns
returns c = stack_is_plain
