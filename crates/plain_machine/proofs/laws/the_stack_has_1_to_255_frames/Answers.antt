use Rattle.plain_machine.proofs.Registers.{stacks_are_not_empty, stacks_are_small}
use Rattle.plain_machine.proofs.laws.the_stack_has_1_to_255_frames.Goals as goal

pub returns : goal.returns
returns c = record { some = stacks_are_not_empty; room = stacks_are_small }
