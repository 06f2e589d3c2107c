use Rattle.guest_stack.proofs.Reading.{stacks_are_read}
use Rattle.guest_stack.proofs.laws.stacks_are_read_through_ranges.Goals as goal

pub returns : goal.returns
returns c = stacks_are_read
