use Rattle.guest_stack.proofs.Positions.{slots_end_with_bodies}
use Rattle.guest_stack.proofs.laws.slots_end_with_bodies.Goals as goal

pub returns : goal.returns
returns c = slots_end_with_bodies
