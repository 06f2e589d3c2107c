use Rattle.raised_so_far.proofs.StepsRaised.{openings, steps}
use Rattle.raised_so_far.proofs.laws.steps_are_raised.Goals as goal

pub returns : goal.returns
returns c = record { opening = openings; steps = steps }
