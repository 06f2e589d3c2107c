use Rattle.pipe_core.proofs.RefusedSteps.{refused_steps}
use Rattle.pipe_core.proofs.laws.refused_steps_change_nothing.Goals as goal

pub returns : goal.returns
returns c = record { unchanged = refused_steps }
