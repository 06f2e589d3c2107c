-- Steps of the core that are not done.
use Rattle.std.specs.Prelude.{◌≡◌, ◌≢◌}
use Rattle.pipe_core.specs.Core.{outcome}
use Rattle.pipe_core.specs.declared.world.CoreAnswer.TheVariants as answer
use Rattle.pipe_core.specs.declared.world.CoreStep.{CoreStep}
use Rattle.pipe_core.specs.declared.world.World.{World}

-- a step with any other answer than Done leaves the world unchanged
abbrev pub RefusedStepsChangeNothing : Type 0
RefusedStepsChangeNothing = (world : World) (step : CoreStep) → (outcome world step).answer ≢ answer.Done → (outcome world step).world ≡ world
