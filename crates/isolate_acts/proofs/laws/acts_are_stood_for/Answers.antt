use Rattle.isolate_acts.proofs.ActsStand.{acts_stand, runs_stand}
use Rattle.isolate_acts.proofs.laws.acts_are_stood_for.Goals as goal

pub returns : goal.returns
returns c = record { acts = acts_stand; runs = runs_stand }
