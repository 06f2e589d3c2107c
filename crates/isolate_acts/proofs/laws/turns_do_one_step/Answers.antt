use Rattle.isolate_acts.proofs.TurnSteps.{memory, one}
use Rattle.isolate_acts.proofs.laws.turns_do_one_step.Goals as goal

pub returns : goal.returns
returns c = record { one = one; memory = memory }
