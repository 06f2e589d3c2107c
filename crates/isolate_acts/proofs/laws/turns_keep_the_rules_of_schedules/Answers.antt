use Rattle.isolate_acts.proofs.ScheduleTurns.{new_keep, samples_keep, turns_keep}
use Rattle.isolate_acts.proofs.laws.turns_keep_the_rules_of_schedules.Goals as goal

pub returns : goal.returns
returns c = record { first = new_keep; turns = turns_keep; samples = samples_keep }
