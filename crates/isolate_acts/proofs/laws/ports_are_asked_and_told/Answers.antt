use Rattle.isolate_acts.proofs.CallsMade.{answers, interval, readings}
use Rattle.isolate_acts.proofs.laws.ports_are_asked_and_told.Goals as goal

pub returns : goal.returns
returns c = record { readings = readings; answers = answers; interval = interval }
