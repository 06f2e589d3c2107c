use Rattle.isolate_acts.proofs.ScheduleKept.{acts_keep, runs_keep, ended_legal}
use Rattle.isolate_acts.proofs.laws.schedules_keep_their_rules.Goals as goal

pub returns : goal.returns
returns c = record { acts = acts_keep; runs = runs_keep; ended = ended_legal }
