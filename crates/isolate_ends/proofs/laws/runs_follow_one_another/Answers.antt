use Rattle.isolate_ends.proofs.Following.{acts_are_runs, runs_follow}
use Rattle.isolate_ends.proofs.laws.runs_follow_one_another.Goals as goal

pub returns-clause-acts : goal.returns-clause-acts
returns-clause-acts c = acts_are_runs

pub returns-clause-runs : goal.returns-clause-runs
returns-clause-runs c = runs_follow
