use Rattle.prof_outer_cases.proofs.Reread.{same_read, other_read, not_missing}
use Rattle.prof_outer_cases.proofs.bounds.put_and_get.Goals as goal

pub returns-in-Ok-clause-same : goal.returns-in-Ok-clause-same
returns-in-Ok-clause-same g c same = same_read (g.D.Depot.held c.args.depot.now) (g.D.Depot.held c.put.new.self) _ _ _ _ c.in_default.ensures.put same c.in-Ok.ensures.bytes

pub returns-in-Ok-clause-other : goal.returns-in-Ok-clause-other
returns-in-Ok-clause-other g c apart = other_read (g.D.Depot.held c.args.depot.now) (g.D.Depot.held c.put.new.self) _ _ _ _ c.in_default.ensures.put apart c.in-Ok.ensures.bytes

pub returns-in-Err-get-clause-there : goal.returns-in-Err-get-clause-there
returns-in-Err-get-clause-there g c same is = not_missing (g.D.Depot.held c.args.depot.now) (g.D.Depot.held c.put.new.self) _ _ _ c.in_default.ensures.put same (c.in-Err-get.ensures.absent (cc))
