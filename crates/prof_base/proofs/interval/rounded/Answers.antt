use Rattle.std.proofs.Common.{rules}
use Rattle.prof_base.proofs.Intervals.{rounded_least}
use Rattle.prof_base.proofs.interval.rounded.Goals as goal

pub returns-clause-least : goal.returns-clause-least
returns-clause-least c = rounded_least c.args.base c.args.interval _ c.requires.base_low (search rules)
