use Rattle.std.proofs.Common.{◌∙◌, arith}
use Rattle.prof_base.proofs.Intervals.{source_stays_small}
use Rattle.isolate_progress.proofs.SourceTaken.{gcd_next}
use Rattle.isolate_progress.proofs.sessions.source_next.Goals as goal

pub overflow_cast-result : goal.overflow_cast-result
overflow_cast-result c = omega (arith, source_stays_small c.from.result c.from-2.result c.gcd.result c.gcd.ensures (omega (arith, c.from-2.ensures, c.rounded-rounded.ensures.least.not_none, c.requires.base_low)) (omega (arith, c.from-2.ensures, c.rounded-rounded.ensures.bound)))

pub returns-clause-source : goal.returns-clause-source
returns-clause-source c = gcd_next c.args.source c.args.base c.args.interval c.from.result c.from-2.result c.gcd.result c.from.ensures (c.from-2.ensures ∙ c.rounded-rounded.ensures.value) c.gcd.ensures

pub returns-clause-bound : goal.returns-clause-bound
returns-clause-bound c = source_stays_small c.from.result c.from-2.result c.gcd.result c.gcd.ensures (omega (arith, c.from-2.ensures, c.rounded-rounded.ensures.least.not_none, c.requires.base_low)) (omega (arith, c.from-2.ensures, c.rounded-rounded.ensures.bound))
