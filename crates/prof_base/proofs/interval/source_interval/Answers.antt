use Rattle.std.proofs.Common.{arith, ◌∙◌}
use Rattle.prof_base.proofs.Intervals.{source_of_next, source_stays_small}
use Rattle.prof_base.proofs.interval.source_interval.Goals as goal

pub loop-interval-preserved : goal.loop-interval-preserved
loop-interval-preserved c = record {
  so_far = source_of_next c.args.base c.loop-interval.interval-index c.loop-interval.source c.from.result _ c.args.intervals.now c.loop-interval-test.true c.loop-interval.invariant.so_far c.gcd-source.ensures (c.from.ensures ∙ c.rounded.ensures.value);
  small = source_stays_small c.loop-interval.source c.from.result _ c.gcd-source.ensures (omega (arith, c.from.ensures, c.rounded.ensures.least.not_none)) (omega arith);
}
