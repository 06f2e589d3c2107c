use Rattle.code_space.proofs.LeastFit.{place_before, place_last}
use Rattle.code_space.proofs.placing.least_fit.Goals as goal

pub returns-then-free-size-clause-least : goal.returns-then-free-size-clause-least
returns-then-free-size-clause-least c =
    (place_before c.args.ranges.now c.args.size c.loop-range.free c.loop-range.range-index _ c.requires.space c.requires.room c.requires.size c.loop-range-test.true c.if-free-size.true c.loop-range.invariant.hole).least

pub returns-then-free-size-clause-aligned : goal.returns-then-free-size-clause-aligned
returns-then-free-size-clause-aligned c =
    (place_before c.args.ranges.now c.args.size c.loop-range.free c.loop-range.range-index _ c.requires.space c.requires.room c.requires.size c.loop-range-test.true c.if-free-size.true c.loop-range.invariant.hole).aligned

pub returns-clause-least : goal.returns-clause-least
returns-clause-least c = (place_last c.args.ranges.now c.args.size c.loop-range.free c.loop-range.range-index c.requires.space c.requires.room c.requires.size c.loop-range-test.false c.loop-range.invariant.hole).least

pub returns-clause-aligned : goal.returns-clause-aligned
returns-clause-aligned c = (place_last c.args.ranges.now c.args.size c.loop-range.free c.loop-range.range-index c.requires.space c.requires.room c.requires.size c.loop-range-test.false c.loop-range.invariant.hole).aligned

pub returns-clause-within : goal.returns-clause-within
returns-clause-within c = (place_last c.args.ranges.now c.args.size c.loop-range.free c.loop-range.range-index c.requires.space c.requires.room c.requires.size c.loop-range-test.false c.loop-range.invariant.hole).within
