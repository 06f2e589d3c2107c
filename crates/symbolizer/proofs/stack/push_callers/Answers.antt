use Rattle.std.proofs.Common.{arith}
use Rattle.code_event.specs.Symbolizer.{caller_frames}
use Rattle.symbolizer.proofs.Frames.{with_frames-earlier}
use Rattle.symbolizer.proofs.stack.push_callers.Goals as goal

pub loop-at-preserved : goal.loop-at-preserved
loop-at-preserved c = record {
  paths = λ ranges of.
      with_frames-earlier c.args.paths.now c.loop-at.paths c.push_caller.new.paths (caller_frames ranges) c.args.callers.now c.loop-at.at (omega arith) (omega arith)
      (c.loop-at.invariant.paths ranges of) (c.in_ok-push_caller.ensures.paths ranges (c.loop-at.invariant.ranges ranges of));
  ranges = λ ranges of. c.push_caller.ensures.ranges ranges (c.loop-at.invariant.ranges ranges of);
  reasons = λ reasons of. c.push_caller.ensures.reasons reasons (c.loop-at.invariant.reasons reasons of);
}
