use Rattle.std.proofs.Common.{◌∙◌, ap, sym, reverse, flat_map}
use Rattle.code_event.specs.Symbolizer.{frames_at, caller_frames, stack_frames}
use Rattle.symbolizer.specs.Paths.{with_frames}
use Rattle.symbolizer.proofs.Frames.{with_frames-reverse}
use Rattle.symbolizer.proofs.stack.push_stack.Goals as goal

pub returns-in_ok-push_address-clause-paths : goal.returns-in_ok-push_address-clause-paths
returns-in_ok-push_address-clause-paths c = λ ranges of.
    with_frames-reverse c.args.paths.now c.push_callers.new.paths c.push_address.new.paths (frames_at ranges c.in-Some.youngest.now) (flat_map (caller_frames ranges) c.in-Some.callers.now)
    (c.in_ok-push_callers.ensures.paths ranges of) (c.in_ok-push_address.ensures.paths ranges (c.in_ok-push_callers.ensures.ranges ranges of))
    ∙ ap (λ addresses. with_frames c.args.paths.now (reverse (stack_frames ranges addresses))) (sym c.in-Some.ensures.cases.0)
