use Rattle.std.proofs.Common.{arith}
use Rattle.guest_machine.proofs.Raised.{next_ensured}
use Rattle.guest_machine.proofs.raising.ensure_frames.Goals as goal

pub loop-frame-preserved : goal.loop-frame-preserved
loop-frame-preserved c =
    next_ensured c.args.frames.now c.loop-frame.frame-index _ _ c.args.code.now c.loop-frame.code c.ensure_frame.new.code c.args.events.now c.loop-frame.events c.ensure_frame.new.events c.loop-frame-test.true (omega arith)
    (record {
      raises = c.loop-frame.invariant.raises;
      there = c.loop-frame.invariant.there;
      stays = c.loop-frame.invariant.stays;
      optimised = c.loop-frame.invariant.optimised;
      funcs = c.loop-frame.invariant.funcs;
    })
    c.in_ok-ensure_frame.ensures.raises c.in_ok-ensure_frame.ensures.there c.in_ok-ensure_frame.ensures.stays c.ensure_frame.ensures.optimised c.ensure_frame.ensures.funcs
