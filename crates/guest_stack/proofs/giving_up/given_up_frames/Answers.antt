use Rattle.std.proofs.Common.{◌++◌, reverse, ap, ◌∙◌}
use Rattle.guest_stack.specs.GivingUp.{given_up_by, all_given_up_by}
use Rattle.guest_stack.proofs.GivenUpFrames.{all_given_up_by-added}
use Rattle.guest_stack.proofs.giving_up.given_up_frames.Goals as goal

pub returns : goal.returns
returns c =
    all_given_up_by-added c.args.layout.now c.args.func.0 c.args.stack.now.frame c.args.stack.now.callers c.in_ok-frames.frames.items c.push_given_up.new.frames.items
    (c.in_ok-frames.ensures ∙ ap (all_given_up_by c.args.layout.now c.args.func.0) c.callers.ensures)
    (c.in_ok-push_given_up.ensures ∙ ap (λ frame. c.in_ok-frames.frames.items ++ reverse (given_up_by c.args.layout.now c.args.func.0 frame)) c.frame.ensures)
