use Rattle.std.proofs.Common.{ap, ◌∙◌, reverse}
use Rattle.std.proofs.lemmas.List.{take_all}
use Rattle.std.specs.Prelude.{flat_map}
use Rattle.guest_stack.specs.GivingUp.{given_up_by}
use Rattle.guest_stack.proofs.GivenUpFrames.{all_given_up_by-reverse}
use Rattle.guest_stack.proofs.giving_up.given_up_callers.Goals as goal

pub returns : goal.returns
returns c =
    ap reverse
    (c.loop-frame.invariant ∙ ap (flat_map (λ frame. reverse (given_up_by c.args.layout.now c.args.func.0 frame))) (take_all c.loop-frame.frame-index c.args.callers.now c.loop-frame-test.false))
    ∙ all_given_up_by-reverse c.args.layout.now c.args.func.0 c.args.callers.now
