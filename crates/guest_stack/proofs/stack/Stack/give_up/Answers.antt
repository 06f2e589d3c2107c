use Rattle.std.proofs.Common.{rules, ◌∷◌, ap, ◌∙◌}
use Rattle.guest_stack.specs.GivingUp.{all_given_up_by}
use Rattle.guest_stack.proofs.GivenUpFrames.{all_given_up_by-all_given_up}
use Rattle.guest_stack.proofs.stack.Stack.give_up.Goals as goal

pub returns-clause-given_up : goal.returns-clause-given_up
returns-clause-given_up c =
    c.replace_frames.ensures.frames
    ∙ c.in_ok-frames.ensures
    ∙ ap (λ layout. all_given_up_by layout c.args.func.0 (c.args.self.now.frame ∷ c.args.self.now.callers)) (search rules)
    ∙ all_given_up_by-all_given_up c.args.code.now.funcs c.args.func (c.args.self.now.frame ∷ c.args.self.now.callers)
