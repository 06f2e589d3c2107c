use Rattle.profile_tree.proofs.StepOrder.{then_all}
use Rattle.profile_tree.proofs.steps.path_step_cmp.Goals as goal

pub returns : goal.returns
returns c =
    cc (then_all c.text_cmp.result c.text_cmp-2.result c.cmp.result c.cmp-2.result c.cmp-3.result c.cmp-4.result)
