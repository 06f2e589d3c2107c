use Rattle.std.proofs.Common.{sym, ◌∙◌, arith}
use Rattle.code_event.specs.Tree.{path_step_cmp}
use Rattle.reference_profile.proofs.PathOrder.{slice_cmp-ends}
use Rattle.reference_profile.proofs.path_order.path_cmp.Goals as goal

pub returns : goal.returns
returns c = c.cmp.ensures ∙ sym (slice_cmp-ends path_step_cmp c.args.one.now c.args.other.now c.loop-at.at (omega arith)) ∙ c.loop-at.invariant
