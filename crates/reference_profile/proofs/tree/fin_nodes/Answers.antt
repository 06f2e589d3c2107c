use Rattle.std.proofs.Common.{◌∙◌, ap, arith}
use Rattle.code_event.specs.DeoptReasons.{reasons_in}
use Rattle.code_event.specs.Tree.{fin_node}
use Rattle.reference_profile.proofs.Profiles.{map_step}
use Rattle.reference_profile.proofs.tree.fin_nodes.Goals as goal

pub loop-node-preserved : goal.loop-node-preserved
loop-node-preserved c =
    map_step (fin_node c.args.nodes.now c.args.visits.now (reasons_in c.args.reasons.now)) c.args.nodes.now c.loop-node.node-index c.node-item.result c.loop-node.finished c.push.new.self c.in_ok-fin_node.field-0 (omega arith)
    c.node-item.is c.loop-node.invariant c.in_ok-push.ensures.ok
    (c.in_ok-fin_node.ensures ∙ ap (fin_node c.args.nodes.now c.args.visits.now (reasons_in c.args.reasons.now)) c.as_slice.ensures)
