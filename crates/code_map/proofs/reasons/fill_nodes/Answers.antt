use Rattle.std.proofs.Common.{arith}
use Rattle.code_event.specs.DeoptReasons.{reasons_in}
use Rattle.code_map.proofs.LatestReason.{node_filled}
use Rattle.code_map.proofs.reasons.fill_nodes.Goals as goal

pub loop-node-preserved : goal.loop-node-preserved
loop-node-preserved c =
    node_filled (reasons_in c.args.reasons.now) c.args.nodes.now c.loop-node.nodes c.loop-node.node-index c.node-item.result c.in_ok-node.field-0 (omega arith)
    c.loop-node.invariant c.node-item.is c.in_ok-node.ensures
