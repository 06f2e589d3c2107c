use Rattle.std.proofs.Common.{arith}
use Rattle.cpuprofile.specs.ProfileText.{node_text}
use Rattle.cpuprofile.proofs.Joined.{join_map_more, put_step}
use Rattle.cpuprofile.proofs.write.put_nodes.Goals as goal

pub loop-at-preserved : goal.loop-at-preserved
loop-at-preserved c =
    put_step _ _ _ _ _ _ _ _ c.loop-at.invariant c.in_ok-put_comma.ensures c.in_ok-put_node.ensures
    (join_map_more node_text c.args.nodes.now c.loop-at.at c.index-nodes-at.result c.index-nodes-at.result (omega arith) c.index-nodes-at.is)
