use Rattle.std.proofs.Common.{arith}
use Rattle.reference_profile.proofs.Joined.{join_nodes_more, put_step}
use Rattle.reference_profile.proofs.profile_text.put_nodes.Goals as goal

pub loop-at-preserved : goal.loop-at-preserved
loop-at-preserved c =
    put_step _ _ _ _ _ _ _ _ c.loop-at.invariant c.in_ok-put_comma.ensures c.in_ok-put_node.ensures
    (join_nodes_more c.args.nodes.now c.loop-at.at c.index-nodes-at.result c.index-nodes-at.result (omega arith) c.index-nodes-at.is)
