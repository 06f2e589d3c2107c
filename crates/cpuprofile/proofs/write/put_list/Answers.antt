use Rattle.std.proofs.Common.{arith}
use Rattle.cpuprofile.proofs.Joined.{join_map_more, put_step}
use Rattle.cpuprofile.proofs.write.put_list.Goals as goal

pub loop-at-preserved : goal.loop-at-preserved
loop-at-preserved g c =
    put_step _ _ _ _ _ _ _ _ c.loop-at.invariant c.in_ok-put_comma.ensures c.in_ok-put_item.ensures
    (join_map_more g.T.ListItem.text c.args.items.now c.loop-at.at c.index-items-at.result c.index-items-at.result (omega arith) c.index-items-at.is)
