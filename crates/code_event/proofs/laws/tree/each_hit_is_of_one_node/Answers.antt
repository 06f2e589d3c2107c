use Rattle.code_event.proofs.TreeHits.{hits_counted_once}
use Rattle.code_event.proofs.laws.tree.each_hit_is_of_one_node.Goals as goal

pub returns : goal.returns
returns c = hits_counted_once
