use Rattle.code_event.proofs.TreeParents.{one_parent}
use Rattle.code_event.proofs.laws.tree.every_node_but_the_root_has_a_parent.Goals as goal

pub returns : goal.returns
returns c = one_parent
