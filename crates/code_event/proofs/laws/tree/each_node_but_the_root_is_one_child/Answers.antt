use Rattle.code_event.proofs.TreeChildren.{children_listed}
use Rattle.code_event.proofs.laws.tree.each_node_but_the_root_is_one_child.Goals as goal

pub returns : goal.returns
returns c = children_listed
