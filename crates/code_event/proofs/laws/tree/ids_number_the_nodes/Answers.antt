use Rattle.code_event.proofs.TreeIds.{ids_number_nodes}
use Rattle.code_event.proofs.laws.tree.ids_number_the_nodes.Goals as goal

pub returns : goal.returns
returns c = ids_number_nodes
