use Rattle.code_event.proofs.TreeNodes.{nodes_begin_paths}
use Rattle.code_event.proofs.laws.tree.nodes_begin_the_paths.Goals as goal

pub returns : goal.returns
returns c = nodes_begin_paths
