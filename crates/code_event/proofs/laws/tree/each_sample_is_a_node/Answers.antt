use Rattle.code_event.proofs.TreeNodes.{samples_within}
use Rattle.code_event.proofs.laws.tree.each_sample_is_a_node.Goals as goal

pub returns : goal.returns
returns c = samples_within
