use Rattle.code_event.proofs.TreeNodes.{root_first}
use Rattle.code_event.proofs.laws.tree.the_root_comes_first.Goals as goal

pub returns : goal.returns
returns c = root_first
