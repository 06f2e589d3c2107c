use Rattle.code_event.proofs.TreeParents.{parents_first}
use Rattle.code_event.proofs.laws.tree.parents_come_first.Goals as goal

pub returns : goal.returns
returns c = parents_first
