use Rattle.std.proofs.Common.{◌≡◌, take, map}
use Rattle.code_event.specs.DeoptReasons.{reasons_in}
use Rattle.code_event.specs.Tree.{fin_node}
use Rattle.reference_profile.proofs.tree.fin_nodes.Given as goal

abbrev pub invariant-loop-node : goal.invariant-loop-node
invariant-loop-node l = l.finished ≡ map (fin_node l.nodes l.visits (reasons_in l.reasons)) (take l.node-index l.nodes)
