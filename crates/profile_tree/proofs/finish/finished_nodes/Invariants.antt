use Rattle.std.proofs.Common.{◌≡◌, take, map}
use Rattle.profile_tree.specs.Arena.{node_at}
use Rattle.profile_tree.specs.Walk.{finished_node}
use Rattle.profile_tree.proofs.finish.finished_nodes.Given as goal

abbrev pub invariant-loop-key : goal.invariant-loop-key
invariant-loop-key l = l.finished ≡ map (λ key. finished_node l.ids (node_at l.nodes key)) (take l.key-index l.order)
