use Rattle.std.proofs.Common.{◌≡◌, take, map}
use Rattle.std.specs.List.{filter}
use Rattle.code_event.specs.Tree.{id_of, is_below}
use Rattle.reference_profile.proofs.tree.children.Given as goal

abbrev pub invariant-loop-node : goal.invariant-loop-node
invariant-loop-node l = l.ids ≡ map (id_of l.nodes) (filter (is_below l.parent) (take l.node-index l.nodes))
