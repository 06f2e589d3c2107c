use Rattle.std.proofs.Common.{◌≡◌, ◌++◌, map, take, drop}
use Rattle.code_event.specs.DeoptReasons.{reasons_in}
use Rattle.code_map.specs.CodeMap.{node_with_reason}
use Rattle.code_map.proofs.reasons.fill_nodes.Given as goal

abbrev pub invariant-loop-node : goal.invariant-loop-node
invariant-loop-node l =
    l.nodes ≡ map (node_with_reason (reasons_in l.reasons)) (take l.node-index l.initial.nodes) ++ drop l.node-index l.initial.nodes
