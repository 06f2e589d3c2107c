use Rattle.std.proofs.Common.{◌≡◌, ◌++◌, take, map, codes}
use Rattle.std.specs.List.{join_with_byte}
use Rattle.cpuprofile.specs.ProfileText.{node_text}
use Rattle.cpuprofile.proofs.write.put_nodes.Given as goal

abbrev pub invariant-loop-at : goal.invariant-loop-at
invariant-loop-at l = l.out.items ≡ l.fn.out.items ++ (codes "[" ++ join_with_byte 44 (map node_text (take l.at l.nodes)))
