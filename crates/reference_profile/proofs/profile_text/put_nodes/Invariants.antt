use Rattle.std.proofs.Common.{◌≡◌, ◌++◌, take, codes}
use Rattle.std.specs.List.{join_with_byte}
use Rattle.code_event.specs.FileText.{node_texts}
use Rattle.reference_profile.proofs.profile_text.put_nodes.Given as goal

abbrev pub invariant-loop-at : goal.invariant-loop-at
invariant-loop-at l = l.out.items ≡ l.fn.out.items ++ (codes "[" ++ join_with_byte 44 (node_texts 1 (take l.at l.nodes)))
