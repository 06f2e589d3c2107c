use Rattle.std.proofs.Common.{◌≡◌, drop}
use Rattle.code_event.specs.Tree.{hit_lines}
use Rattle.reference_profile.proofs.tree.hit_lines.Given as goal

abbrev pub invariant-loop-at : goal.invariant-loop-at
invariant-loop-at l = l.lines.items ≡ hit_lines (drop l.at l.visits) l.node
