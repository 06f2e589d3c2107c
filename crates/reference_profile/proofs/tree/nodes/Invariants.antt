use Rattle.std.proofs.Common.{◌≡◌, drop}
use Rattle.code_event.specs.Tree.{nodes}
use Rattle.reference_profile.proofs.tree.nodes.Given as goal

abbrev pub invariant-loop-at : goal.invariant-loop-at
invariant-loop-at l = l.set.items ≡ nodes (drop l.at l.visits)
