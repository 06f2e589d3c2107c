use Rattle.std.proofs.Common.{◌≡◌, drop}
use Rattle.code_event.specs.Tree.{path_cmp}
use Rattle.reference_profile.proofs.path_order.path_cmp.Given as goal

abbrev pub invariant-loop-at : goal.invariant-loop-at
invariant-loop-at l = path_cmp (drop l.at l.one) (drop l.at l.other) ≡ path_cmp l.one l.other
