use Rattle.std.proofs.Common.{◌≡◌, ◌<◌, ℕ}
use Rattle.std.specs.Prelude.{slice_index}
use Rattle.std.specs.declared.cmp.Ordering.TheVariants.{Greater}
use Rattle.profile_tree.specs.Node.{step_order}
use Rattle.profile_tree.specs.Arena.{node_at}
use Rattle.profile_tree.proofs.search.child_place.Given as goal

-- the step is after the children before this place
abbrev pub invariant-loop-at : goal.invariant-loop-at
invariant-loop-at l = (k : ℕ) → k < l.at → step_order l.step (node_at l.nodes (slice_index l.children k)).step ≡ Greater
