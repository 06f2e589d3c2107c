-- The search for a step among the children of a node.
use Rattle.std.specs.Prelude.{◌≡◌, ℕ, ◌<◌, ◌≤◌, length, slice_index, Some}
use Rattle.std.specs.declared.cmp.Ordering.TheVariants.{Less, Greater}
use Rattle.std.specs.Prelude.{List}
use Rattle.code_event.specs.declared.path.PathStep.{PathStep}
use Rattle.profile_tree.specs.Node.{LinkedNode, step_order}
use Rattle.profile_tree.specs.Arena.{node_at}
use Rattle.profile_tree.specs.Linked.{IsChild}
use Rattle.profile_tree.specs.declared.search.Place.{Place}
use Rattle.profile_tree.specs.declared.search.Place.TheVariants.{At, New}

-- a child of a node by this step
pub record IsByStep (nodes : List LinkedNode) (parent : ℕ) (step : PathStep) (key : ℕ) : Type 0 where
  pub child : IsChild nodes parent key
  pub by : (node_at nodes key).step ≡ Some step

-- the step is after the children before this place, and before the child there
pub record IsBetween (nodes : List LinkedNode) (children : List ℕ) (step : PathStep) (at : ℕ) : Type 0 where
  pub within : at ≤ length children
  pub before : (k : ℕ) → k < at → step_order step (node_at nodes (slice_index children k)).step ≡ Greater
  pub after : at < length children → step_order step (node_at nodes (slice_index children at)).step ≡ Less

abbrev pub IsPlace : List LinkedNode → ℕ → PathStep → Place → Type 0
IsPlace nodes parent step (At child) = IsByStep nodes parent step child
IsPlace nodes parent step (New at) = IsBetween nodes (node_at nodes parent).children step at
