-- The nodes in the order of their paths, and what the finished nodes have.
use Rattle.std.specs.Prelude.{◌≡◌, ℕ, ◌+◌, ◌<◌, List, length, map, None, slice_index}
use Rattle.std.specs.List.{All, Contains}
use Rattle.prof_base.specs.Ordered.{Rises}
use Rattle.code_event.specs.Tree.{path_cmp}
use Rattle.code_event.specs.declared.profile.FinNode.{FinNode}
use Rattle.profile_tree.specs.Node.{LinkedNode, step_entry}
use Rattle.profile_tree.specs.Linked.{path_at, paths_of}

-- all keys, in the order of the paths
pub record IsPreorder (nodes : List LinkedNode) (order : List ℕ) : Type 0 where
  pub within : All (λ key. key < length nodes) order
  pub whole : (key : ℕ) → key < length nodes → Contains order key
  pub rises : Rises path_cmp (map (path_at (paths_of nodes)) order)

-- each key has its place in an order, from 1
abbrev pub AreIds : List ℕ → List ℕ → Type 0
AreIds order ids = (place : ℕ) → place < length order → slice_index ids (slice_index order place) ≡ place + 1

-- a node with these ids
abbrev pub finished_node : List ℕ → LinkedNode → FinNode
finished_node ids node =
    record {
      entry = step_entry node.step;
      reason = None;
      hits = node.hits;
      children = map (slice_index ids) node.children;
      lines = node.lines;
    }
