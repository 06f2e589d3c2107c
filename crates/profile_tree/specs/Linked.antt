-- How the links of nodes are a tree.
use Rattle.std.specs.Prelude.{◌≡◌, ℕ, ◌<◌, ◌^◌, List, [], ◌∷◌, ◌++◌, length, map, Option, Some, None, slice_index_or}
use Rattle.std.specs.List.{Contains}
use Rattle.prof_base.specs.Ordered.{Rises}
use Rattle.code_event.specs.Tree.{path_cmp}
use Rattle.code_event.specs.declared.path.PathStep.{PathStep}
use Rattle.profile_tree.specs.Node.{LinkedNode}
use Rattle.profile_tree.specs.Arena.{node_at}

abbrev pub last_step : Option PathStep → List PathStep
last_step None = []
last_step (Some step) = step ∷ []

abbrev pub path_at : List (List PathStep) → ℕ → List PathStep
path_at paths key = slice_index_or paths key []

-- the path of a node whose parent has one of these
abbrev pub path_of : List (List PathStep) → LinkedNode → List PathStep
path_of paths node = path_at paths node.parent ++ last_step node.step

abbrev pub paths_after : List (List PathStep) → List LinkedNode → List (List PathStep)
paths_after paths [] = paths
paths_after paths (node ∷ nodes) = paths_after (paths ++ path_of paths node ∷ []) nodes

-- the paths of nodes, by key: each node's parent is before it
abbrev pub paths_of : List LinkedNode → List (List PathStep)
paths_of nodes = paths_after [] nodes

-- a node below the root: its path is one step longer than its parent's, which has it among its children
pub record IsPlaced (paths : List (List PathStep)) (nodes : List LinkedNode) (key : ℕ) : Type 0 where
  pub parent_in : (node_at nodes key).parent < length nodes
  pub step : PathStep
  pub by : (node_at nodes key).step ≡ Some step
  pub path : path_at paths key ≡ path_at paths (node_at nodes key).parent ++ step ∷ []
  pub listed : Contains (node_at nodes (node_at nodes key).parent).children key

-- a child of a node
pub record IsChild (nodes : List LinkedNode) (parent child : ℕ) : Type 0 where
  pub later : 0 < child
  pub within : child < length nodes
  pub under : (node_at nodes child).parent ≡ parent

-- the nodes are linked as a tree of these paths
pub record LinkedBy (paths : List (List PathStep)) (nodes : List LinkedNode) : Type 0 where
  pub sized : length paths ≡ length nodes
  pub some : 0 < length nodes
  pub few : length nodes < 2 ^ 32
  pub root : path_at paths 0 ≡ []
  pub first : (node_at nodes 0).step ≡ None
  pub placed : (key : ℕ) → 0 < key → key < length nodes → IsPlaced paths nodes key
  pub children : (key child : ℕ) → key < length nodes → Contains (node_at nodes key).children child → IsChild nodes key child
  pub last : (key child : ℕ) → key < length nodes → (node_at nodes key).last ≡ Some child → IsChild nodes key child
  pub distinct : (one other : ℕ) → one < length nodes → other < length nodes → path_at paths one ≡ path_at paths other → one ≡ other
  pub few_hits : (key : ℕ) → key < length nodes → (node_at nodes key).hits < 2 ^ 53
  pub rises : (key : ℕ) → key < length nodes → Rises path_cmp (map (path_at paths) (node_at nodes key).children)

abbrev pub Linked : List LinkedNode → Type 0
Linked nodes = LinkedBy (paths_of nodes) nodes
