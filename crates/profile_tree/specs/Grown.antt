-- What can be seen of a linked tree: the paths of its nodes and their hits, by key; and when it is the tree of some visits.
use Rattle.std.specs.Prelude.{◌≡◌, ◌↔◌, ℕ, ◌+◌, List, [], ◌∷◌, ◌++◌, map, Some, slice_set, slice_index_or}
use Rattle.std.specs.List.{Contains, slice_get}
use Rattle.prof_base.specs.Prefix.{IsPrefix}
use Rattle.code_event.specs.Tree.{nodes, hits, line_ticks}
use Rattle.code_event.specs.declared.path.PathStep.{PathStep}
use Rattle.code_event.specs.declared.profile.LineTicks.{LineTicks}
use Rattle.code_event.specs.declared.visit.Visit.{Visit}
use Rattle.profile_tree.specs.Node.{LinkedNode, with_line}
use Rattle.profile_tree.specs.Linked.{path_at, paths_of}
use Rattle.profile_tree.specs.declared.node_ref.NodeRef.{NodeRef}

-- the hits of a node, and the same by line
pub record Counts : Type 0 where
  pub hits : ℕ
  pub lines : List LineTicks

abbrev pub counts : LinkedNode → Counts
counts node = record { hits = node.hits; lines = node.lines }

pub record Grown : Type 0 where
  pub paths : List (List PathStep)
  pub counts : List Counts

abbrev pub grown : List LinkedNode → Grown
grown nodes = record { paths = paths_of nodes; counts = map counts nodes }

abbrev pub counts_of : List Visit → List PathStep → Counts
counts_of visits node = record { hits = hits visits node; lines = line_ticks visits node }

-- the tree of these visits: it has just their nodes, each with its hits
unfoldable pub StandsFor : Grown → List Visit → Type 0
StandsFor tree visits =
    ((node : List PathStep) → Contains tree.paths node ↔ Contains (nodes visits) node)
    × (tree.counts ≡ map (counts_of visits) tree.paths)

-- a reference names the node with this path
unfoldable pub Names : Grown → NodeRef → List PathStep → Type 0
Names tree reference path = slice_get tree.paths reference.key ≡ Some path

-- a reference names some node
abbrev pub NamesSome : Grown → NodeRef → Type 0
NamesSome tree reference = (path : List PathStep) × Names tree reference path

-- a node with no hits
abbrev pub no_counts : Counts
no_counts = record { hits = 0; lines = [] }

-- a tree with more nodes, none of which was there
pub record GrownBy (old new : Grown) (more : List (List PathStep)) : Type 0 where
  pub paths : new.paths ≡ old.paths ++ more
  pub counts : new.counts ≡ old.counts ++ map (λ path. no_counts) more
  pub unseen : (path : List PathStep) → Contains more path → ¬ Contains old.paths path

-- a step down from a node: its path is there, or the one that is new
pub record IsStepDown (old new : Grown) (parent : ℕ) (step : PathStep) (child : ℕ) : Type 0 where
  pub more : List (List PathStep)
  pub grown : GrownBy old new more
  pub alone : (path : List PathStep) → Contains more path → path ≡ path_at old.paths parent ++ step ∷ []
  pub named : slice_get new.paths child ≡ Some (path_at old.paths parent ++ step ∷ [])

-- a way down along a path: all its prefixes are there, and only they are new
pub record GrowsAlong (old new : Grown) (path : List PathStep) (key : ℕ) : Type 0 where
  pub more : List (List PathStep)
  pub grown : GrownBy old new more
  pub alone : (node : List PathStep) → Contains more node → IsPrefix node path
  pub whole : (node : List PathStep) → IsPrefix node path → Contains new.paths node
  pub named : slice_get new.paths key ≡ Some path

-- one more hit of the node at a key
abbrev pub with_hit : Grown → ℕ → ℕ → Grown
with_hit tree key line =
    let before = slice_index_or tree.counts key no_counts in
    record tree { counts = slice_set tree.counts key (record { hits = before.hits + 1; lines = with_line line before.lines }) }
