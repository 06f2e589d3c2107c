-- The nodes of a slab from which nothing was taken, by key.
use Rattle.std.specs.Prelude.{ℕ, ◌<◌, List, [], ◌∷◌, ◌++◌, length, take, map, Option, Some, None, IsSome, slice_set, slice_index_or}
use Rattle.std.specs.List.{insert}
use Rattle.slab.specs.Slab.{Slab, get, slab_len}
use Rattle.code_event.specs.declared.path.PathStep.{PathStep}
use Rattle.profile_tree.specs.Node.{LinkedNode, fresh}

-- what is there, or a node like a new root
abbrev pub or_blank : Option LinkedNode → LinkedNode
or_blank None = fresh 0 None
or_blank (Some node) = node

abbrev pub nodes_in : Slab LinkedNode → List LinkedNode
nodes_in slab = map or_blank (take (slab_len slab) slab.slots)

-- the first keys have the values
abbrev pub IsDense : Slab LinkedNode → Type 0
IsDense slab = (key : ℕ) → key < slab_len slab → IsSome (get slab key)

-- the node at a key
abbrev pub node_at : List LinkedNode → ℕ → LinkedNode
node_at nodes key = slice_index_or nodes key (fresh 0 None)

-- one more node, whose key is put at a place among its parent's children
abbrev pub with_child : List LinkedNode → ℕ → ℕ → PathStep → List LinkedNode
with_child nodes parent at step =
    slice_set nodes parent (record (node_at nodes parent) { children = insert (node_at nodes parent).children at (length nodes) }) ++ fresh parent (Some step) ∷ []

-- the child of the last visit
abbrev pub with_last : List LinkedNode → ℕ → ℕ → List LinkedNode
with_last nodes key child = slice_set nodes key (record (node_at nodes key) { last = Some child })
