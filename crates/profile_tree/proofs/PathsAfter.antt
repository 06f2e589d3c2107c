-- The paths of nodes, by key.
use Rattle.std.proofs.Common.{◌≡◌, ℕ, zero, suc, ◌+◌, List, [], ◌∷◌, ◌++◌, length, refl, ap, ap₂, arith}
use Rattle.std.specs.Prelude.{slice_set}
use Rattle.std.proofs.lemmas.List.{length-append}
use Rattle.code_event.specs.declared.path.PathStep.{PathStep}
use Rattle.profile_tree.specs.Node.{LinkedNode}
use Rattle.profile_tree.specs.Arena.{node_at}
use Rattle.profile_tree.specs.Linked.{last_step, path_at, path_of, paths_after, paths_of}

paths_after-append : (paths : List (List PathStep)) (xs ys : List LinkedNode) → paths_after paths (xs ++ ys) ≡ paths_after (paths_after paths xs) ys
paths_after-append paths [] ys = refl
paths_after-append paths (x ∷ xs) ys = paths_after-append (paths ++ path_of paths x ∷ []) xs ys

pub paths_of-push : (nodes : List LinkedNode) (node : LinkedNode) → paths_of (nodes ++ node ∷ []) ≡ paths_of nodes ++ path_of (paths_of nodes) node ∷ []
paths_of-push nodes node = paths_after-append [] nodes (node ∷ [])

length-paths_after : (paths : List (List PathStep)) (nodes : List LinkedNode) → length (paths_after paths nodes) ≡ length paths + length nodes
length-paths_after paths [] = omega arith
length-paths_after paths (node ∷ nodes) =
    omega (arith, length-paths_after (paths ++ path_of paths node ∷ []) nodes, length-append paths (path_of paths node ∷ []))

pub length-paths_of : (nodes : List LinkedNode) → length (paths_of nodes) ≡ length nodes
length-paths_of nodes = omega (arith, length-paths_after [] nodes)

-- a node's path is by its parent and step
same_path_of : (paths : List (List PathStep)) (one other : LinkedNode) → one.parent ≡ other.parent → one.step ≡ other.step → path_of paths one ≡ path_of paths other
same_path_of paths one other parent step = ap₂ (λ p s. path_at paths p ++ last_step s) parent step

paths_after-set : (paths : List (List PathStep)) (nodes : List LinkedNode) (key : ℕ) (node : LinkedNode)
    → node.parent ≡ (node_at nodes key).parent → node.step ≡ (node_at nodes key).step → paths_after paths (slice_set nodes key node) ≡ paths_after paths nodes
paths_after-set paths [] key node parent step = refl
paths_after-set paths (x ∷ xs) zero node parent step = ap (λ p. paths_after (paths ++ p ∷ []) xs) (same_path_of paths node x parent step)
paths_after-set paths (x ∷ xs) (suc key) node parent step = paths_after-set (paths ++ path_of paths x ∷ []) xs key node parent step

pub paths_of-set : (nodes : List LinkedNode) (key : ℕ) (node : LinkedNode)
    → node.parent ≡ (node_at nodes key).parent → node.step ≡ (node_at nodes key).step → paths_of (slice_set nodes key node) ≡ paths_of nodes
paths_of-set nodes key node parent step = paths_after-set [] nodes key node parent step
