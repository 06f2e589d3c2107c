-- The links of nodes stay a tree where a node changes in other ways.
use Rattle.std.proofs.Common.{◌≡◌, ℕ, ◌<◌, ◌^◌, List, [], ◌∷◌, ◌++◌, length, map, set, inl, inr, sym, ap, ◌∙◌, subst, arith}
use Rattle.std.specs.Prelude.{Some, None}
use Rattle.std.specs.List.{Contains}
use Rattle.std.proofs.lemmas.Bool.{cases_eq}
use Rattle.std.proofs.lemmas.List.{get_or-set_same, get_or-set_other, length-set}
use Rattle.prof_base.specs.Ordered.{Rises}
use Rattle.code_event.specs.Tree.{path_cmp}
use Rattle.code_event.specs.declared.path.PathStep.{PathStep}
use Rattle.profile_tree.specs.Node.{LinkedNode, fresh}
use Rattle.profile_tree.specs.Arena.{node_at}
use Rattle.profile_tree.specs.Linked.{path_at, paths_of, IsPlaced, IsChild, LinkedBy, Linked}
use Rattle.profile_tree.proofs.PathsAfter.{paths_of-set}

-- two nodes are linked in the same way
pub record SameLinks (one other : LinkedNode) : Type 0 where
  pub step : one.step ≡ other.step
  pub parent : one.parent ≡ other.parent
  pub children : one.children ≡ other.children

module _ (paths : List (List PathStep)) (nodes : List LinkedNode) (key : ℕ) (node : LinkedNode) (old : LinkedBy paths nodes) (low : key < length nodes) (same : SameLinks node (node_at nodes key))
    (fits : node.hits < 2 ^ 53) (last : (child : ℕ) → node.last ≡ Some child → IsChild nodes key child) where
  sized : length (set nodes key node) ≡ length nodes
  sized = length-set nodes key node

  links : (k : ℕ) → SameLinks (node_at (set nodes key node) k) (node_at nodes k)
  links k = elim (cases_eq k key) [
    | inl here ↦
        let new : node_at (set nodes key node) k ≡ node = ap (node_at (set nodes key node)) here ∙ get_or-set_same nodes key node (fresh 0 None) low in
        let was : node_at nodes key ≡ node_at nodes k = ap (node_at nodes) (sym here) in
        record {
          step = ap (λ n. n.step) new ∙ same.step ∙ ap (λ n. n.step) was;
          parent = ap (λ n. n.parent) new ∙ same.parent ∙ ap (λ n. n.parent) was;
          children = ap (λ n. n.children) new ∙ same.children ∙ ap (λ n. n.children) was;
        }
    | inr differs ↦
        let e : node_at (set nodes key node) k ≡ node_at nodes k = get_or-set_other nodes key k node (fresh 0 None) differs in
        record { step = ap (λ n. n.step) e; parent = ap (λ n. n.parent) e; children = ap (λ n. n.children) e }
  ]

  child_kept : (k child : ℕ) → IsChild nodes k child → IsChild (set nodes key node) k child
  child_kept k child was = record { later = was.later; within = omega (arith, sized, was.within); under = (links child).parent ∙ was.under }

  last_kept : (k child : ℕ) → k < length nodes → (node_at (set nodes key node) k).last ≡ Some child → IsChild nodes k child
  last_kept k child within e = elim (cases_eq k key) [
    | inl here ↦
        let new : node_at (set nodes key node) k ≡ node = ap (node_at (set nodes key node)) here ∙ get_or-set_same nodes key node (fresh 0 None) low in
        subst (λ j. IsChild nodes j child) (sym here) (last child (ap (λ n. n.last) (sym new) ∙ e))
    | inr differs ↦ old.last k child within (ap (λ n. n.last) (sym (get_or-set_other nodes key k node (fresh 0 None) differs)) ∙ e)
  ]

  few_kept : (k : ℕ) → k < length nodes → (node_at (set nodes key node) k).hits < 2 ^ 53
  few_kept k within = elim (cases_eq k key) [
    | inl here ↦
        let new : node_at (set nodes key node) k ≡ node = ap (node_at (set nodes key node)) here ∙ get_or-set_same nodes key node (fresh 0 None) low in
        subst (λ n. n.hits < 2 ^ 53) (sym new) fits
    | inr differs ↦ subst (λ n. n.hits < 2 ^ 53) (sym (get_or-set_other nodes key k node (fresh 0 None) differs)) (old.few_hits k within)
  ]

  placed_kept : (k : ℕ) → IsPlaced paths nodes k → IsPlaced paths (set nodes key node) k
  placed_kept k was =
      let same_parent = (links k).parent in
      record {
        parent_in = omega (arith, sized, same_parent, was.parent_in);
        step = was.step;
        by = (links k).step ∙ was.by;
        path = was.path ∙ ap (λ p. path_at paths p ++ was.step ∷ []) (sym same_parent);
        listed = subst (λ l. Contains l k) (sym (ap (λ p. (node_at (set nodes key node) p).children) same_parent ∙ (links (node_at nodes k).parent).children)) was.listed;
      }

  pub linked_set : LinkedBy paths (set nodes key node)
  linked_set = record {
    sized = old.sized ∙ sym sized;
    some = omega (arith, sized, old.some);
    few = omega (arith, sized, old.few);
    root = old.root;
    first = (links 0).step ∙ old.first;
    placed = λ k later within. placed_kept k (old.placed k later (omega (arith, sized, within)));
    children = λ k child within has.
        child_kept k child (old.children k child (omega (arith, sized, within)) (subst (λ l. Contains l child) (links k).children has));
    last = λ k child within e. let low' : k < length nodes = omega (arith, sized, within) in child_kept k child (last_kept k child low' e);
    distinct = λ i j first second e. old.distinct i j (omega (arith, sized, first)) (omega (arith, sized, second)) e;
    few_hits = λ k within. few_kept k (omega (arith, sized, within));
    rises = λ k within. subst (λ l. Rises path_cmp (map (path_at paths) l)) (sym (links k).children) (old.rises k (omega (arith, sized, within)));
  }

pub linked_written : (nodes : List LinkedNode) (key : ℕ) (node : LinkedNode) → Linked nodes → key < length nodes → SameLinks node (node_at nodes key) → node.hits < 2 ^ 53 → ((child : ℕ) → node.last ≡ Some child → IsChild nodes key child) → Linked (set nodes key node)
linked_written nodes key node old low same fits last =
    subst (λ paths. LinkedBy paths (set nodes key node)) (sym (paths_of-set nodes key node same.parent same.step)) (linked_set (paths_of nodes) nodes key node old low same fits last)
