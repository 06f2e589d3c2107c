-- The nodes directly above others: they come first, and each node but the root has exactly one.
use Rattle.std.proofs.Common.{◌≡◌, ◌≢◌, ℕ, suc, ◌-◌, ◌<◌, ◌≤◌, List, [], ◌∷◌, ◌++◌, length, take, drop, inl, inr, ◌&&◌, true, eq-eqb, is_eq, refl, sym, ap, ap₂, ◌∙◌, arith, append_assoc, length-take, take-append-drop}
use Rattle.std.specs.List.{Contains}
use Rattle.std.proofs.lemmas.Cmp.{tied_itself}
use Rattle.code_event.specs.declared.path.PathStep.{PathStep}
use Rattle.code_event.specs.declared.visit.Visit.{Visit}
use Rattle.code_event.specs.Tree.{path_cmp, nodes, id_of, is_below}
use Rattle.code_event.specs.TreeLaws.{BeginsSome, HasOneParent}
use Rattle.prof_base.proofs.Ordered.{Has, has_from_contains, contains_from_has, before_less}
use Rattle.code_event.proofs.TreeIds.{path_total}
use Rattle.code_event.proofs.TreePaths.{below_is_after, parent_is_prefix}
use Rattle.code_event.proofs.TreeNodes.{begins_from_has, has_from_begins}

pub parents_first : (visits : List Visit) (parent node : List PathStep) → Contains (nodes visits) parent → is_below parent node ≡ true → id_of (nodes visits) parent < id_of (nodes visits) node
parents_first visits parent node stands below =
    let less = before_less path_cmp path_total parent node (nodes visits) (below_is_after parent node below) (has_from_contains (nodes visits) parent stands) in omega (arith, less)

take_begins : (k : ℕ) (node : List PathStep) (visits : List Visit) → BeginsSome node visits → BeginsSome (take k node) visits
take_begins k node visits h =
    let rest = h.2 in (
      h.0,
      h.1,
      (drop k node ++ rest.0, rest.1 ∙ ap (λ l. l ++ rest.0) (sym (take-append-drop k node)) ∙ append_assoc (take k node) (drop k node) rest.0),
    )

has_prefix_of : (visits : List Visit) (k : ℕ) (node : List PathStep) → node ≢ [] → Has (nodes visits) node → Has (nodes visits) (take k node)
has_prefix_of visits k node some h = elim (begins_from_has visits node h) [
  | inl root ↦ absurd (some root)
  | inr begins ↦ has_from_begins visits (take k node) (inr (take_begins k node visits begins))
]

not_empty : {A : Type 0} (xs : List A) → xs ≢ [] → 1 ≤ length xs
not_empty [] some = absurd (some refl)
not_empty (x ∷ xs) some = omega arith

prefix_is_above : (node : List PathStep) → node ≢ [] → is_below (take (length node - 1) node) node ≡ true
prefix_is_above node some =
    let low = not_empty node some in
    let prefix = take (length node - 1) node in
    let short : length prefix ≡ length node - 1 = omega (arith, length-take (length node - 1) node) in
    let long : length node ≡ suc (length prefix) = omega (arith, short, low) in
    ap₂ (λ a b. a && b) (eq-eqb (length node) (suc (length prefix)) long)
    (ap is_eq (ap (λ n. path_cmp (take n node) prefix) short ∙ tied_itself path_total prefix))

pub one_parent : (visits : List Visit) (node : List PathStep) → Contains (nodes visits) node → node ≢ [] → HasOneParent (nodes visits) node
one_parent visits node h some = record {
  parent = take (length node - 1) node;
  stands = contains_from_has (nodes visits) (take (length node - 1) node) (has_prefix_of visits (length node - 1) node some (has_from_contains (nodes visits) node h));
  above = prefix_is_above node some;
  alone = λ other below. parent_is_prefix other node below;
}
