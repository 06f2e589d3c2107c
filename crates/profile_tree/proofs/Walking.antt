-- The walk over all nodes: those listed, and those of which all that is below is still to be listed.
use Rattle.std.proofs.Common.{◌≡◌, ◌≢◌, ℕ, zero, suc, ◌+◌, ◌<◌, ◌≤◌, List, [], ◌∷◌, ◌++◌, length, map, get_or, ◌⊎◌, inl, inr, Less, refl, sym, ap, ap₂, ◌∙◌, subst, arith}
use Rattle.std.specs.Prelude.{slice_index, reverse}
use Rattle.std.specs.List.{Contains}
use Rattle.std.proofs.lemmas.Bool.{cases_eq}
use Rattle.std.proofs.lemmas.List.{append-nil, append_assoc, length-append, length-map, get_or-map, map-append, same_from_push, nil_from_length, reverse-append, reverse-reverse}
use Rattle.std.proofs.lemmas.List.Elements.{Contains-get_or, All-contains}
use Rattle.prof_base.specs.Ordered.{Rises}
use Rattle.prof_base.specs.Prefix.{IsPrefix}
use Rattle.prof_base.proofs.Ordered.{Has, has_from_contains, contains_from_has, after_has}
use Rattle.code_event.specs.Tree.{path_step_cmp, path_cmp}
use Rattle.code_event.specs.declared.path.PathStep.{PathStep}
use Rattle.code_event.proofs.TreeIds.{step_total, path_total}
use Rattle.code_event.proofs.TreePaths.{exact_path}
use Rattle.profile_tree.specs.Node.{LinkedNode}
use Rattle.profile_tree.specs.Arena.{node_at}
use Rattle.profile_tree.specs.Linked.{path_at, paths_of, Linked}
use Rattle.profile_tree.specs.Walk.{IsPreorder}
use Rattle.profile_tree.proofs.PathsAfter.{length-paths_of}
use Rattle.profile_tree.proofs.PathSteps.{slice_cmp-push}
use Rattle.profile_tree.proofs.RisingLists.{not_below_itself, has_append, append_has_left, append_has_right, mapped_has, has_mapped, rises_fit, rises_push, rises_at}
use Rattle.profile_tree.proofs.ApartPaths.{IsApart, apart_longer, apart_siblings, apart_less, prefix_less, AreApart, apart_append}
use Rattle.profile_tree.proofs.WayDown.{prefix_longer, prefix_whole}

-- a list that is not empty ends with an element
ends_with : {A : Type 0} (xs : List A) → 0 < length xs → (front : List A) × (x : A) × (xs ≡ front ++ x ∷ [])
ends_with [] some = absurd (omega arith)
ends_with (x ∷ []) some = ([], x, refl)
ends_with (x ∷ y ∷ ys) some = let rest = ends_with (y ∷ ys) (omega arith) in (x ∷ rest.0, rest.1, ap (λ l. x ∷ l) rest.2)

-- the nodes listed so far and the nodes that come next, first to last
pub record Walked (nodes : List LinkedNode) (order pending : List ℕ) : Type 0 where
  pub order_in : (key : ℕ) → Has order key → key < length nodes
  pub pending_in : (key : ℕ) → Has pending key → key < length nodes
  pub rises : Rises path_cmp (map (path_at (paths_of nodes)) order)
  pub ahead : (key next : ℕ) → Has order key → Has pending next → path_cmp (path_at (paths_of nodes) key) (path_at (paths_of nodes) next) ≡ Less
  pub apart : AreApart path_step_cmp (path_at (paths_of nodes)) pending
  pub covered : (key : ℕ) → key < length nodes → Has order key ⊎ ((next : ℕ) × Has pending next × IsPrefix (path_at (paths_of nodes) next) (path_at (paths_of nodes) key))

-- an order has no more keys than there are nodes
pub order_long : (nodes : List LinkedNode) (order : List ℕ) → ((key : ℕ) → Has order key → key < length nodes) → Rises path_cmp (map (path_at (paths_of nodes)) order) → length order ≤ length nodes
order_long nodes order within rises =
    let paths = paths_of nodes in
    let fit = rises_fit path_cmp path_total exact_path (map (path_at paths) order) paths rises
    (λ p has.
    let one = mapped_has (path_at paths) order p has in
    let low : one.0 < length paths = omega (arith, within one.0 one.1, length-paths_of nodes) in
    subst (Has paths) one.2 (has_from_contains paths (path_at paths one.0) (Contains-get_or paths one.0 [] low))) in
    omega (arith, fit, length-map order (path_at paths), length-paths_of nodes)

pub preorder_long : (nodes : List LinkedNode) (order : List ℕ) → IsPreorder nodes order → length order ≤ length nodes
preorder_long nodes order is = order_long nodes order (λ key has. All-contains (λ k. k < length nodes) order key is.within (contains_from_has order key has)) is.rises

module _ (nodes : List LinkedNode) (linked : Linked nodes) where
  abbrev path : ℕ → List PathStep
  path key = path_at (paths_of nodes) key

  abbrev below : ℕ → List ℕ
  below key = (node_at nodes key).children

  child_path : (key child : ℕ) → key < length nodes → Has (below key) child → (child < length nodes) × (s : PathStep) × (path child ≡ path key ++ s ∷ [])
  child_path key child low has =
      let is = linked.children key child low (contains_from_has (below key) child has) in
      let placed = linked.placed child is.later is.within in
      (is.within, placed.step, placed.path ∙ ap (λ p. path p ++ placed.step ∷ []) is.under)

  -- a child on the way to a node below
  child_towards : (n key node : ℕ) (rest : List PathStep) → length rest ≤ n → 0 < length rest → key < length nodes → node < length nodes → path node ≡ path key ++ rest
      → (child : ℕ) × Has (below key) child × IsPrefix (path child) (path node)
  child_towards zero key node rest short some low within e = absurd (omega arith)
  child_towards (suc n) key node rest short some low within e =
      let ends = ends_with rest some in
      let front = ends.0 in
      let long : length rest ≡ length front + 1 = ap length ends.2 ∙ length-append front (ends.1 ∷ []) in
      elim (cases_eq node 0) [
        | inl root ↦
            let empty : length (path key ++ rest) ≡ 0 = ap length (sym e ∙ ap path root ∙ linked.root) in
            absurd (omega (arith, empty, length-append (path key) rest, some))
        | inr inner ↦
            let placed = linked.placed node (omega arith) within in
            let parent = (node_at nodes node).parent in
            let both = same_from_push (path parent) (path key ++ front) placed.step ends.1
            (sym placed.path ∙ e ∙ ap (λ l. path key ++ l) ends.2 ∙ sym (append_assoc (path key) front (ends.1 ∷ []))) in
            elim (cases_eq (length front) 0) [
              | inl none ↦
                  let same : parent ≡ key = linked.distinct parent key placed.parent_in low (both.0 ∙ ap (λ l. path key ++ l) (nil_from_length front none) ∙ append-nil (path key)) in
                  (node, has_from_contains (below key) node (subst (λ p. Contains (below p) node) same placed.listed), prefix_whole (path node) (path node) refl)
              | inr more ↦
                  let found = child_towards n key parent front (omega (arith, long)) (omega (arith, more)) low placed.parent_in both.0 in
                  (found.0, found.1, subst (IsPrefix (path found.0)) (sym placed.path) (prefix_longer (path found.0) (path parent) (placed.step ∷ []) found.2))
            ]
      ]

  pub walk_starts : Walked nodes [] (0 ∷ [])
  walk_starts = record {
    order_in = λ key h. absurd h;
    pending_in = λ key h. elim h [ inl same ↦ subst (λ k. k < length nodes) same linked.some | inr none ↦ absurd none ];
    rises = tt;
    ahead = λ key next h g. absurd h;
    apart = (λ other h. absurd h, tt);
    covered = λ key low. inr (0, inl refl, (path key, ap (λ l. l ++ path key) (sym linked.root)));
  }

  apart_children : (key : ℕ) (keys : List ℕ) → ((child : ℕ) → Has keys child → (s : PathStep) × (path child ≡ path key ++ s ∷ [])) → Rises path_cmp (map path keys) → AreApart path_step_cmp path keys
  apart_children key [] steps rises = tt
  apart_children key (child ∷ children) steps rises =
      let one = steps child (inl refl) in (
        λ other has.
            let two = steps other (inr has) in
            let less : path_cmp (path child) (path other) ≡ Less = after_has path_cmp (path child) (path other) (map path children) rises.0 (has_mapped path children other has) in
            let by_step : path_step_cmp one.0 two.0 ≡ Less = sym (slice_cmp-push path_step_cmp step_total (path key) one.0 two.0) ∙ ap₂ path_cmp (sym one.1) (sym two.1) ∙ less in
            subst (λ p. IsApart path_step_cmp p (path other)) (sym one.1)
            (subst (IsApart path_step_cmp (path key ++ one.0 ∷ [])) (sym two.1) (apart_siblings path_step_cmp (path key) one.0 two.0 by_step)),
        apart_children key children (λ c has. steps c (inr has)) rises.1,
      )

  module _ (order rest : List ℕ) (key : ℕ) (walked : Walked nodes order (key ∷ rest)) where
    low : key < length nodes
    low = walked.pending_in key (inl refl)

    child_after : (child : ℕ) → Has (below key) child → path_cmp (path key) (path child) ≡ Less
    child_after child has =
        let found = child_path key child low has in
        ap (path_cmp (path key)) found.2 ∙ prefix_less path_step_cmp step_total (path key) found.1 []

    key_before : (next : ℕ) → Has (below key ++ rest) next → path_cmp (path key) (path next) ≡ Less
    key_before next has = elim (has_append (below key) rest next has) [
      | inl child ↦ child_after next child
      | inr later ↦ apart_less path_step_cmp step_total (path key) (path next) (walked.apart.0 next later)
    ]

    listed_before : (one next : ℕ) → Has order one → Has (below key ++ rest) next → path_cmp (path one) (path next) ≡ Less
    listed_before one next listed has = path_total.trans (path one) (path key) (path next) (walked.ahead one key listed (inl refl)) (key_before next has)

    next_in : (next : ℕ) → Has (below key ++ rest) next → next < length nodes
    next_in next has = elim (has_append (below key) rest next has) [
      | inl child ↦ (child_path key next low child).0
      | inr later ↦ walked.pending_in next (inr later)
    ]

    across : (child next : ℕ) → Has (below key) child → Has rest next → IsApart path_step_cmp (path child) (path next)
    across child next has later =
        let found = child_path key child low has in
        subst (λ p. IsApart path_step_cmp p (path next)) (sym found.2) (apart_longer path_step_cmp (path key) (path next) (found.1 ∷ []) (walked.apart.0 next later))

    still_covered : (node : ℕ) → node < length nodes → Has (order ++ key ∷ []) node ⊎ ((next : ℕ) × Has (below key ++ rest) next × IsPrefix (path next) (path node))
    still_covered node within = elim (walked.covered node within) [
      | inl listed ↦ inl (append_has_left order (key ∷ []) node listed)
      | inr found ↦ elim found.1 [
        | inr later ↦ inr (found.0, append_has_right (below key) rest found.0 later, found.2)
        | inl same ↦
            let part : IsPrefix (path key) (path node) = subst (λ k. IsPrefix (path k) (path node)) (sym same) found.2 in
            elim (cases_eq (length part.0) 0) [
              | inl none ↦
                  let itself : node ≡ key = linked.distinct node key within low (part.1 ∙ ap (λ l. path key ++ l) (nil_from_length part.0 none) ∙ append-nil (path key)) in
                  inl (append_has_right order (key ∷ []) node (inl (sym itself)))
              | inr some ↦
                  let towards = child_towards (length part.0) key node part.0 (omega arith) (omega (arith, some)) low within part.1 in
                  inr (towards.0, append_has_left (below key) rest towards.0 towards.1, towards.2)
            ]
      ]
    ]

    pub walks_on : Walked nodes (order ++ key ∷ []) (below key ++ rest)
    walks_on = record {
      order_in = λ one has. elim (has_append order (key ∷ []) one has) [
        | inl listed ↦ walked.order_in one listed
        | inr last ↦ elim last [ inl same ↦ subst (λ k. k < length nodes) same low | inr none ↦ absurd none ]
      ];
      pending_in = next_in;
      rises =
          subst (Rises path_cmp) (sym (map-append path order (key ∷ [])))
          (rises_push path_cmp path_total (map path order) (path key) walked.rises
          (λ p has. let one = mapped_has path order p has in ap (λ q. path_cmp q (path key)) (sym one.2) ∙ walked.ahead one.0 key one.1 (inl refl)));
      ahead = λ one next has later. elim (has_append order (key ∷ []) one has) [
        | inl listed ↦ listed_before one next listed later
        | inr last ↦ elim last [ inl same ↦ subst (λ k. path_cmp (path k) (path next) ≡ Less) same (key_before next later) | inr none ↦ absurd none ]
      ];
      apart = apart_append path_step_cmp path (below key) rest
          (apart_children key (below key) (λ child has. let found = child_path key child low has in (found.1, found.2)) (linked.rises key low)) walked.apart.1 across;
      covered = still_covered;
    }

  pub walked_long : (order pending : List ℕ) → Walked nodes order pending → length order ≤ length nodes
  walked_long order pending walked = order_long nodes order walked.order_in walked.rises

  pub walk_ends : (order : List ℕ) → Walked nodes order [] → IsPreorder nodes order
  walk_ends order walked = record {
    within = λ k d low. walked.order_in (get_or order k d) (has_from_contains order (get_or order k d) (Contains-get_or order k d low));
    whole = λ key low. elim (walked.covered key low) [ inl listed ↦ contains_from_has order key listed | inr found ↦ absurd found.1 ];
    rises = walked.rises;
  }

-- no key is twice in an order
pub distinct_order : (nodes : List LinkedNode) (order : List ℕ) → IsPreorder nodes order → (i j : ℕ) → i < j → j < length order → slice_index order i ≢ slice_index order j
distinct_order nodes order is i j less within e =
    let paths = map (path_at (paths_of nodes)) order in
    let at : (k : ℕ) → k < length order → get_or paths k [] ≡ path_at (paths_of nodes) (slice_index order k) = (λ k low. get_or-map (path_at (paths_of nodes)) order k 0 [] low) in
    let below = rises_at path_cmp path_total paths i j [] is.rises less (omega (arith, within, length-map order (path_at (paths_of nodes)))) in
    not_below_itself path_cmp path_total (get_or paths i [])
    (subst (λ p. path_cmp (get_or paths i []) p ≡ Less) (at j within ∙ sym (ap (path_at (paths_of nodes)) e) ∙ sym (at i (omega (arith, less, within)))) below)

-- the top of a stack, turned
pub turned_pop : {A : Type 0} (old new : List A) (top : A) → old ≡ new ++ top ∷ [] → reverse old ≡ top ∷ reverse new
turned_pop old new top e = ap reverse e ∙ reverse-append new (top ∷ [])

pub turned_push : {A : Type 0} (old new keys : List A) → new ≡ old ++ reverse keys → reverse new ≡ keys ++ reverse old
turned_push old new keys e = ap reverse e ∙ reverse-append old (reverse keys) ∙ ap (λ l. l ++ reverse old) (reverse-reverse keys)
