-- The children of all nodes together: each node but the root, once.
use Rattle.std.proofs.Common.{◌≡◌, ◌≢◌, suc, ◌-◌, List, [], ◌∷◌, ◌++◌, length, map, cond, not, ◌&&◌, take, drop, ne_eqb, inl, inr, Bool, true, false, true≢false, Some, Ordering, Less, is_lt, refl, sym, ap, ap₂, ◌∙◌, subst, arith}
use Rattle.std.specs.Prelude.{IsPermutation, flat_map, filter}
use Rattle.std.specs.List.{slice_get}
use Rattle.std.specs.Cmp.{IsTotalOrder}
use Rattle.std.proofs.lemmas.Bool.{both_ways, not-true, not_from_false, false_from_ne_true}
use Rattle.std.proofs.lemmas.Cmp.{tied_itself}
use Rattle.std.proofs.lemmas.List.{map-append}
use Rattle.std.proofs.lemmas.List.Folds.{flat_map-map}
use Rattle.std.proofs.lemmas.List.Sorted.{IsPermutation-refl, IsPermutation-sym, IsPermutation-trans, IsPermutation-append_right, IsPermutation-filter_both, IsPermutation-map}
use Rattle.code_event.specs.DeoptReasons.{DeoptReasons}
use Rattle.code_event.specs.Tree.{path_cmp, nodes, id_of, is_below, same_path, children, fin_node, fin_nodes}
use Rattle.prof_base.specs.Ordered.{Rises, numbers_from}
use Rattle.code_event.specs.declared.path.PathStep.{PathStep}
use Rattle.code_event.specs.declared.visit.Visit.{Visit}
use Rattle.prof_base.proofs.Ordered.{Has, has_from_contains, contains_from_has, after_has, places_number}
use Rattle.code_event.proofs.TreeIds.{path_total, nodes_rise}
use Rattle.code_event.proofs.TreePaths.{parent_is_prefix}
use Rattle.code_event.proofs.TreeNodes.{root_first}
use Rattle.code_event.proofs.TreeParents.{one_parent}

-- functions with equal values
flat_map_same : {A B : Type 0} (f g : A → List B) (xs : List A) → ((x : A) → f x ≡ g x) → flat_map f xs ≡ flat_map g xs
flat_map_same f g xs h = λ i. flat_map (λ x. h x i) xs

flat_map_alike : {A B : Type 0} (f g : A → List B) (xs : List A) → ((x : A) → Has xs x → f x ≡ g x) → flat_map f xs ≡ flat_map g xs
flat_map_alike f g [] h = refl
flat_map_alike f g (x ∷ xs) h = ap₂ (λ a b. a ++ b) (h x (inl refl)) (flat_map_alike f g xs (λ y has. h y (inr has)))

flat_map_mapped : {A B C : Type 0} (f : B → C) (g : A → List B) (xs : List A) → flat_map (λ x. map f (g x)) xs ≡ map f (flat_map g xs)
flat_map_mapped f g [] = refl
flat_map_mapped f g (x ∷ xs) = ap (λ l. map f (g x) ++ l) (flat_map_mapped f g xs) ∙ sym (map-append f (g x) (flat_map g xs))

module _ {K : Type 0} where
  kept_first : (t : K → Bool) (x : K) (fs xs : List K) (a b : Bool) → t x ≡ b → filter t fs ≡ filter t xs → (b ≡ true → a ≡ true) → filter t (cond a (x ∷ fs) fs) ≡ cond b (x ∷ filter t xs) (filter t xs)
  kept_first t x fs xs true b e same h = λ i. cond (e i) (x ∷ same i) (same i)
  kept_first t x fs xs false true e same h = absurd (true≢false (sym (h refl)))
  kept_first t x fs xs false false e same h = same

  -- a test that is stricter than another finds the same in what the other has left
  filter_kept : (s t : K → Bool) (xs : List K) → ((x : K) → Has xs x → t x ≡ true → s x ≡ true) → filter t (filter s xs) ≡ filter t xs
  filter_kept s t [] h = refl
  filter_kept s t (x ∷ xs) h = kept_first t x (filter s xs) xs (s x) (t x) refl (filter_kept s t xs (λ y has. h y (inr has))) (h x (inl refl))

  kept_case : (s : K → Bool) (y x : K) (ys : List K) (b : Bool) → s y ≡ b → (Has (filter s ys) x → Has ys x × (s x ≡ true)) → Has (cond b (y ∷ filter s ys) (filter s ys)) x → Has (y ∷ ys) x × (s x ≡ true)
  kept_case s y x ys true e rest (inl same) = (inl same, ap s (sym same) ∙ e)
  kept_case s y x ys true e rest (inr h) = let both = rest h in (inr both.0, both.1)
  kept_case s y x ys false e rest h = let both = rest h in (inr both.0, both.1)

  kept_has : (s : K → Bool) (xs : List K) (x : K) → Has (filter s xs) x → Has xs x × (s x ≡ true)
  kept_has s [] x h = absurd h
  kept_has s (y ∷ ys) x h = kept_case s y x ys (s y) refl (kept_has s ys x) h

  module _ (R : K → K → Ordering) (o : IsTotalOrder R) (below : K → K → Bool) (only : (p q x : K) → below p x ≡ true → below q x ≡ true → p ≡ q) where
    differs : (p q : K) → R p q ≡ Less → p ≡ q → ⊥
    differs p q less e = true≢false (ap is_lt (sym less ∙ ap (λ z. R p z) (sym e) ∙ tied_itself o p))

    -- elements each of which is below exactly one of some keys, taken together key by key
    parted : (ps : List K) → Rises R ps → (xs : List K) → ((x : K) → Has xs x → (p : K) × Has ps p × (below p x ≡ true)) → IsPermutation (flat_map (λ p. filter (below p) xs) ps) xs
    parted [] rises [] h = IsPermutation-refl []
    parted [] rises (x ∷ xs) h = absurd (h x (inl refl)).1
    parted (p ∷ ps) rises xs h =
        let test : K → Bool = λ x. not (below p x) in
        let others = filter test xs in
        let under = filter (below p) xs in
        let over : (x : K) → Has others x → (q : K) × Has ps q × (below q x ≡ true) = (λ x has.
        let kept = kept_has test xs x has in
        let found = h x kept.0 in
        elim found.1 [
          | inl same ↦ absurd (both_ways (below p x) (not-true (below p x) kept.1) (ap (λ q. below q x) same ∙ found.2))
          | inr more ↦ (found.0, more, found.2)
        ]) in
        let same : flat_map (λ q. filter (below q) others) ps ≡ flat_map (λ q. filter (below q) xs) ps =
        flat_map_alike (λ q. filter (below q) others) (λ q. filter (below q) xs) ps
        (λ q has. filter_kept test (below q) xs (λ x there yes. not_from_false (below p x) (false_from_ne_true (below p x) (λ too. differs p q (after_has R p q ps rises.0 has) (only p q x too yes))))) in
        IsPermutation-trans (under ++ flat_map (λ q. filter (below q) xs) ps) (under ++ others) xs
        (subst (λ l. IsPermutation (under ++ l) (under ++ others)) same
        (IsPermutation-append_right under (flat_map (λ q. filter (below q) others) ps) others (parted ps rises.1 others over)))
        (IsPermutation-sym xs (under ++ others) (IsPermutation-filter_both (below p) test (λ x. refl) xs))

-- ---- the children of a tree's nodes

root_is_no_child : (parent : List PathStep) → is_below parent [] ≡ false
root_is_no_child parent = ap (λ b. b && same_path (take (length parent) []) parent) (ne_eqb 0 (suc (length parent)) (omega arith))

one_above : (p q node : List PathStep) → is_below p node ≡ true → is_below q node ≡ true → p ≡ q
one_above p q node h g = parent_is_prefix p node h ∙ sym (parent_is_prefix q node g)

children_number : (rest : List (List PathStep)) → Rises path_cmp ([] ∷ rest)
    → ((node : List PathStep) → Has rest node → (p : List PathStep) × Has ([] ∷ rest) p × (is_below p node ≡ true))
    → IsPermutation (flat_map (children ([] ∷ rest)) ([] ∷ rest)) (numbers_from 2 (length rest))
children_number rest rises above =
    let all : List (List PathStep) = [] ∷ rest in
    let found = flat_map (λ p. filter (is_below p) rest) all in
    let numbers : map (id_of all) rest ≡ numbers_from 2 (length rest) = ap (λ l. drop 1 l) (places_number path_cmp path_total all rises) in
    let listed : flat_map (children all) all ≡ map (id_of all) found =
    flat_map_same (children all) (λ p. map (id_of all) (filter (is_below p) rest)) all
    (λ p. ap (λ b. map (id_of all) (cond b ([] ∷ filter (is_below p) rest) (filter (is_below p) rest))) (root_is_no_child p))
    ∙ flat_map_mapped (id_of all) (λ p. filter (is_below p) rest) all in
    subst (λ l. IsPermutation l (numbers_from 2 (length rest))) (sym listed)
    (subst (IsPermutation (map (id_of all) found)) numbers (IsPermutation-map (id_of all) found rest (parted path_cmp path_total is_below one_above all rises rest above)))

not_root : (node : List PathStep) → path_cmp [] node ≡ Less → node ≢ []
not_root node less e = true≢false (ap is_lt (sym less ∙ ap (path_cmp []) e))

children_of : (all : List (List PathStep)) → slice_get all 0 ≡ Some [] → Rises path_cmp all
    → ((node : List PathStep) → Has all node → node ≢ [] → (p : List PathStep) × Has all p × (is_below p node ≡ true))
    → IsPermutation (flat_map (children all) all) (numbers_from 2 (length all - 1))
children_of [] first rises above = absurd (cc)
children_of (root ∷ rest) first rises above =
    let Goal : List PathStep → Type 0 = (λ r.
    Rises path_cmp (r ∷ rest) → ((node : List PathStep) → Has (r ∷ rest) node → node ≢ [] → (p : List PathStep) × Has (r ∷ rest) p × (is_below p node ≡ true))
    → IsPermutation (flat_map (children (r ∷ rest)) (r ∷ rest)) (numbers_from 2 (length rest))) in
    let same : root ≡ [] = cc in
    let less : length (root ∷ rest) - 1 ≡ length rest = omega arith in
    subst (λ n. IsPermutation (flat_map (children (root ∷ rest)) (root ∷ rest)) (numbers_from 2 n)) (sym less)
    (subst Goal (sym same) (λ up over. children_number rest up (λ node has. over node (inr has) (not_root node (after_has path_cmp [] node rest up.0 has)))) rises above)

pub children_listed : (visits : List Visit) (reasons : DeoptReasons) → IsPermutation (flat_map (λ node. node.children) (fin_nodes visits reasons)) (numbers_from 2 (length (nodes visits) - 1))
children_listed visits reasons =
    let all = nodes visits in
    subst (λ l. IsPermutation l (numbers_from 2 (length all - 1))) (sym (flat_map-map (λ node. node.children) (fin_node all visits reasons) all))
    (children_of all (root_first visits) (nodes_rise visits)
    (λ node has some.
    let one = one_parent visits node (contains_from_has all node has) some in (one.parent, has_from_contains all one.parent one.stands, one.above)))
