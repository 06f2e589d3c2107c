-- Paths: those that the order does not distinguish are equal; what their prefixes are; and where one is directly above another.
use Rattle.std.proofs.Common.{◌≡◌, suc, ◌-◌, List, [], ◌∷◌, ◌++◌, length, map, take, inl, inr, true, true≢false, eqb, eqb-true, Ordering, Less, Equal, Greater, is_lt, is_gt, is_eq, refl, sym, ap, ap₂, ◌∙◌, subst, arith}
use Rattle.std.specs.Ordering.{ordering_then}
use Rattle.std.specs.Cmp.{IsTotalOrder}
use Rattle.std.specs.Cmp.Lexicographic.{slice_cmp}
use Rattle.std.proofs.lemmas.Bool.{and_parts}
use Rattle.std.proofs.lemmas.Cmp.{tied_back}
use Rattle.std.proofs.lemmas.Map.Lookups.{CmpEqualImpliesEq, exact_unsigned, exact_bytes}
use Rattle.code_event.specs.declared.path.PathStep.{PathStep}
use Rattle.code_event.specs.Tree.{path_step_cmp, path_cmp, prefixes, is_below, same_path}
use Rattle.prof_base.specs.Prefix.{IsPrefix}
use Rattle.prof_base.proofs.Ordered.{Has}
use Rattle.code_event.proofs.TreeIds.{step_total}

both_equal : (a b : Ordering) → ordering_then a b ≡ Equal → (a ≡ Equal) × (b ≡ Equal)
both_equal Less b e = absurd (true≢false (ap is_lt e))
both_equal Equal b e = (refl, e)
both_equal Greater b e = absurd (true≢false (ap is_gt e))

is_equal : (a : Ordering) → is_eq a ≡ true → a ≡ Equal
is_equal Less e = absurd (true≢false (sym e))
is_equal Equal e = refl
is_equal Greater e = absurd (true≢false (sym e))

exact_step : CmpEqualImpliesEq path_step_cmp
exact_step x y e =
    let name = both_equal _ _ e in
    let url = both_equal _ _ name.1 in
    let script = both_equal _ _ url.1 in
    let line = both_equal _ _ script.1 in
    let column = both_equal _ _ line.1 in
    λ i. record {
      entry = record {
        name = exact_bytes x.entry.name y.entry.name name.0 i;
        url = exact_bytes x.entry.url y.entry.url url.0 i;
        script = exact_unsigned x.entry.script y.entry.script script.0 i;
        line = exact_unsigned x.entry.line y.entry.line line.0 i;
        column = exact_unsigned x.entry.column y.entry.column column.0 i;
      };
      call_line = exact_unsigned x.call_line y.call_line column.1 i;
    }

exact_lists : {K : Type 0} (R : K → K → Ordering) → CmpEqualImpliesEq R → CmpEqualImpliesEq (slice_cmp R)
exact_lists R exact [] [] e = refl
exact_lists R exact [] (y ∷ ys) e = absurd (true≢false (ap is_lt e))
exact_lists R exact (x ∷ xs) [] e = absurd (true≢false (ap is_gt e))
exact_lists R exact (x ∷ xs) (y ∷ ys) e = let both = both_equal (R x y) (slice_cmp R xs ys) e in ap₂ (λ z zs. z ∷ zs) (exact x y both.0) (exact_lists R exact xs ys both.1)

pub exact_path : CmpEqualImpliesEq path_cmp
exact_path = exact_lists path_step_cmp exact_step

-- ---- prefixes

has_map : {A B : Type 0} (f : A → B) (xs : List A) (z : B) → Has (map f xs) z → (x : A) × Has xs x × (f x ≡ z)
has_map f [] z h = absurd h
has_map f (x ∷ xs) z (inl same) = (x, inl refl, same)
has_map f (x ∷ xs) z (inr h) = let rest = has_map f xs z h in (rest.0, inr rest.1, rest.2)

map_has : {A B : Type 0} (f : A → B) (xs : List A) (x : A) → Has xs x → Has (map f xs) (f x)
map_has f [] x h = absurd h
map_has f (y ∷ ys) x (inl same) = inl (ap f same)
map_has f (y ∷ ys) x (inr h) = inr (map_has f ys x h)

pub is_prefix_from_has : {A : Type 0} (path part : List A) → Has (prefixes path) part → IsPrefix part path
is_prefix_from_has [] part (inl same) = ([], ap (λ p. p ++ []) same)
is_prefix_from_has [] part (inr h) = absurd h
is_prefix_from_has (x ∷ xs) part (inl same) = (x ∷ xs, ap (λ p. p ++ x ∷ xs) same)
is_prefix_from_has (x ∷ xs) part (inr h) =
    let found = has_map (λ prefix. x ∷ prefix) (prefixes xs) part h in
    let rest = is_prefix_from_has xs found.0 found.1 in
    (rest.0, ap (λ l. x ∷ l) rest.1 ∙ ap (λ p. p ++ rest.0) found.2)

has_prefix : {A : Type 0} (part rest : List A) → Has (prefixes (part ++ rest)) part
has_prefix [] [] = inl refl
has_prefix [] (x ∷ rest) = inl refl
has_prefix (x ∷ part) rest = inr (map_has (λ prefix. x ∷ prefix) (prefixes (part ++ rest)) part (has_prefix part rest))

pub has_from_is_prefix : {A : Type 0} (path part : List A) → IsPrefix part path → Has (prefixes path) part
has_from_is_prefix path part h = subst (λ p. Has (prefixes p) part) (sym h.1) (has_prefix part h.0)

-- ---- directly above

shorter_first : {K : Type 0} (R : K → K → Ordering) → IsTotalOrder R → (parent node : List K) → length node ≡ suc (length parent) → slice_cmp R (take (length parent) node) parent ≡ Equal → slice_cmp R parent node ≡ Less
shorter_first R o [] [] long e = absurd (omega arith)
shorter_first R o [] (y ∷ ys) long e = refl
shorter_first R o (x ∷ xs) [] long e = absurd (omega arith)
shorter_first R o (x ∷ xs) (y ∷ ys) long e =
    let both = both_equal (R y x) (slice_cmp R (take (length xs) ys) xs) e in
    ap₂ ordering_then (tied_back o y x both.0) (shorter_first R o xs ys (omega arith) both.1)

below_parts : (parent node : List PathStep) → is_below parent node ≡ true → (length node ≡ suc (length parent)) × (path_cmp (take (length parent) node) parent ≡ Equal)
below_parts parent node h =
    let both = and_parts (eqb (length node) (suc (length parent))) (same_path (take (length parent) node) parent) h in
    (eqb-true (length node) (suc (length parent)) both.0, is_equal (path_cmp (take (length parent) node) parent) both.1)

pub below_is_after : (parent node : List PathStep) → is_below parent node ≡ true → path_cmp parent node ≡ Less
below_is_after parent node h = let both = below_parts parent node h in shorter_first path_step_cmp step_total parent node both.0 both.1

pub parent_is_prefix : (parent node : List PathStep) → is_below parent node ≡ true → parent ≡ take (length node - 1) node
parent_is_prefix parent node h =
    let both = below_parts parent node h in
    let same : length parent ≡ length node - 1 = omega (arith, both.0) in
    sym (exact_path (take (length parent) node) parent both.1) ∙ ap (λ n. take n node) same
