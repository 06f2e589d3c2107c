-- Lists that rise in an order: what is put in at its place, and that two with the same elements are equal.
use Rattle.std.proofs.Common.{◌≡◌, ℕ, zero, suc, ◌+◌, ◌<◌, ◌≤◌, List, [], ◌∷◌, ◌++◌, length, map, get_or, Bool, true≢false, cond, ◌⊎◌, inl, inr, Ordering, Less, Greater, is_lt, is_eq, is_gt, refl, sym, ap, ap₂, ◌∙◌, subst, arith}
use Rattle.std.specs.List.{insert, filter, AllByRecursion}
use Rattle.std.specs.Ordering.{ordering_reverse}
use Rattle.std.specs.Cmp.{IsTotalOrder}
use Rattle.std.proofs.lemmas.Cmp.{tied_itself}
use Rattle.std.proofs.lemmas.Bool.{cond_both}
use Rattle.std.proofs.lemmas.List.Elements.{Contains-get_or}
use Rattle.std.proofs.lemmas.Map.Lookups.{CmpEqualImpliesEq}
use Rattle.prof_base.specs.Ordered.{insert_sorted, AllAfter, Rises}
use Rattle.prof_base.proofs.Ordered.{Has, has_from_contains, after_has, put_has, put_keeps, put_rises}

module _ {K : Type 0} where
  -- an element of a list with one more
  pub has_insert : (ys : List K) (at : ℕ) (x z : K) → Has (insert ys at x) z → (x ≡ z) ⊎ Has ys z
  has_insert ys zero x z h = h
  has_insert [] (suc at) x z h = h
  has_insert (y ∷ ys) (suc at) x z (inl same) = inr (inl same)
  has_insert (y ∷ ys) (suc at) x z (inr h) = elim (has_insert ys at x z h) [ inl same ↦ inl same | inr old ↦ inr (inr old) ]

  pub insert_has : (ys : List K) (at : ℕ) (x : K) → Has (insert ys at x) x
  insert_has ys zero x = inl refl
  insert_has [] (suc at) x = inl refl
  insert_has (y ∷ ys) (suc at) x = inr (insert_has ys at x)

  pub insert_keeps : (ys : List K) (at : ℕ) (x z : K) → Has ys z → Has (insert ys at x) z
  insert_keeps ys zero x z h = inr h
  insert_keeps [] (suc at) x z h = absurd h
  insert_keeps (y ∷ ys) (suc at) x z (inl same) = inl same
  insert_keeps (y ∷ ys) (suc at) x z (inr h) = inr (insert_keeps ys at x z h)

  all_insert : (P : K → Type 0) (ys : List K) (at : ℕ) (x : K) → AllByRecursion P ys → P x → AllByRecursion P (insert ys at x)
  all_insert P ys zero x all here = (here, all)
  all_insert P [] (suc at) x all here = (here, tt)
  all_insert P (y ∷ ys) (suc at) x all here = (all.0, all_insert P ys at x all.1 here)

  pub map-insert : {L : Type 0} (f : K → L) (ys : List K) (at : ℕ) (x : K) → map f (insert ys at x) ≡ insert (map f ys) at (f x)
  map-insert f ys zero x = refl
  map-insert f [] (suc at) x = refl
  map-insert f (y ∷ ys) (suc at) x = ap (λ l. f y ∷ l) (map-insert f ys at x)

  pub map_alike : {L : Type 0} (f g : K → L) (ys : List K) → ((y : K) → Has ys y → f y ≡ g y) → map f ys ≡ map g ys
  map_alike f g [] h = refl
  map_alike f g (y ∷ ys) h = ap₂ (λ a l. a ∷ l) (h y (inl refl)) (map_alike f g ys (λ z has. h z (inr has)))

  pub has_mapped : {L : Type 0} (f : K → L) (ys : List K) (y : K) → Has ys y → Has (map f ys) (f y)
  has_mapped f (x ∷ xs) y (inl same) = inl (ap f same)
  has_mapped f (x ∷ xs) y (inr h) = inr (has_mapped f xs y h)
  has_mapped f [] y h = absurd h

  pub mapped_has : {L : Type 0} (f : K → L) (ys : List K) (z : L) → Has (map f ys) z → (y : K) × Has ys y × (f y ≡ z)
  mapped_has f [] z h = absurd h
  mapped_has f (x ∷ xs) z (inl same) = (x, inl refl, same)
  mapped_has f (x ∷ xs) z (inr h) = let rest = mapped_has f xs z h in (rest.0, inr rest.1, rest.2)

  pub has_append : (xs ys : List K) (z : K) → Has (xs ++ ys) z → Has xs z ⊎ Has ys z
  has_append [] ys z h = inr h
  has_append (x ∷ xs) ys z (inl same) = inl (inl same)
  has_append (x ∷ xs) ys z (inr h) = elim (has_append xs ys z h) [ inl left ↦ inl (inr left) | inr right ↦ inr right ]

  pub append_has_left : (xs ys : List K) (z : K) → Has xs z → Has (xs ++ ys) z
  append_has_left (x ∷ xs) ys z (inl same) = inl same
  append_has_left (x ∷ xs) ys z (inr h) = inr (append_has_left xs ys z h)
  append_has_left [] ys z h = absurd h

  pub append_has_right : (xs ys : List K) (z : K) → Has ys z → Has (xs ++ ys) z
  append_has_right [] ys z h = h
  append_has_right (x ∷ xs) ys z h = inr (append_has_right xs ys z h)

  module _ (R : K → K → Ordering) (o : IsTotalOrder R) where
    pub not_below_itself : (x : K) → R x x ≡ Less → ⊥
    not_below_itself x less = true≢false (ap is_lt (sym less ∙ tied_itself o x))

    pub not_both_below : (x y : K) → R x y ≡ Less → R y x ≡ Less → ⊥
    not_both_below x y one other = true≢false (ap is_lt (sym other ∙ o.antisymm y x ∙ ap ordering_reverse one))

    pub below_turned : (x y : K) → R x y ≡ Greater → R y x ≡ Less
    below_turned x y e = o.antisymm y x ∙ ap ordering_reverse e

    after_later : (w x : K) (ys : List K) → R w x ≡ Less → AllAfter R x ys → AllAfter R w ys
    after_later w x [] e h = tt
    after_later w x (y ∷ ys) e h = (o.trans w x y e h.0, after_later w x ys e h.1)

    -- an element that is after those before its place, and before the one there
    pub insert_rises : (x : K) (ys : List K) (at : ℕ) (d : K) → Rises R ys → at ≤ length ys
        → ((k : ℕ) → k < at → R x (get_or ys k d) ≡ Greater) → (at < length ys → R x (get_or ys at d) ≡ Less) → Rises R (insert ys at x)
    insert_rises x [] zero d rises within before after = (tt, tt)
    insert_rises x [] (suc at) d rises within before after = absurd (omega arith)
    insert_rises x (y ∷ ys) zero d rises within before after = ((after (omega arith), after_later x y ys (after (omega arith)) rises.0), rises)
    insert_rises x (y ∷ ys) (suc at) d rises within before after = (
      all_insert (λ z. R y z ≡ Less) ys at x rises.0 (below_turned x y (before 0 (omega arith))),
      insert_rises x ys at d rises.1 (omega arith) (λ k low. before (suc k) (omega arith)) (λ low. after (omega arith)),
    )

    -- it is not there before
    pub absent_before : (x : K) (ys : List K) (at : ℕ) (d : K) → Rises R ys → at ≤ length ys
        → ((k : ℕ) → k < at → R x (get_or ys k d) ≡ Greater) → (at < length ys → R x (get_or ys at d) ≡ Less) → ¬ Has ys x
    absent_before x [] at d rises within before after h = h
    absent_before x (y ∷ ys) zero d rises within before after (inl same) = not_below_itself x (ap (λ z. R x z) (sym same) ∙ after (omega arith))
    absent_before x (y ∷ ys) zero d rises within before after (inr h) = not_both_below x y (after (omega arith)) (after_has R y x ys rises.0 h)
    absent_before x (y ∷ ys) (suc at) d rises within before after (inl same) =
        true≢false (ap is_gt (sym (ap (λ z. R x z) (sym same) ∙ before 0 (omega arith)) ∙ tied_itself o x))
    absent_before x (y ∷ ys) (suc at) d rises within before after (inr h) =
        absent_before x ys at d rises.1 (omega arith) (λ k low. before (suc k) (omega arith)) (λ low. after (omega arith)) h

    same_first : (x y : K) (xs ys : List K) → Rises R (x ∷ xs) → Rises R (y ∷ ys) → Has (y ∷ ys) x → Has (x ∷ xs) y → x ≡ y
    same_first x y xs ys up over (inl same) back = sym same
    same_first x y xs ys up over (inr there) (inl same) = same
    same_first x y xs ys up over (inr there) (inr back) = absurd (not_both_below x y (after_has R x y xs up.0 back) (after_has R y x ys over.0 there))

    later_only : (x y z : K) (xs ys : List K) → AllAfter R x xs → x ≡ y → Has xs z → Has (y ∷ ys) z → Has ys z
    later_only x y z xs ys after first h (inl same) = absurd (not_below_itself x (subst (λ w. R x w ≡ Less) (sym (first ∙ same)) (after_has R x z xs after h)))
    later_only x y z xs ys after first h (inr there) = there

    -- two rising lists with the same elements
    pub same_rising : (xs ys : List K) → Rises R xs → Rises R ys → ((z : K) → Has xs z → Has ys z) → ((z : K) → Has ys z → Has xs z) → xs ≡ ys
    same_rising [] [] up over there back = refl
    same_rising [] (y ∷ ys) up over there back = absurd (back y (inl refl))
    same_rising (x ∷ xs) [] up over there back = absurd (there x (inl refl))
    same_rising (x ∷ xs) (y ∷ ys) up over there back =
        let first = same_first x y xs ys up over (there x (inl refl)) (back y (inl refl)) in
        ap₂ (λ a l. a ∷ l) first
        (same_rising xs ys up.1 over.1
        (λ z h. later_only x y z xs ys up.0 first h (there z (inr h)))
        (λ z h. later_only y x z ys xs over.0 (sym first) h (back z (inr h))))

    pub filter_after : (p : K → Bool) (x : K) (ys : List K) → AllAfter R x ys → AllAfter R x (filter p ys)
    filter_after p x [] after = tt
    filter_after p x (y ∷ ys) after = cond_both (p y) (y ∷ filter p ys) (filter p ys) (AllAfter R x) (λ e. (after.0, filter_after p x ys after.1)) (λ e. filter_after p x ys after.1)

    pub filter_rises : (p : K → Bool) (ys : List K) → Rises R ys → Rises R (filter p ys)
    filter_rises p [] rises = tt
    filter_rises p (y ∷ ys) rises = cond_both (p y) (y ∷ filter p ys) (filter p ys) (Rises R) (λ e. (filter_after p y ys rises.0, filter_rises p ys rises.1)) (λ e. filter_rises p ys rises.1)

    -- ---- a rising list is no longer than a list that has all its elements

    length-insert_sorted : (x : K) (ys : List K) → length (insert_sorted R x ys) ≤ length ys + 1
    length-insert_sorted x [] = omega arith
    length-insert_sorted x (y ∷ ys) =
        let rest = length-insert_sorted x ys in
        cond_both (is_lt (R x y)) (x ∷ y ∷ ys) (cond (is_eq (R x y)) (y ∷ ys) (y ∷ insert_sorted R x ys)) (λ l. length l ≤ length (y ∷ ys) + 1)
        (λ e. omega arith)
        (λ e. cond_both (is_eq (R x y)) (y ∷ ys) (y ∷ insert_sorted R x ys) (λ l. length l ≤ length (y ∷ ys) + 1) (λ f. omega arith) (λ f. omega (arith, rest)))

    abbrev sorted : List K → List K
    sorted [] = []
    sorted (x ∷ xs) = insert_sorted R x (sorted xs)

    sorted_rises : (xs : List K) → Rises R (sorted xs)
    sorted_rises [] = tt
    sorted_rises (x ∷ xs) = put_rises R o x (sorted xs) (sorted_rises xs)

    sorted_has : CmpEqualImpliesEq R → (xs : List K) (z : K) → Has xs z → Has (sorted xs) z
    sorted_has exact [] z h = h
    sorted_has exact (x ∷ xs) z (inl same) = subst (Has (insert_sorted R x (sorted xs))) same (put_has R exact x (sorted xs))
    sorted_has exact (x ∷ xs) z (inr h) = put_keeps R x z (sorted xs) (sorted_has exact xs z h)

    length-sorted : (xs : List K) → length (sorted xs) ≤ length xs
    length-sorted [] = omega arith
    length-sorted (x ∷ xs) = omega (arith, length-insert_sorted x (sorted xs), length-sorted xs)

    past_first : (x y z : K) (ys : List K) → R y x ≡ Less → R x z ≡ Less → Has (y ∷ ys) z → Has ys z
    past_first x y z ys first later (inl same) = absurd (not_both_below y x first (subst (λ w. R x w ≡ Less) (sym same) later))
    past_first x y z ys first later (inr there) = there

    rises_within : (xs ys : List K) → Rises R xs → Rises R ys → ((z : K) → Has xs z → Has ys z) → length xs ≤ length ys
    rises_within [] ys up over within = omega arith
    rises_within (x ∷ xs) [] up over within = absurd (within x (inl refl))
    rises_within (x ∷ xs) (y ∷ ys) up over within = elim (within x (inl refl)) [
      | inl same ↦ omega (arith, rises_within xs ys up.1 over.1 (λ z h. later_only x y z xs ys up.0 (sym same) h (within z (inr h))))
      | inr there ↦
          let first = after_has R y x ys over.0 there in
          let all : (z : K) → Has (x ∷ xs) z → Has ys z = (λ z h. elim h [
            | inl same ↦ subst (Has ys) same there
            | inr more ↦ past_first x y z ys first (after_has R x z xs up.0 more) (within z (inr more))
          ]) in
          omega (arith, rises_within (x ∷ xs) ys up over.1 all)
    ]

    pub rises_fit : CmpEqualImpliesEq R → (xs ys : List K) → Rises R xs → ((z : K) → Has xs z → Has ys z) → length xs ≤ length ys
    rises_fit exact xs ys up within =
        omega (arith, rises_within xs (sorted ys) up (sorted_rises ys) (λ z h. sorted_has exact ys z (within z h)), length-sorted ys)

    -- ---- one more at the end

    all_push : (x y : K) (xs : List K) → AllAfter R x xs → R x y ≡ Less → AllAfter R x (xs ++ y ∷ [])
    all_push x y [] all e = (e, tt)
    all_push x y (z ∷ zs) all e = (all.0, all_push x y zs all.1 e)

    pub rises_push : (xs : List K) (y : K) → Rises R xs → ((x : K) → Has xs x → R x y ≡ Less) → Rises R (xs ++ y ∷ [])
    rises_push [] y up below = (tt, tt)
    rises_push (x ∷ xs) y up below = (all_push x y xs up.0 (below x (inl refl)), rises_push xs y up.1 (λ z h. below z (inr h)))

    pub rises_at : (xs : List K) (i j : ℕ) (d : K) → Rises R xs → i < j → j < length xs → R (get_or xs i d) (get_or xs j d) ≡ Less
    rises_at [] i j d up low within = absurd (omega arith)
    rises_at (x ∷ xs) i zero d up low within = absurd (omega arith)
    rises_at (x ∷ xs) zero (suc j) d up low within =
        after_has R x (get_or xs j d) xs up.0 (has_from_contains xs (get_or xs j d) (Contains-get_or xs j d (omega arith)))
    rises_at (x ∷ xs) (suc i) (suc j) d up low within = rises_at xs i j d up.1 (omega arith) (omega arith)
