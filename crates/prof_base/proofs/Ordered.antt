-- Sorted insertion: what it keeps, how a search finds its place, and the places of a rising list.
use Rattle.std.proofs.Common.{◌≡◌, ℕ, zero, suc, ◌+◌, ◌<◌, ◌≤◌, List, [], ◌∷◌, ◌++◌, length, map, get_or, cond, Bool, true, false, ◌||◌, ◌⊎◌, inl, inr, Ordering, Less, Equal, Greater, is_lt, is_eq, refl, sym, ap, ap₂, ◌∙◌, arith, one-add}
use Rattle.std.specs.Prelude.{None, Some, nat_lt}
use Rattle.std.specs.List.{Contains, insert, position, position_or_len}
use Rattle.std.specs.Ordering.{ordering_reverse}
use Rattle.std.specs.Cmp.{IsTotalOrder}
use Rattle.std.proofs.lemmas.Bool.{cond_both, or_parts, both_ways}
use Rattle.std.proofs.lemmas.Bool.Decides.{nat_tests}
use Rattle.std.proofs.lemmas.Cmp.{tied_itself}
use Rattle.std.proofs.lemmas.Map.Lookups.{CmpEqualImpliesEq}
use Rattle.std.proofs.lemmas.Option.{none-some}
use Rattle.std.proofs.lemmas.List.Quantifiers.{position-Some}
use Rattle.std.proofs.lemmas.List.Sums.{sum_by-cons, count_by-le-length, fails_before_first}
use Rattle.prof_base.specs.Ordered.{insert_sorted, stops, AllAfter, Rises, before, place, numbers_from}

-- a claim about one of three lists, which a comparison chooses
by_order : {K : Type 0} (P : List K → Type 0) (r : Ordering) (a b c : List K) → (r ≡ Less → P a) → (r ≡ Equal → P b) → (r ≡ Greater → P c) → P (cond (is_lt r) a (cond (is_eq r) b c))
by_order P Less a b c p q s = p refl
by_order P Equal a b c p q s = q refl
by_order P Greater a b c p q s = s refl

-- an element is in a list, by recursion
abbrev pub Has : {K : Type 0} → List K → K → Type 0
Has [] x = ⊥
Has (y ∷ ys) x = (y ≡ x) ⊎ Has ys x

has_at : {K : Type 0} (xs : List K) (k : ℕ) (x : K) → k < length xs → get_or xs k x ≡ x → Has xs x
has_at [] k x lt e = absurd (omega arith)
has_at (y ∷ ys) zero x lt e = inl e
has_at (y ∷ ys) (suc k) x lt e = inr (has_at ys k x (omega arith) e)

pub has_from_contains : {K : Type 0} (xs : List K) (x : K) → Contains xs x → Has xs x
has_from_contains xs x h = has_at xs h.0 x h.1 h.2

pub contains_from_has : {K : Type 0} (xs : List K) (x : K) → Has xs x → Contains xs x
contains_from_has [] x h = absurd h
contains_from_has (y ∷ ys) x (inl e) = (0, omega arith, e)
contains_from_has (y ∷ ys) x (inr h) = let rest = contains_from_has ys x h in (suc rest.0, omega (arith, rest.1), rest.2)

map_suc_numbers : (start count : ℕ) → map (λ n. suc n) (numbers_from start count) ≡ numbers_from (suc start) count
map_suc_numbers start zero = refl
map_suc_numbers start (suc count) = ap (λ l. suc start ∷ l) (map_suc_numbers (suc start) count)

-- ---- how a search finds the place

is_eq-excludes : (o : Ordering) → is_eq o ≡ true → is_lt o ≡ false
is_eq-excludes Less h = absurd (cc)
is_eq-excludes Equal h = refl
is_eq-excludes Greater h = refl

or-left : (a b : Bool) → (a || b) ≡ true → b ≡ false → a ≡ true
or-left true b h e = refl
or-left false b h e = absurd (both_ways b e h)

past_all : (n m : ℕ) → cond (nat_lt n m) (Some n) None ≡ None → m ≤ n
past_all n m e = cond_both (nat_lt n m) (Some n) None (λ r. r ≡ None → m ≤ n) (λ t found. absurd (none-some n (sym found))) (λ f none. grind (arith, nat_tests, f)) e

pub position-None : {X : Type 0} (p : X → Bool) (xs : List X) (d : X) → position p xs ≡ None → (k : ℕ) → k < length xs → p (get_or xs k d) ≡ false
position-None p xs d e k h = fails_before_first p xs k d (omega (arith, past_all (position_or_len p xs) (length xs) e))

module _ {K : Type 0} (R : K → K → Ordering) where
  passed : (x y : K) → stops R x y ≡ false → (is_lt (R x y) ≡ false) × (is_eq (R x y) ≡ false)
  passed x y e = or_parts (is_lt (R x y)) (is_eq (R x y)) e

  same_at : (x : K) (ys : List K) (i : ℕ) (d : K) → i < length ys → is_eq (R x (get_or ys i d)) ≡ true → ((k : ℕ) → k < i → stops R x (get_or ys k d) ≡ false) → insert_sorted R x ys ≡ ys
  same_at x [] i d h s f = absurd (omega arith)
  same_at x (y ∷ ys) zero d h s f = rw (is_eq-excludes (R x y) s, s) refl
  same_at x (y ∷ ys) (suc i) d h s f =
      let no = passed x y (f 0 (omega arith)) in
      rw (no.0, no.1) (ap (λ zs. y ∷ zs) (same_at x ys i d (omega arith) s (λ k l. f (suc k) (omega arith))))

  inserted_at : (x : K) (ys : List K) (i : ℕ) (d : K) → i < length ys → is_lt (R x (get_or ys i d)) ≡ true → ((k : ℕ) → k < i → stops R x (get_or ys k d) ≡ false) → insert_sorted R x ys ≡ insert ys i x
  inserted_at x [] i d h b f = absurd (omega arith)
  inserted_at x (y ∷ ys) zero d h b f = rw b refl
  inserted_at x (y ∷ ys) (suc i) d h b f =
      let no = passed x y (f 0 (omega arith)) in
      rw (no.0, no.1) (ap (λ zs. y ∷ zs) (inserted_at x ys i d (omega arith) b (λ k l. f (suc k) (omega arith))))

  last_of : (x : K) (ys : List K) (d : K) → ((k : ℕ) → k < length ys → stops R x (get_or ys k d) ≡ false) → insert_sorted R x ys ≡ ys ++ x ∷ []
  last_of x [] d f = refl
  last_of x (y ∷ ys) d f =
      let no = passed x y (f 0 (omega arith)) in
      rw (no.0, no.1) (ap (λ zs. y ∷ zs) (last_of x ys d (λ k l. f (suc k) (omega arith))))

  -- the search ends at an equal element
  pub insert_sorted-same : (x : K) (ys : List K) (i : ℕ) (d : K) → position (stops R x) ys ≡ Some i → is_eq (R x (get_or ys i d)) ≡ true → insert_sorted R x ys ≡ ys
  insert_sorted-same x ys i d e s =
      let found = position-Some (stops R x) ys i d e in
      same_at x ys i d found.0 s found.2

  -- the search ends at a greater element
  pub insert_sorted-insert : (x : K) (ys : List K) (i : ℕ) (d : K) → position (stops R x) ys ≡ Some i → is_eq (R x (get_or ys i d)) ≡ false → insert_sorted R x ys ≡ insert ys i x
  insert_sorted-insert x ys i d e s =
      let found = position-Some (stops R x) ys i d e in
      inserted_at x ys i d found.0 (or-left (is_lt (R x (get_or ys i d))) (is_eq (R x (get_or ys i d))) found.1 s) found.2

  -- the search finds no place
  pub insert_sorted-last : (x : K) (ys : List K) (d : K) → position (stops R x) ys ≡ None → insert_sorted R x ys ≡ ys ++ x ∷ []
  insert_sorted-last x ys d e = last_of x ys d (position-None (stops R x) ys d e)

  -- ---- what the list has afterwards

  -- an element of a list whose elements are all greater than x is greater than x
  pub after_has : (x p : K) (ys : List K) → AllAfter R x ys → Has ys p → R x p ≡ Less
  after_has x p [] all h = absurd h
  after_has x p (y ∷ ys) all (inl e) = ap (λ z. R x z) (sym e) ∙ all.0
  after_has x p (y ∷ ys) all (inr h) = after_has x p ys all.1 h

  -- each element was inserted or was there before
  pub has_put : (x z : K) (ys : List K) → Has (insert_sorted R x ys) z → (x ≡ z) ⊎ Has ys z
  has_put x z [] h = h
  has_put x z (y ∷ ys) h =
      by_order (λ l. Has l z → (x ≡ z) ⊎ Has (y ∷ ys) z) (R x y) (x ∷ y ∷ ys) (y ∷ ys) (y ∷ insert_sorted R x ys)
      (λ e h. h)
      (λ e h. inr h)
      (λ e h. elim h [ inl same ↦ inr (inl same) | inr more ↦ elim (has_put x z ys more) [ inl same ↦ inl same | inr old ↦ inr (inr old) ] ])
      h

  -- an element that was there is still there
  pub put_keeps : (x z : K) (ys : List K) → Has ys z → Has (insert_sorted R x ys) z
  put_keeps x z [] h = absurd h
  put_keeps x z (y ∷ ys) h =
      by_order (λ l. Has l z) (R x y) (x ∷ y ∷ ys) (y ∷ ys) (y ∷ insert_sorted R x ys)
      (λ e. inr h)
      (λ e. h)
      (λ e. elim h [ inl same ↦ inl same | inr more ↦ inr (put_keeps x z ys more) ])

  -- the inserted element is there
  pub put_has : CmpEqualImpliesEq R → (x : K) (ys : List K) → Has (insert_sorted R x ys) x
  put_has exact x [] = inl refl
  put_has exact x (y ∷ ys) =
      by_order (λ l. Has l x) (R x y) (x ∷ y ∷ ys) (y ∷ ys) (y ∷ insert_sorted R x ys)
      (λ e. inl refl)
      (λ e. inl (sym (exact x y e)))
      (λ e. inr (put_has exact x ys))

  -- ---- places

  -- what an element adds to a count of those that are less
  abbrev counted : Ordering → ℕ
  counted r = cond (is_lt r) 1 0

  before-cons : (x y : K) (ys : List K) → before R x (y ∷ ys) ≡ counted (R y x) + before R x ys
  before-cons x y ys = sum_by-cons (λ y. cond (is_lt (R y x)) 1 0) y ys

  one_more : (x z : K) (ys : List K) → R x z ≡ Less → before R z (x ∷ ys) ≡ suc (before R z ys)
  one_more x z ys e = before-cons z x ys ∙ ap (λ r. counted r + before R z ys) e ∙ one-add (before R z ys)

  shifted : (x : K) (ys zs : List K) → AllAfter R x zs → map (place R (x ∷ ys)) zs ≡ map (λ n. suc n) (map (place R ys) zs)
  shifted x ys [] h = refl
  shifted x ys (z ∷ zs) h = ap₂ (λ a l. a ∷ l) (ap (λ n. suc n) (one_more x z ys h.0)) (shifted x ys zs h.1)

  module _ (o : IsTotalOrder R) where
    turned : (x y : K) → R x y ≡ Greater → R y x ≡ Less
    turned x y e = o.antisymm y x ∙ ap ordering_reverse e

    after_later : (w x : K) (ys : List K) → R w x ≡ Less → AllAfter R x ys → AllAfter R w ys
    after_later w x [] e h = tt
    after_later w x (y ∷ ys) e h = (o.trans w x y e h.0, after_later w x ys e h.1)

    pub after_put : (w x : K) (ys : List K) → R w x ≡ Less → AllAfter R w ys → AllAfter R w (insert_sorted R x ys)
    after_put w x [] e h = (e, tt)
    after_put w x (y ∷ ys) e h =
        by_order (AllAfter R w) (R x y) (x ∷ y ∷ ys) (y ∷ ys) (y ∷ insert_sorted R x ys)
        (λ l. (e, h))
        (λ l. h)
        (λ l. (h.0, after_put w x ys e h.1))

    pub put_rises : (x : K) (ys : List K) → Rises R ys → Rises R (insert_sorted R x ys)
    put_rises x [] h = (tt, tt)
    put_rises x (y ∷ ys) h =
        by_order (Rises R) (R x y) (x ∷ y ∷ ys) (y ∷ ys) (y ∷ insert_sorted R x ys)
        (λ e. ((e, after_later x y ys e h.0), h))
        (λ e. h)
        (λ e. (after_put y x ys (turned x y e) h.0, put_rises x ys h.1))

    none_before : (x : K) (ys : List K) → AllAfter R x ys → before R x ys ≡ 0
    none_before x [] h = refl
    none_before x (y ∷ ys) h = before-cons x y ys ∙ ap₂ (λ r n. counted r + n) (o.antisymm y x ∙ ap ordering_reverse h.0) (none_before x ys h.1)

    none_before_first : (x : K) (ys : List K) → AllAfter R x ys → before R x (x ∷ ys) ≡ 0
    none_before_first x ys h = before-cons x x ys ∙ ap₂ (λ r n. counted r + n) (tied_itself o x) (none_before x ys h)

    -- the places of a rising list are 1, 2 and so on
    pub places_number : (xs : List K) → Rises R xs → map (place R xs) xs ≡ numbers_from 1 (length xs)
    places_number [] h = refl
    places_number (x ∷ ys) h =
        ap₂ (λ a l. a ∷ l) (ap (λ n. suc n) (none_before_first x ys h.0))
        (shifted x ys ys h.0 ∙ ap (λ l. map (λ n. suc n) l) (places_number ys h.1) ∙ map_suc_numbers 1 (length ys))

    counts : (y p n : K) (r : Ordering) → R y p ≡ r → R p n ≡ Less → counted r ≤ counted (R y n)
    counts y p n Less q e = omega (arith, ap counted (o.trans y p n q e))
    counts y p n Equal q e = omega arith
    counts y p n Greater q e = omega arith

    before_grows : (p n : K) (xs : List K) → R p n ≡ Less → before R p xs ≤ before R n xs
    before_grows p n [] e = omega arith
    before_grows p n (y ∷ ys) e = omega (arith, before-cons p y ys, before-cons n y ys, counts y p n (R y p) refl e, before_grows p n ys e)

    -- more elements are less than a greater one
    pub before_less : (p n : K) (xs : List K) → R p n ≡ Less → Has xs p → before R p xs < before R n xs
    before_less p n [] e h = absurd h
    before_less p n (y ∷ ys) e (inl same) =
        omega (
          arith,
          before-cons p y ys,
          before-cons n y ys,
          ap counted (ap (λ z. R z p) same ∙ tied_itself o p),
          ap counted (ap (λ z. R z n) same ∙ e),
          before_grows p n ys e,
        )
    before_less p n (y ∷ ys) e (inr h) = omega (arith, before-cons p y ys, before-cons n y ys, counts y p n (R y p) refl e, before_less p n ys e h)

    counted_one : (r : Ordering) → counted r ≤ 1
    counted_one Less = omega arith
    counted_one Equal = omega arith
    counted_one Greater = omega arith

    -- not all elements are less than one of them
    pub before_within : (p : K) (xs : List K) → Has xs p → before R p xs < length xs
    before_within p [] h = absurd h
    before_within p (y ∷ ys) (inl same) =
        omega (
          arith,
          before-cons p y ys,
          ap counted (ap (λ z. R z p) same ∙ tied_itself o p),
          count_by-le-length (λ z. is_lt (R z p)) ys,
        )
    before_within p (y ∷ ys) (inr h) = omega (arith, before-cons p y ys, counted_one (R y p), before_within p ys h)
