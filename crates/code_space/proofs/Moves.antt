-- The moves of a compaction, done to ranges in any order.
use Rattle.std.proofs.Common.{◌≡◌, ℕ, ◌+◌, ◌<◌, ◌≤◌, ◌⊎◌, inl, inr, List, [], ◌∷◌, ◌++◌, refl, ap, ◌∙◌, sym, subst, arith}
use Rattle.std.specs.Prelude.{Bool, true, false, not, cond, filter, Some, find, ◌==◌, ◌&&◌, nat_lt}
use Rattle.std.specs.List.{AllByRecursion}
use Rattle.std.specs.Option.{option_map_or}
use Rattle.std.proofs.lemmas.Bool.{cond_both, eqb-true}
use Rattle.std.proofs.lemmas.Bool.Decides.{nat_tests}
use Rattle.std.proofs.lemmas.List.{append_assoc}
use Rattle.prof_base.proofs.Ordered.{Has, has_from_contains, contains_from_has}
use Rattle.code_space.specs.Compaction.{compacted, moves_between}
use Rattle.code_space.specs.Laws.{meets, with_range, after_move, after_moves, MovesCompact}
use Rattle.code_space.specs.Space.{IsCodeRange, AreRising, range_at, without_range}
use Rattle.code_space.specs.declared.range.CodeMove.{CodeMove}
use Rattle.code_space.specs.declared.range.CodeRange.{CodeRange}
use Rattle.code_space.specs.declared.range.TheConstants.{FIRST_ADDRESS}
use Rattle.code_space.proofs.Freeing.{rising_lower}

module _ {X : Type 0} where
  has_left : (xs ys : List X) (x : X) → Has xs x → Has (xs ++ ys) x
  has_left [] ys x h = absurd h
  has_left (y ∷ xs) ys x (inl same) = inl same
  has_left (y ∷ xs) ys x (inr rest) = inr (has_left xs ys x rest)

  has_right : (xs ys : List X) (x : X) → Has ys x → Has (xs ++ ys) x
  has_right [] ys x h = h
  has_right (y ∷ xs) ys x h = inr (has_right xs ys x h)

  has_either : (xs ys : List X) (x : X) → Has (xs ++ ys) x → Has xs x ⊎ Has ys x
  has_either [] ys x h = inr h
  has_either (y ∷ xs) ys x (inl same) = inl (inl same)
  has_either (y ∷ xs) ys x (inr rest) = elim (has_either xs ys x rest) [
    | inl left ↦ inl (inr left)
    | inr right ↦ inr right
  ]

  has_all : (P : X → Type 0) (xs : List X) (x : X) → AllByRecursion P xs → Has xs x → P x
  has_all P [] x all h = absurd h
  has_all P (y ∷ xs) x all (inl same) = subst P same all.0
  has_all P (y ∷ xs) x all (inr rest) = has_all P xs x all.1 rest

  module _ (p : X → Bool) where
    kept_first : (x y : X) (xs : List X) (b : Bool) → p y ≡ b → y ≡ x → p x ≡ true → Has (cond b (y ∷ filter p xs) (filter p xs)) x
    kept_first x y xs true e same passes = inl same
    kept_first x y xs false e same passes = let no : true ≡ false = sym passes ∙ ap p (sym same) ∙ e in absurd (cc)

    kept_later : (x y : X) (xs : List X) (b : Bool) → Has (filter p xs) x → Has (cond b (y ∷ filter p xs) (filter p xs)) x
    kept_later x y xs true h = inr h
    kept_later x y xs false h = h

    has_kept : (xs : List X) (x : X) → Has xs x → p x ≡ true → Has (filter p xs) x
    has_kept [] x h passes = absurd h
    has_kept (y ∷ xs) x (inl same) passes = kept_first x y xs (p y) refl same passes
    has_kept (y ∷ xs) x (inr rest) passes = kept_later x y xs (p y) (has_kept xs x rest passes)

    was_first : (x y : X) (xs : List X) (b : Bool) → p y ≡ b → (Has (filter p xs) x → Has xs x × (p x ≡ true)) → Has (cond b (y ∷ filter p xs) (filter p xs)) x → Has (y ∷ xs) x × (p x ≡ true)
    was_first x y xs true e rest (inl same) = (inl same, ap p (sym same) ∙ e)
    was_first x y xs true e rest (inr h) = let was = rest h in (inr was.0, was.1)
    was_first x y xs false e rest h = let was = rest h in (inr was.0, was.1)

    was_kept : (xs : List X) (x : X) → Has (filter p xs) x → Has xs x × (p x ≡ true)
    was_kept [] x h = absurd h
    was_kept (y ∷ xs) x h = was_first x y xs (p y) refl (was_kept xs x) h

    -- what alone passes is what is found
    found_first : (x y : X) (xs : List X) (b : Bool) → p y ≡ b → p x ≡ true → (p y ≡ true → y ≡ x) → (y ≡ x) ⊎ (find p xs ≡ Some x) → cond b (Some y) (find p xs) ≡ Some x
    found_first x y xs true e passes alone either = ap (λ z. Some z) (alone e)
    found_first x y xs false e passes alone (inl same) = let no : true ≡ false = sym passes ∙ ap p (sym same) ∙ e in absurd (cc)
    found_first x y xs false e passes alone (inr found) = found

    found_alone : (xs : List X) (x : X) → p x ≡ true → ((y : X) → Has xs y → p y ≡ true → y ≡ x) → Has xs x → find p xs ≡ Some x
    found_alone [] x passes alone h = absurd h
    found_alone (y ∷ xs) x passes alone (inl same) = found_first x y xs (p y) refl passes (alone y (inl refl)) (inl same)
    found_alone (y ∷ xs) x passes alone (inr rest) = found_first x y xs (p y) refl passes (alone y (inl refl)) (inr (found_alone xs x passes (λ z h. alone z (inr h)) rest))

-- the same elements
abbrev Same : List CodeRange → List CodeRange → Type 0
Same some others = (x : CodeRange) → (Has some x → Has others x) × (Has others x → Has some x)

-- ranges that rise from an address start there or above
starts_from : (low : ℕ) (ranges : List CodeRange) (x : CodeRange) → AreRising low ranges → Has ranges x → low ≤ x.start
starts_from low [] x rising h = absurd h
starts_from low (range ∷ ranges) x rising (inl same) = subst (λ r. low ≤ r.start) same rising.0
starts_from low (range ∷ ranges) x rising (inr rest) = let from = rising.0 in let later = starts_from (range.start + range.size) ranges x rising.1 rest in omega (arith, from, later)

-- All of these end below an address.
abbrev EndBelow : ℕ → List CodeRange → Type 0
EndBelow low ranges = AllByRecursion (λ range. range.start + range.size ≤ low) ranges

below_more : (low size : ℕ) (ranges : List CodeRange) → EndBelow low ranges → EndBelow (low + size) (ranges ++ record { start = low; size = size } ∷ [])
below_more low size [] below = (omega arith, tt)
below_more low size (range ∷ ranges) below = let ends = below.0 in (omega (arith, ends), below_more low size ranges below.1)

elsewhere_below : (low from : ℕ) (x : CodeRange) → low < from → x.start + x.size ≤ low → not (x.start == from) ≡ true
elsewhere_below low from x past ends = grind (arith, nat_tests)

elsewhere_above : (from size : ℕ) (x : CodeRange) → 1 ≤ size → from + size ≤ x.start → not (x.start == from) ≡ true
elsewhere_above from size x some above = grind (arith, nat_tests)

apart_below : (x_start x_size low size : ℕ) → x_start + x_size ≤ low → not (nat_lt x_start (low + size) && nat_lt low (x_start + x_size)) ≡ true
apart_below x_start x_size low size ends = grind (arith, nat_tests)

apart_above : (x_start x_size low size : ℕ) → low + size ≤ x_start → not (nat_lt x_start (low + size) && nat_lt low (x_start + x_size)) ≡ true
apart_above x_start x_size low size above = grind (arith, nat_tests)

starts_here : (start : ℕ) → (start == start) ≡ true
starts_here start = grind (arith, nat_tests)

not_both : (b : Bool) → b ≡ true → not b ≡ true → ⊥
not_both true is is_not = absurd (cc)
not_both false is is_not = absurd (cc)

-- One range goes down to where all before it end.
module _ (ranges settled rest : List CodeRange) (low : ℕ) (range : CodeRange) (same : Same ranges (settled ++ range ∷ rest)) (below : EndBelow low settled) (past : low < range.start)
    (some : 1 ≤ range.size) (rising : AreRising (range.start + range.size) rest) where
  abbrev new : CodeRange
  new = record { start = low; size = range.size }

  abbrev others : List CodeRange
  others = without_range ranges range.start

  there : Has ranges range
  there = (same range).1 (has_right settled (range ∷ rest) range (inl refl))

  settled_ends : (x : CodeRange) → Has settled x → x.start + x.size ≤ low
  settled_ends x h = has_all (λ r. r.start + r.size ≤ low) settled x below h

  rest_starts : (x : CodeRange) → Has rest x → range.start + range.size ≤ x.start
  rest_starts x h = starts_from (range.start + range.size) rest x rising h

  alone_case : (x : CodeRange) → (x.start == range.start) ≡ true → Has settled x ⊎ Has (range ∷ rest) x → x ≡ range
  alone_case x here (inl h) = absurd (not_both (x.start == range.start) here (elsewhere_below low range.start x past (settled_ends x h)))
  alone_case x here (inr (inl e)) = sym e
  alone_case x here (inr (inr h)) = absurd (not_both (x.start == range.start) here (elsewhere_above range.start range.size x some (rest_starts x h)))

  alone : (x : CodeRange) → Has ranges x → (x.start == range.start) ≡ true → x ≡ range
  alone x h here = alone_case x here (has_either settled (range ∷ rest) x ((same x).0 h))

  found : range_at ranges range.start ≡ Some range
  found = found_alone (λ r. r.start == range.start) ranges range (starts_here range.start) alone there

  after_is : after_move ranges (record { from = range.start; to = low }) ≡ with_range others new
  after_is = ap (λ o. option_map_or (λ r. with_range others (record { start = low; size = r.size })) o ranges) found

  forth_other : (x : CodeRange) → not (x.start == range.start) ≡ true → Has settled x ⊎ Has (range ∷ rest) x → Has ((settled ++ new ∷ []) ++ rest) x
  forth_other x elsewhere (inl h) = has_left (settled ++ new ∷ []) rest x (has_left settled (new ∷ []) x h)
  forth_other x elsewhere (inr (inl e)) = absurd (not_both (x.start == range.start) (ap (λ r. r.start == range.start) (sym e) ∙ starts_here range.start) elsewhere)
  forth_other x elsewhere (inr (inr h)) = has_right (settled ++ new ∷ []) rest x h

  forth_case : (x : CodeRange) → Has (filter (λ r. not (meets r new)) others) x ⊎ Has (new ∷ []) x → Has ((settled ++ new ∷ []) ++ rest) x
  forth_case x (inl h) =
      let other = was_kept (λ r. not (meets r new)) others x h in
      let was = was_kept (λ r. not (r.start == range.start)) ranges x other.0 in
      forth_other x was.1 (has_either settled (range ∷ rest) x ((same x).0 was.0))
  forth_case x (inr h) = has_left (settled ++ new ∷ []) rest x (has_right settled (new ∷ []) x h)

  forth : (x : CodeRange) → Has (with_range others new) x → Has ((settled ++ new ∷ []) ++ rest) x
  forth x h = forth_case x (has_either (filter (λ r. not (meets r new)) others) (new ∷ []) x h)

  stays : (x : CodeRange) → Has ranges x → not (x.start == range.start) ≡ true → not (meets x new) ≡ true → Has (with_range others new) x
  stays x h elsewhere apart =
      has_left (filter (λ r. not (meets r new)) others) (new ∷ []) x
      (has_kept (λ r. not (meets r new)) others x (has_kept (λ r. not (r.start == range.start)) ranges x h elsewhere) apart)

  back_front : (x : CodeRange) → Has settled x ⊎ Has (new ∷ []) x → Has (with_range others new) x
  back_front x (inl h) =
      let ends = settled_ends x h in
      stays x ((same x).1 (has_left settled (range ∷ rest) x h)) (elsewhere_below low range.start x past ends) (apart_below x.start x.size low range.size ends)
  back_front x (inr h) = has_right (filter (λ r. not (meets r new)) others) (new ∷ []) x h

  back_case : (x : CodeRange) → Has (settled ++ new ∷ []) x ⊎ Has rest x → Has (with_range others new) x
  back_case x (inl h) = back_front x (has_either settled (new ∷ []) x h)
  back_case x (inr h) =
      let starts = rest_starts x h in
      stays x ((same x).1 (has_right settled (range ∷ rest) x (inr h))) (elsewhere_above range.start range.size x some starts) (apart_above x.start x.size low range.size (omega (arith, past, starts)))

  back : (x : CodeRange) → Has ((settled ++ new ∷ []) ++ rest) x → Has (with_range others new) x
  back x h = back_case x (has_either (settled ++ new ∷ []) rest x h)

  one_moved : Same (after_move ranges (record { from = range.start; to = low })) ((settled ++ new ∷ []) ++ rest)
  one_moved = subst (λ rs. Same rs ((settled ++ new ∷ []) ++ rest)) (sym after_is) (λ x. (forth x, back x))

all_moved : (ranges settled : List CodeRange) (low : ℕ) (rest : List CodeRange) → AreRising low rest → AllByRecursion IsCodeRange rest → EndBelow low settled → Same ranges (settled ++ rest)
    → Same (after_moves ranges (moves_between rest (compacted low rest))) (settled ++ compacted low rest)
all_moved ranges settled low [] rising each below same = same
all_moved ranges settled low (range ∷ rest) rising each below same =
    let new : CodeRange = record { start = low; size = range.size } in
    let next = low + range.size in
    let moves = moves_between rest (compacted next rest) in
    let move : CodeMove = record { from = range.start; to = low } in
    let above = rising.0 in
    let least = each.0.size.least in
    let later = rising_lower (range.start + range.size) next rest (omega (arith, above)) rising.1 in
    let ends = below_more low range.size settled below in
    cond_both (range.start == low) moves (move ∷ moves) (λ ms. Same (after_moves ranges ms) (settled ++ new ∷ compacted next rest))
    (λ here. let is : range ≡ new = ap (λ start. record { start = start; size = range.size }) (eqb-true range.start low here) in
    subst (Same (after_moves ranges moves)) (append_assoc settled (new ∷ []) (compacted next rest))
    (all_moved ranges (settled ++ new ∷ []) next rest later each.1 ends (subst (Same ranges) (ap (λ r. settled ++ r ∷ rest) is ∙ sym (append_assoc settled (new ∷ []) rest)) same)))
    (λ not_here. let past : low < range.start = grind (arith, nat_tests) in
    subst (Same (after_moves (after_move ranges move) moves)) (append_assoc settled (new ∷ []) (compacted next rest))
    (all_moved (after_move ranges move) (settled ++ new ∷ []) next rest later each.1 ends (one_moved ranges settled rest low range same below past (omega (arith, least)) rising.1)))

pub moves_compact : MovesCompact
moves_compact ranges space is same =
    let moved = all_moved ranges [] FIRST_ADDRESS space is.rising is.each tt
    (λ x. (λ h. has_from_contains space x ((same x).0 (contains_from_has ranges x h)), λ h. has_from_contains ranges x ((same x).1 (contains_from_has space x h)))) in
    let after = after_moves ranges (moves_between space (compacted FIRST_ADDRESS space)) in
    λ x. (
      λ h. contains_from_has (compacted FIRST_ADDRESS space) x ((moved x).0 (has_from_contains after x h)),
      λ h. contains_from_has after x ((moved x).1 (has_from_contains (compacted FIRST_ADDRESS space) x h)),
    )
