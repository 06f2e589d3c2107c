-- Code objects that are slid down one after another: none is lost.
use Rattle.std.proofs.Common.{◌≡◌, ℕ, ◌+◌, ◌*◌, ◌<◌, ◌≤◌, List, [], ◌∷◌, length, map, refl, ap, ap₂, ◌∙◌, sym, subst, arith}
use Rattle.std.proofs.lemmas.Bool.{cond_both, cond-true, cond-false, eqb-true, eqb-false, eq-eqb, ne_eqb, ltb-true, ltb-false, le-ltb}
use Rattle.std.proofs.lemmas.Bool.Decides.{nat_tests}
use Rattle.std.specs.Prelude.{Bool, true, false, not, cond, filter, find, Option, Some, None, option_map, ◌==◌, ◌&&◌, nat_lt}
use Rattle.code_space.specs.Space as Space
use Rattle.code_space.specs.Space.{IsCodeRange, IsSpace}
use Rattle.code_space.specs.declared.range.TheConstants.{FIRST_ADDRESS}
use Rattle.code_objects.specs.Laws.{CompactingKeepsCode}
use Rattle.std.specs.List.{AllByRecursion}
use Rattle.std.specs.Option.{option_map_or}
use Rattle.code_event.proofs.EachElement.{all_filtered, all_pushed}
use Rattle.code_event.specs.Parts.{LayoutParts}
use Rattle.code_event.specs.CodeMap.{meets, with_range, without_range, range_at, range_of, after_event, after_events}
use Rattle.code_event.specs.declared.event.CodeEvent.TheVariants.{Move}
use Rattle.code_event.specs.declared.code_map.Range.{Range}
use Rattle.code_objects.proofs.Finding.{all_but, found_has}
use Rattle.code_objects.proofs.RangesFound.{found_starts, at_moved, OthersMeetNone}
use Rattle.code_objects.proofs.Moving.{Starts, Layouts, IsOfCode, AreRising, moves, moved, all_moved}
use Rattle.code_objects.specs.Changes.{IsStored, move_event, moved_by, size_at, size_in, with_moves}
use Rattle.code_objects.specs.CodeObjects.{IsCode}
use Rattle.code_objects.specs.declared.name.CodeName.{CodeName}
use Rattle.code_space.specs.Compaction.{compacted}
use Rattle.code_space.specs.declared.range.CodeMove.{CodeMove}
use Rattle.code_space.specs.declared.range.CodeRange.{CodeRange}

-- the one place is now the other
abbrev renamed : ℕ → ℕ → ℕ → ℕ
renamed from to start = cond (from == start) to start

renamed_other : (from to start : ℕ) → not (start == from) ≡ true → renamed from to start ≡ start
renamed_other from to start other = cond-false (from == start) to start (grind (arith, nat_tests))

renamed_once : (from to one other : ℕ) (b c : Bool) → (from == one) ≡ b → (from == other) ≡ c → (to ≡ one → ⊥) → (to ≡ other → ⊥) → cond b to one ≡ cond c to other → one ≡ other
renamed_once from to one other true true e f free_one free_other same = sym (eqb-true from one e) ∙ eqb-true from other f
renamed_once from to one other true false e f free_one free_other same = absurd (free_other same)
renamed_once from to one other false true e f free_one free_other same = absurd (free_one (sym same))
renamed_once from to one other false false e f free_one free_other same = same

-- One code object moves to where no other is.
module _ (layouts : Layouts) (starts : Starts) (ranges : List Range) (from to : ℕ) (range : Range) (code : IsCode layouts starts ranges)
    (found : range_at ranges from ≡ Some range) (free : range_at ranges to ≡ None) (apart : OthersMeetNone ranges from (range_of to range.layout)) where
  at_new_place : range_at (after_event ranges (Move from to)) to ≡ Some (range_of to range.layout)
  at_new_place = at_moved ranges from to range to found free apart ∙ cond-true (to == to) _ _ (eq-eqb to to refl)

  at_other_place : (start : ℕ) → (to ≡ start → ⊥) → (from ≡ start → ⊥) → range_at (after_event ranges (Move from to)) start ≡ range_at ranges start
  at_other_place start not_to not_from =
      at_moved ranges from to range start found free apart ∙ cond-false (to == start) _ _ (ne_eqb to start not_to) ∙ cond-false (from == start) _ _ (ne_eqb from start not_from)

  not_free : (name : CodeName) (start : ℕ) → starts name ≡ Some start → to ≡ start → ⊥
  not_free name start is same = let no : None ≡ Some (range_of start (layouts name)) = sym free ∙ ap (range_at ranges) same ∙ code.there name start is in absurd (grind arith)

  -- what lies at the old place
  is_of_code : IsOfCode layouts starts range
  is_of_code = found_has (λ r. r.start == from) (IsOfCode layouts starts) ranges range code.only found

  there_renamed : (name : CodeName) (start now : ℕ) (b : Bool) → (from == start) ≡ b → starts name ≡ Some start → cond b to start ≡ now → range_at (after_event ranges (Move from to)) now ≡ Some (range_of now (layouts name))
  there_renamed name start now true e is same =
      let here : Some range ≡ Some (range_of start (layouts name)) = sym found ∙ ap (range_at ranges) (eqb-true from start e) ∙ code.there name start is in
      let it : range ≡ range_of start (layouts name) = grind arith in
      subst (λ n. range_at (after_event ranges (Move from to)) n ≡ Some (range_of n (layouts name))) same (at_new_place ∙ ap (λ (r : Range). Some (range_of to r.layout)) it)
  there_renamed name start now false e is same =
      subst (λ n. range_at (after_event ranges (Move from to)) n ≡ Some (range_of n (layouts name))) same
      (at_other_place start (not_free name start is) (eqb-false from start e) ∙ code.there name start is)

  there_case : (name : CodeName) (now : ℕ) (o : Option ℕ) → starts name ≡ o → option_map (renamed from to) o ≡ Some now → range_at (after_event ranges (Move from to)) now ≡ Some (range_of now (layouts name))
  there_case name now None is same = absurd (grind arith)
  there_case name now (Some start) is same = let it : renamed from to start ≡ now = grind arith in there_renamed name start now (from == start) refl is it

  only_other : (r : Range) → IsOfCode layouts starts r → not (r.start == from) ≡ true → IsOfCode layouts (moved starts (record { from = from; to = to })) r
  only_other r is other = (is.0, ap (option_map (renamed from to)) is.1 ∙ ap (λ n. Some n) (renamed_other from to r.start other), is.2)

  only_new : IsOfCode layouts (moved starts (record { from = from; to = to })) (range_of to range.layout)
  only_new =
      let begins : range.start ≡ from = found_starts ranges from range found in (
        is_of_code.0,
        ap (option_map (renamed from to)) is_of_code.1 ∙ ap (λ n. Some (renamed from to n)) begins ∙ ap (λ n. Some n) (cond-true (from == from) to from (eq-eqb from from refl)),
        ap (λ (r : Range). range_of to r.layout) is_of_code.2,
      )

  only_moved : AllByRecursion (IsOfCode layouts (moved starts (record { from = from; to = to }))) (after_event ranges (Move from to))
  only_moved =
      let new = range_of to range.layout in
      let event : after_event ranges (Move from to) ≡ with_range (without_range ranges from) new = ap (λ o. option_map_or (λ r. with_range (without_range ranges from) (range_of to r.layout)) o ranges) found in
      subst (AllByRecursion (IsOfCode layouts (moved starts (record { from = from; to = to })))) (sym event)
      (all_pushed (IsOfCode layouts (moved starts (record { from = from; to = to }))) (filter (λ r. not (meets r new)) (without_range ranges from)) new
      (all_filtered (IsOfCode layouts (moved starts (record { from = from; to = to }))) (λ r. not (meets r new)) (without_range ranges from)
      (all_but (IsOfCode layouts starts) (IsOfCode layouts (moved starts (record { from = from; to = to }))) (λ r. not (r.start == from)) ranges code.only only_other)) only_new)

  apart_case : (one other : CodeName) (start : ℕ) (o p : Option ℕ) → starts one ≡ o → starts other ≡ p → option_map (renamed from to) o ≡ Some start → option_map (renamed from to) p ≡ Some start → one ≡ other
  apart_case one other start None p is_one is_other e f = absurd (grind arith)
  apart_case one other start (Some s) None is_one is_other e f = absurd (grind arith)
  apart_case one other start (Some s) (Some t) is_one is_other e f =
      let same : renamed from to s ≡ renamed from to t = grind arith in
      let once : s ≡ t = renamed_once from to s t (from == s) (from == t) refl refl (not_free one s is_one) (not_free other t is_other) same in
      code.apart one other t (is_one ∙ ap (λ n. Some n) once) is_other

  pub code_moved : IsCode layouts (moved starts (record { from = from; to = to })) (after_event ranges (Move from to))
  code_moved = record {
    there = λ name start is. there_case name start (starts name) refl is;
    only = only_moved;
    apart = λ one other start is_one is_other. apart_case one other start (starts one) (starts other) refl refl is_one is_other;
  }

-- the size of a code object is that of its layout
fits : (layouts : Layouts) (starts : Starts) (ranges : List Range) (from : ℕ) (range : Range) → IsCode layouts starts ranges → range_at ranges from ≡ Some range → range.size ≡ 4 * length range.layout.slots
fits layouts starts ranges from range code found =
    let is : IsOfCode layouts starts range = found_has (λ r. r.start == from) (IsOfCode layouts starts) ranges range code.only found in
    ap (λ (r : Range). r.size) is.2 ∙ sym (ap (λ (r : Range). 4 * length r.layout.slots) is.2)

-- nothing starts below the first
none_below : (low : ℕ) (spans : List CodeRange) (start : ℕ) → AreRising low spans → start < low → size_in spans start ≡ None
none_below low [] start rising below = refl
none_below low (span ∷ spans) start rising below =
    let from = rising.0 in
    cond-false (span.start == start) (Some span.size) (size_in spans start) (ne_eqb span.start start (λ same. absurd (omega (arith, from, same))))
    ∙ none_below (span.start + span.size) spans start rising.2 (omega (arith, from))

slid_rises : (low : ℕ) (spans : List CodeRange) (from : ℕ) → AreRising from spans → AreRising low (compacted low spans)
slid_rises low [] from rising = tt
slid_rises low (span ∷ spans) from rising = (omega arith, rising.1, slid_rises (low + span.size) spans (span.start + span.size) rising.2)

-- the sizes below an address and those from it on, where one more is settled
abbrev settled_with : (ℕ → Option ℕ) → ℕ → ℕ → ℕ → Option ℕ
settled_with settled low size start = cond (low == start) (Some size) (cond (nat_lt start low) (settled start) None)

split_case : (low size start : ℕ) (below from : Option ℕ) (b c d : Bool) → nat_lt start low ≡ b → (low == start) ≡ c → nat_lt start (low + size) ≡ d → 1 ≤ size → (start < low + size → from ≡ None)
    → cond b below (cond c (Some size) from) ≡ cond d (cond c (Some size) (cond b below None)) from
split_case low size start below from true true d e f g some none = absurd (grind (arith, nat_tests))
split_case low size start below from true false true e f g some none = refl
split_case low size start below from true false false e f g some none = absurd (grind (arith, nat_tests))
split_case low size start below from false true true e f g some none = refl
split_case low size start below from false true false e f g some none = absurd (grind (arith, nat_tests))
split_case low size start below from false false true e f g some none = none (ltb-true start (low + size) g)
split_case low size start below from false false false e f g some none = refl

split : (settled : ℕ → Option ℕ) (low size start : ℕ) (spans : List CodeRange) → 1 ≤ size → AreRising (low + size) spans
    → cond (nat_lt start low) (settled start) (cond (low == start) (Some size) (size_in spans start)) ≡ cond (nat_lt start (low + size)) (settled_with settled low size start) (size_in spans start)
split settled low size start spans some rising =
    split_case low size start (settled start) (size_in spans start) (nat_lt start low) (low == start) (nat_lt start (low + size)) refl refl refl some (none_below (low + size) spans start rising)

moved_case : (low from start : ℕ) (size : Option ℕ) (below rest : Option ℕ) (b c d : Bool) → nat_lt start low ≡ b → (low == start) ≡ c → (from == start) ≡ d → low < from → (from ≡ start → rest ≡ None)
    → cond c size (cond d None (cond b below (cond d size rest))) ≡ cond b below (cond c size rest)
moved_case low from start size below rest true true d e f g past none = absurd (grind (arith, nat_tests))
moved_case low from start size below rest true false true e f g past none = absurd (grind (arith, nat_tests))
moved_case low from start size below rest true false false e f g past none = refl
moved_case low from start size below rest false true d e f g past none = refl
moved_case low from start size below rest false false true e f g past none = sym (none (eqb-true from start g))
moved_case low from start size below rest false false false e f g past none = refl

-- below an address all is settled, and from there on these are still to be slid down
record IsSliding (settled : ℕ → Option ℕ) (low : ℕ) (spans : List CodeRange) (ranges : List Range) : Type 0 where
  below : (start size : ℕ) → start < low → settled start ≡ Some size → start + size ≤ low
  sizes : (start : ℕ) → size_at ranges start ≡ cond (nat_lt start low) (settled start) (size_in spans start)

no_range : (o : Option Range) → option_map (λ (r : Range). r.size) o ≡ None → o ≡ None
no_range None none = refl
no_range (Some r) none = absurd (grind arith)

a_range : (o : Option Range) (size : ℕ) → option_map (λ (r : Range). r.size) o ≡ Some size → (range : Range) × (o ≡ Some range) × (range.size ≡ size)
a_range None size some = absurd (grind arith)
a_range (Some r) size some = (r, refl, grind arith)

-- what is in the space from an address on does not start below it
not_below : (low : ℕ) (spans : List CodeRange) (start size : ℕ) → AreRising low spans → size_in spans start ≡ Some size → low ≤ start
not_below low spans start size rising is = not_below_case (nat_lt start low) refl
  where
    not_below_case : (b : Bool) → nat_lt start low ≡ b → low ≤ start
    not_below_case true below = let none : size_in spans start ≡ None = none_below low spans start rising (ltb-true start low below) in absurd (grind arith)
    not_below_case false not_less = ltb-false start low not_less

settled_below : (settled : ℕ → Option ℕ) (low size start found : ℕ) (b c : Bool) → (low == start) ≡ b → nat_lt start low ≡ c
    → ((s n : ℕ) → s < low → settled s ≡ Some n → s + n ≤ low) → cond b (Some size) (cond c (settled start) None) ≡ Some found → start + found ≤ low + size
settled_below settled low size start found true c e f below is =
    let same : size ≡ found = grind arith in let here : low ≡ start = eqb-true low start e in omega (arith, same, here)
settled_below settled low size start found false true e f below is = let less : start + found ≤ low = below start found (ltb-true start low f) is in omega (arith, less)
settled_below settled low size start found false false e f below is = absurd (grind arith)

next_below : (settled : ℕ → Option ℕ) (low size : ℕ) → ((s n : ℕ) → s < low → settled s ≡ Some n → s + n ≤ low) → (start found : ℕ) → start < low + size → settled_with settled low size start ≡ Some found → start + found ≤ low + size
next_below settled low size below start found less is = settled_below settled low size start found (low == start) (nat_lt start low) refl refl below is

-- the first stays where it is
stays : (settled : ℕ → Option ℕ) (low from size : ℕ) (spans : List CodeRange) (ranges : List Range) → from ≡ low → 1 ≤ size → AreRising (from + size) spans
    → IsSliding settled low (record { start = from; size = size } ∷ spans) ranges → IsSliding (settled_with settled low size) (low + size) spans ranges
stays settled low from size spans ranges same some rising sliding = record {
  below = next_below settled low size sliding.below;
  sizes = λ start.
      sliding.sizes start
      ∙ ap (λ f. cond (nat_lt start low) (settled start) (cond (f == start) (Some size) (size_in spans start))) same
      ∙ split settled low size start spans some (subst (λ f. AreRising (f + size) spans) same rising);
}

apart_below : (x_start x_size low size : ℕ) → x_start + x_size ≤ low → (nat_lt x_start (low + size) && nat_lt low (x_start + x_size)) ≡ false
apart_below x_start x_size low size below = grind (arith, nat_tests)

apart_above : (x_start x_size low size : ℕ) → low + size ≤ x_start → (nat_lt x_start (low + size) && nat_lt low (x_start + x_size)) ≡ false
apart_above x_start x_size low size above = grind (arith, nat_tests)

-- spans that rise from an address rise from a lower one
lower : (low least : ℕ) (spans : List CodeRange) → least ≤ low → AreRising low spans → AreRising least spans
lower low least [] less rising = tt
lower low least (span ∷ spans) less rising = let from = rising.0 in (omega (arith, less, from), rising.1, rising.2)

sizes_of : (b c : Bool) (new : Range) (o : Option Range) → option_map (λ (r : Range). r.size) (cond b (Some new) (cond c None o)) ≡ cond b (Some new.size) (cond c None (option_map (λ (r : Range). r.size) o))
sizes_of true c new o = refl
sizes_of false true new o = refl
sizes_of false false new o = refl

-- the first moves down
module _ (layouts : Layouts) (starts : Starts) (ranges : List Range) (settled : ℕ → Option ℕ) (low from size : ℕ) (spans : List CodeRange)
    (code : IsCode layouts starts ranges) (past : low < from) (some : 1 ≤ size) (rising : AreRising (from + size) spans) (sliding : IsSliding settled low (record { start = from; size = size } ∷ spans) ranges) where
  size_from : size_at ranges from ≡ Some size
  size_from = sliding.sizes from ∙ cond-false (nat_lt from low) _ _ (le-ltb from low (omega arith)) ∙ cond-true (from == from) _ _ (eq-eqb from from refl)

  size_low : size_at ranges low ≡ None
  size_low =
      sliding.sizes low ∙ cond-false (nat_lt low low) _ _ (le-ltb low low (omega arith)) ∙ cond-false (from == low) _ _ (ne_eqb from low (λ same. absurd (omega (arith, past, same))))
      ∙ none_below (from + size) spans low rising (omega arith)

  free : range_at ranges low ≡ None
  free = no_range (range_at ranges low) size_low

  range_there : (range : Range) × (range_at ranges from ≡ Some range) × (range.size ≡ size)
  range_there = a_range (range_at ranges from) size size_from

  -- it meets no other at its new place
  others_apart_case : (new_size : ℕ) → new_size ≡ size → (start : ℕ) (other : Range) (b : Bool) → nat_lt start low ≡ b → (from ≡ start → ⊥) → other.start ≡ start
      → cond b (settled start) (cond (from == start) (Some size) (size_in spans start)) ≡ Some other.size → (nat_lt other.start (low + new_size) && nat_lt low (other.start + other.size)) ≡ false
  others_apart_case new_size is_size start other true e not_from begins is =
      let less : start + other.size ≤ low = sliding.below start other.size (ltb-true start low e) is in
      apart_below other.start other.size low new_size (omega (arith, less, begins))
  others_apart_case new_size is_size start other false e not_from begins is =
      let later : size_in spans start ≡ Some other.size = sym (cond-false (from == start) (Some size) (size_in spans start) (ne_eqb from start not_from)) ∙ is in
      let above : from + size ≤ start = not_below (from + size) spans start other.size rising later in
      apart_above other.start other.size low new_size (omega (arith, above, begins, is_size))

  others_apart : (layout : LayoutParts) → 4 * length layout.slots ≡ size → OthersMeetNone ranges from (range_of low layout)
  others_apart layout is_size start other not_from found =
      others_apart_case (4 * length layout.slots) is_size start other (nat_lt start low) refl not_from (found_starts ranges start other found)
      (sym (sliding.sizes start) ∙ ap (option_map (λ (r : Range). r.size)) found)

  -- the range that moves
  module _ (range : Range) (found : range_at ranges from ≡ Some range) (is_size : range.size ≡ size) where
    layout_size : 4 * length range.layout.slots ≡ size
    layout_size = sym (fits layouts starts ranges from range code found) ∙ is_size

    apart : OthersMeetNone ranges from (range_of low range.layout)
    apart = others_apart range.layout layout_size

    code_after : IsCode layouts (moved starts (record { from = from; to = low })) (after_event ranges (Move from low))
    code_after = code_moved layouts starts ranges from low range code found free apart

    sizes_after : (start : ℕ) → size_at (after_event ranges (Move from low)) start ≡ cond (nat_lt start (low + size)) (settled_with settled low size start) (size_in spans start)
    sizes_after start =
        ap (option_map (λ (r : Range). r.size)) (at_moved ranges from low range start found free apart)
        ∙ sizes_of (low == start) (from == start) (range_of low range.layout) (range_at ranges start)
        ∙ ap₂ (λ (m : ℕ) (o : Option ℕ). cond (low == start) (Some m) (cond (from == start) None o)) layout_size (sliding.sizes start)
        ∙ moved_case low from start (Some size) (settled start) (size_in spans start) (nat_lt start low) (low == start) (from == start) refl refl refl past
        (λ same. none_below (from + size) spans start rising (omega (arith, some, same)))
        ∙ split settled low size start spans some rising_low
      where
        rising_low : AreRising (low + size) spans
        rising_low = lower (from + size) (low + size) spans (omega (arith, past)) rising

    sliding_after : IsSliding (settled_with settled low size) (low + size) spans (after_event ranges (Move from low))
    sliding_after = record { below = next_below settled low size sliding.below; sizes = sizes_after }

-- What comes of sliding: the code objects at their new places, and the sizes there.
abbrev Slid : Layouts → Starts → List Range → (ℕ → Option ℕ) → ℕ → List CodeRange → List CodeMove → Type 0
Slid layouts starts ranges settled low spans pairs =
    IsCode layouts (all_moved starts pairs) (after_events ranges (map move_event pairs))
    × ((start : ℕ) → size_at (after_events ranges (map move_event pairs)) start ≡ cond (nat_lt start low) (settled start) (size_in (compacted low spans) start))

resettled : (layouts : Layouts) (starts : Starts) (ranges : List Range) (settled : ℕ → Option ℕ) (low from size : ℕ) (spans : List CodeRange) (pairs : List CodeMove) → 1 ≤ size → AreRising (from + size) spans
    → Slid layouts starts ranges (settled_with settled low size) (low + size) spans pairs → Slid layouts starts ranges settled low (record { start = from; size = size } ∷ spans) pairs
resettled layouts starts ranges settled low from size spans pairs some rising is =
    (is.0, λ start. is.1 start ∙ sym (split settled low size start (compacted (low + size) spans) some (slid_rises (low + size) spans (from + size) rising)))

slides : (layouts : Layouts) (starts : Starts) (ranges : List Range) (settled : ℕ → Option ℕ) (low : ℕ) (spans : List CodeRange)
    → AreRising low spans → IsSliding settled low spans ranges → IsCode layouts starts ranges → Slid layouts starts ranges settled low spans (moves low spans)
slides layouts starts ranges settled low [] rising sliding code = (code, sliding.sizes)
slides layouts starts ranges settled low (span ∷ spans) rising sliding code =
    let from = span.start in let size = span.size in let above = rising.0 in
    cond_both (from == low) (moves (low + size) spans) (record { from = from; to = low } ∷ moves (low + size) spans) (Slid layouts starts ranges settled low (record { start = from; size = size } ∷ spans))
    (λ same. let here : from ≡ low = eqb-true from low same in
    resettled layouts starts ranges settled low from size spans (moves (low + size) spans) rising.1 rising.2
    (slides layouts starts ranges (settled_with settled low size) (low + size) spans (lower (from + size) (low + size) spans (omega (arith, above)) rising.2)
    (stays settled low from size spans ranges here rising.1 rising.2 sliding) code))
    (λ other. let past : low < from = grind (arith, nat_tests) in
    let there = range_there layouts starts ranges settled low from size spans code past rising.1 rising.2 sliding in
    resettled layouts (moved starts (record { from = from; to = low })) (after_event ranges (Move from low)) settled low from size spans (moves (low + size) spans) rising.1 rising.2
    (slides layouts (moved starts (record { from = from; to = low })) (after_event ranges (Move from low)) (settled_with settled low size) (low + size) spans
    (lower (from + size) (low + size) spans (omega (arith, above)) rising.2)
    (sliding_after layouts starts ranges settled low from size spans code past rising.1 rising.2 sliding there.0 there.1 there.2)
    (code_after layouts starts ranges settled low from size spans code past rising.1 rising.2 sliding there.0 there.1 there.2)))

begins_so : (low start : ℕ) (o : Option ℕ) (b : Bool) → nat_lt start low ≡ b → (start < low → o ≡ None) → o ≡ cond b None o
begins_so low start o true e none = none (ltb-true start low e)
begins_so low start o false e none = refl

-- ranges in any order whose starts and sizes are those of a space, after the moves of its compaction
pub sliding_keeps_code : (layouts : Layouts) (starts : Starts) (ranges : List Range) (low : ℕ) (spans : List CodeRange) → AreRising low spans → IsStored layouts starts ranges spans
    → IsStored layouts (all_moved starts (moves low spans)) (after_events ranges (map move_event (moves low spans))) (compacted low spans)
sliding_keeps_code layouts starts ranges low spans rising stored =
    let all = slides layouts starts ranges (λ start. None) low spans rising (record {
      below = λ start size less is. absurd (grind arith);
      sizes = λ start. stored.sizes start ∙ begins_so low start (size_in spans start) (nat_lt start low) refl (none_below low spans start rising);
    }) stored.code in
    record {
      code = all.0;
      sizes = λ start. all.1 start ∙ sym (begins_so low start (size_in (compacted low spans) start) (nat_lt start low) refl (none_below low (compacted low spans) start (slid_rises low spans low rising)));
    }

-- ---- the moves one after the other, and all at once

-- nothing that moves starts below an address
none_from_case : (P : Option CodeMove → Type 0) (b : Bool) (move : CodeMove) (rest : Option CodeMove) → b ≡ false → P rest → P (cond b (Some move) rest)
none_from_case P true move rest e is = absurd (cc)
none_from_case P false move rest e is = is

none_from : (low next start : ℕ) (spans : List CodeRange) → AreRising low spans → start < low → find (λ move. move.from == start) (moves next spans) ≡ None
none_from low next start [] rising below = refl
none_from low next start (span ∷ spans) rising below =
    let from = rising.0 in let some = rising.1 in
    let later : find (λ move. move.from == start) (moves (next + span.size) spans) ≡ None = none_from (span.start + span.size) (next + span.size) start spans rising.2 (omega (arith, below, from, some)) in
    cond_both (span.start == next) (moves (next + span.size) spans) (record { from = span.start; to = next } ∷ moves (next + span.size) spans) (λ ms. find (λ move. move.from == start) ms ≡ None)
    (λ stays. later)
    (λ goes. none_from_case (λ o. o ≡ None) (span.start == start) (record { from = span.start; to = next }) _ (ne_eqb span.start start (λ same. absurd (omega (arith, from, below, same)))) later)

-- a move and then the others, of a place where nothing else moves from
once_case : (from to start : ℕ) (later : List CodeMove) (b : Bool) → (from == start) ≡ b → find (λ move. move.from == to) later ≡ None
    → moved_by later (cond b to start) ≡ option_map_or (λ (move : CodeMove). move.to) (cond b (Some (record { from = from; to = to })) (find (λ move. move.from == start) later)) start
once_case from to start later true e none = ap (λ o. option_map_or (λ (move : CodeMove). move.to) o to) none
once_case from to start later false e none = refl

once_start : (from to : ℕ) (later : List CodeMove) (o : Option ℕ) → find (λ move. move.from == to) later ≡ None
    → option_map (moved_by later) (option_map (λ start. cond (from == start) to start) o) ≡ option_map (moved_by (record { from = from; to = to } ∷ later)) o
once_start from to later None none = refl
once_start from to later (Some start) none = ap (λ n. Some n) (once_case from to start later (from == start) refl none)

no_moves : (o : Option ℕ) → o ≡ option_map (moved_by []) o
no_moves None = refl
no_moves (Some start) = refl

at_once : (starts : Starts) (low : ℕ) (spans : List CodeRange) (name : CodeName) → AreRising low spans → all_moved starts (moves low spans) name ≡ with_moves starts (moves low spans) name
at_once starts low [] name rising = no_moves (starts name)
at_once starts low (span ∷ spans) name rising =
    let from = rising.0 in let some = rising.1 in
    let later = moves (low + span.size) spans in
    let rest = lower (span.start + span.size) (low + span.size) spans (omega (arith, from)) rising.2 in
    cond_both (span.start == low) later (record { from = span.start; to = low } ∷ later) (λ ms. all_moved starts ms name ≡ with_moves starts ms name)
    (λ stays. at_once starts (low + span.size) spans name rest)
    (λ goes. at_once (moved starts (record { from = span.start; to = low })) (low + span.size) spans name rest
    ∙ once_start span.start low later (starts name) (none_from (span.start + span.size) (low + span.size) low spans rising.2 (omega (arith, from, some))))

rises_some : (low : ℕ) (space : List CodeRange) → Space.AreRising low space → AllByRecursion IsCodeRange space → AreRising low space
rises_some low [] rising each = tt
rises_some low (range ∷ space) rising each = let least = each.0.size.least in (rising.0, omega (arith, least), rises_some (range.start + range.size) space rising.1 each.1)

pub compacting_keeps_code : CompactingKeepsCode
compacting_keeps_code layouts starts ranges space stored is =
    let rising = rises_some FIRST_ADDRESS space is.rising is.each in
    let same : all_moved starts (moves FIRST_ADDRESS space) ≡ with_moves starts (moves FIRST_ADDRESS space) = λ i. λ name. at_once starts FIRST_ADDRESS space name rising i in
    subst (λ (s : Starts). IsStored layouts s (after_events ranges (map move_event (moves FIRST_ADDRESS space))) (compacted FIRST_ADDRESS space)) same
    (sliding_keeps_code layouts starts ranges FIRST_ADDRESS space rising stored)
