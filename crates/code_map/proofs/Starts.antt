-- Code objects that share no address start at different places.
use Rattle.std.proofs.Common.{◌≡◌, ℕ, suc, ◌+◌, ◌*◌, ◌≤◌, List, [], ◌∷◌, length, get_or, refl, sym, ap, subst, ◌∙◌, arith}
use Rattle.std.specs.Prelude.{Bool, true, false, cond, not, remove, Some, None, ◌==◌, ◌&&◌, nat_lt}
use Rattle.std.specs.List.{AllByRecursion, position_from}
use Rattle.std.specs.Option.{option_map_or}
use Rattle.std.proofs.lemmas.Bool.Decides.{nat_tests}
use Rattle.code_event.specs.CodeMap.{meets, range_at, without_range, with_range, range_of}
use Rattle.code_event.specs.declared.layout.TheConstants.{SLOT_SIZE}
use Rattle.code_event.specs.declared.code_map.Range.{Range}
use Rattle.code_map.specs.Objects.{IsCode, AreCode}

size_of_code : (range : Range) → IsCode range → 1 ≤ range.size
size_of_code range code = let size : range.size ≡ SLOT_SIZE * length range.layout.slots = ap (λ r. r.size) code.is_range in omega (arith, code.some_slots)

starts_apart : (start size other_start other_size : ℕ) → 1 ≤ size → 1 ≤ other_size → (nat_lt start (other_start + other_size) && nat_lt other_start (start + size)) ≡ false → (other_start == start) ≡ false
starts_apart start size other_start other_size some other_some apart = grind (arith, nat_tests)

same_start : (one other start : ℕ) → (one == start) ≡ true → (other == one) ≡ false → (other == start) ≡ false
same_start one other start here elsewhere = grind (arith, nat_tests)

-- a start that is a range's is none of the others'
pub others_start_elsewhere : (start : ℕ) (range : Range) (others : List Range) → (range.start == start) ≡ true → IsCode range → AllByRecursion IsCode others → AllByRecursion (λ other. meets range other ≡ false) others → AllByRecursion (λ other. (other.start == start) ≡ false) others
others_start_elsewhere start range [] here code each apart = tt
others_start_elsewhere start range (other ∷ others) here code each apart = (
  same_start range.start other.start start here (starts_apart range.start range.size other.start other.size (size_of_code range code) (size_of_code other each.0) apart.0),
  others_start_elsewhere start range others here code each.1 apart.1,
)

-- the others of code objects are code objects
pub others_are_code : (range : Range) (others : List Range) → AreCode (range ∷ others) → AreCode others
others_are_code range others code = record { each = code.each.1; disjoint = code.disjoint.1 }

none_left_out : (start : ℕ) (ranges : List Range) → AllByRecursion (λ r. (r.start == start) ≡ false) ranges → without_range ranges start ≡ ranges
none_left_out start [] elsewhere = refl
none_left_out start (range ∷ ranges) elsewhere =
    ap (λ b. cond (not b) (range ∷ without_range ranges start) (without_range ranges start)) elsewhere.0 ∙ ap (λ rs. range ∷ rs) (none_left_out start ranges elsewhere.1)

-- the range at this index is the one that starts there
pub record IsAt (ranges : List Range) (start index : ℕ) : Type 0 where
  pub first : (d : Range) → range_at ranges start ≡ Some (get_or ranges index d)
  pub others : without_range ranges start ≡ remove ranges index

at_first : (start : ℕ) (range : Range) (ranges : List Range) → AreCode (range ∷ ranges) → (range.start == start) ≡ true → IsAt (range ∷ ranges) start 0
at_first start range ranges code here = record {
  first = λ d. ap (λ b. cond b (Some range) (range_at ranges start)) here;
  others =
      ap (λ b. cond (not b) (range ∷ without_range ranges start) (without_range ranges start)) here
      ∙ none_left_out start ranges (others_start_elsewhere start range ranges here code.each.0 code.each.1 code.disjoint.0);
}

at_later : (start index : ℕ) (range : Range) (ranges : List Range) → (range.start == start) ≡ false → IsAt ranges start index → IsAt (range ∷ ranges) start (suc index)
at_later start index range ranges elsewhere later = record {
  first = λ d. ap (λ b. cond b (Some range) (range_at ranges start)) elsewhere ∙ later.first d;
  others = ap (λ b. cond (not b) (range ∷ without_range ranges start) (without_range ranges start)) elsewhere ∙ ap (λ rs. range ∷ rs) later.others;
}

at_if : (start from at : ℕ) (range : Range) (ranges : List Range) → AreCode (range ∷ ranges) → (here : Bool) → (range.start == start) ≡ here
    → cond here (Some from) (position_from (λ r. r.start == start) (from + 1) ranges) ≡ Some at
    → (position_from (λ r. r.start == start) (from + 1) ranges ≡ Some at → (index : ℕ) × (at ≡ from + 1 + index) × IsAt ranges start index)
    → (index : ℕ) × (at ≡ from + index) × IsAt (range ∷ ranges) start index
at_if start from at range ranges code true here found later = let same : from ≡ at = cc in (0, omega arith, at_first start range ranges code here)
at_if start from at range ranges code false here found later =
    let next : (index : ℕ) × (at ≡ from + 1 + index) × IsAt ranges start index = later found in
    (suc next.0, omega (arith, next.1), at_later start next.0 range ranges here next.2)

at_from : (start from at : ℕ) (ranges : List Range) → AreCode ranges → position_from (λ r. r.start == start) from ranges ≡ Some at
    → (index : ℕ) × (at ≡ from + index) × IsAt ranges start index
at_from start from at [] code found = absurd (cc)
at_from start from at (range ∷ ranges) code found =
    at_if start from at range ranges code (range.start == start) refl found (at_from start (from + 1) at ranges (others_are_code range ranges code))

-- where a range is found by its start
pub at_position : (start at : ℕ) (ranges : List Range) → AreCode ranges → position_from (λ r. r.start == start) 0 ranges ≡ Some at → IsAt ranges start at
at_position start at ranges code found =
    let place : (index : ℕ) × (at ≡ 0 + index) × IsAt ranges start index = at_from start 0 at ranges code found in
    let same : place.0 ≡ at = omega (arith, place.1) in
    subst (IsAt ranges start) same place.2

nowhere_if : (start from : ℕ) (range : Range) (ranges : List Range) (here : Bool) → cond here (Some from) (position_from (λ r. r.start == start) (from + 1) ranges) ≡ None
    → (position_from (λ r. r.start == start) (from + 1) ranges ≡ None → range_at ranges start ≡ None) → cond here (Some range) (range_at ranges start) ≡ None
nowhere_if start from range ranges true found later = absurd (cc)
nowhere_if start from range ranges false found later = later found

nowhere_from : (start from : ℕ) (ranges : List Range) → position_from (λ r. r.start == start) from ranges ≡ None → range_at ranges start ≡ None
nowhere_from start from [] found = refl
nowhere_from start from (range ∷ ranges) found = nowhere_if start from range ranges (range.start == start) found (nowhere_from start (from + 1) ranges)

-- no range starts there
pub nowhere : (start : ℕ) (ranges : List Range) → position_from (λ r. r.start == start) 0 ranges ≡ None → range_at ranges start ≡ None
nowhere start ranges found = nowhere_from start 0 ranges found

-- the ranges after a move, of a range that was taken out at its index
pub moved : (from to at : ℕ) (ranges : List Range) (taken : Range) (rest new : List Range) → AreCode ranges → position_from (λ r. r.start == from) 0 ranges ≡ Some at
    → taken ≡ get_or ranges at taken → rest ≡ remove ranges at → new ≡ with_range rest (range_of to taken.layout)
    → new ≡ option_map_or (λ r. with_range (without_range ranges from) (range_of to r.layout)) (range_at ranges from) ranges
moved from to at ranges taken rest new code found took left put =
    let place : IsAt ranges from at = at_position from at ranges code found in
    put ∙ ap (λ rs. with_range rs (range_of to taken.layout)) (left ∙ sym place.others)
    ∙ sym (ap (λ r. option_map_or (λ r. with_range (without_range ranges from) (range_of to r.layout)) r ranges) (place.first taken ∙ ap Some (sym took)))

-- the ranges after a move of nothing
pub not_moved : (from to : ℕ) (ranges : List Range) → position_from (λ r. r.start == from) 0 ranges ≡ None
    → ranges ≡ option_map_or (λ r. with_range (without_range ranges from) (range_of to r.layout)) (range_at ranges from) ranges
not_moved from to ranges found = sym (ap (λ r. option_map_or (λ r. with_range (without_range ranges from) (range_of to r.layout)) r ranges) (nowhere from ranges found))
