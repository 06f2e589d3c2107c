-- Where an address is found, the code that holds it starts.
use Rattle.std.proofs.Common.{◌≡◌, ℕ, List, [], ◌∷◌, refl, ap, subst, ◌∙◌, arith}
use Rattle.std.specs.Prelude.{Bool, true, false, cond, find, Option, Some, None, IfSome, option_map, option_and_then, ◌==◌}
use Rattle.std.proofs.lemmas.Bool.Decides.{nat_tests}
use Rattle.code_event.specs.CodeMap.{range_at}
use Rattle.code_event.specs.Symbolizer.{holds}
use Rattle.code_event.specs.declared.code_map.Range.{Range}
use Rattle.code_map.specs.Objects.{AreCode, found_in}
use Rattle.code_map.specs.CodeMap.{HasRanges}
use Rattle.code_map.specs.Laws.{FoundCodeStartsThere}
use Rattle.code_map.proofs.CodeStays.{all_found}
use Rattle.code_map.proofs.Histories.{ranges_are_code}
use Rattle.code_map.proofs.Starts.{others_start_elsewhere, others_are_code}

same_number : (n : ℕ) → (n == n) ≡ true
same_number n = grind (arith, nat_tests)

other_number : (n m : ℕ) → (n == m) ≡ false → (m == n) ≡ false
other_number n m differ = grind (arith, nat_tests)

first_if : (range found : Range) (ranges : List Range) (address : ℕ) (here : Bool) → AreCode (range ∷ ranges) → cond here (Some range) (find (holds address) ranges) ≡ Some found
    → (find (holds address) ranges ≡ Some found → range_at ranges found.start ≡ Some found) → range_at (range ∷ ranges) found.start ≡ Some found
first_if range found ranges address true code held later =
    let same : range ≡ found = cc in
    subst (λ r. range_at (range ∷ ranges) r.start ≡ Some r) same (ap (λ b. cond b (Some range) (range_at ranges range.start)) (same_number range.start))
first_if range found ranges address false code held later =
    let elsewhere : IfSome (find (holds address) ranges) (λ other. (other.start == range.start) ≡ false) =
    all_found (λ other. (other.start == range.start) ≡ false) (holds address) ranges
    (others_start_elsewhere range.start range ranges (same_number range.start) code.each.0 code.each.1 code.disjoint.0) in
    let differ : (found.start == range.start) ≡ false = subst (λ r. IfSome r (λ other. (other.start == range.start) ≡ false)) held elsewhere in
    ap (λ b. cond b (Some range) (range_at ranges found.start)) (other_number found.start range.start differ) ∙ later held

-- the first range that starts where the one that holds an address does is that one
first : (ranges : List Range) (found : Range) (address : ℕ) → AreCode ranges → find (holds address) ranges ≡ Some found → range_at ranges found.start ≡ Some found
first [] found address code held = absurd (cc)
first (range ∷ ranges) found address code held = first_if range found ranges address (holds address range) code held (first ranges found address (others_are_code range ranges code))

looked_up : (ranges : List Range) (held : Option Range) (address : ℕ) → IfSome held (λ range. range_at ranges range.start ≡ Some range)
    → option_and_then (λ found. range_at ranges found.start) (option_map (found_in address) held) ≡ held
looked_up ranges None address starts = refl
looked_up ranges (Some range) address starts = starts

starts_if : (ranges : List Range) (address : ℕ) (held : Option Range) → AreCode ranges → find (holds address) ranges ≡ held → IfSome held (λ range. range_at ranges range.start ≡ Some range)
starts_if ranges address None code is = tt
starts_if ranges address (Some range) code is = first ranges range address code is

pub found_starts : FoundCodeStartsThere
unfolding HasRanges
found_starts map ranges address of = looked_up ranges (find (holds address) ranges) address (starts_if ranges address (find (holds address) ranges) (ranges_are_code map.objects ranges of) refl)
