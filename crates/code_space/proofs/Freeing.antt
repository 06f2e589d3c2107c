-- A space without one of its ranges.
use Rattle.std.proofs.Common.{◌≡◌, ℕ, suc, ◌+◌, ◌<◌, ◌≤◌, List, [], ◌∷◌, length, refl, ap, ◌∙◌, arith}
use Rattle.std.specs.Prelude.{Bool, true, false, not, cond, filter, Some, IsSome, ◌==◌}
use Rattle.std.specs.List.{AllByRecursion}
use Rattle.std.proofs.lemmas.Bool.{cond_both}
use Rattle.std.proofs.lemmas.Bool.Decides.{nat_tests}
use Rattle.code_space.specs.Space.{IsCodeRange, AreRising, IsSpace, range_at, without_range}
use Rattle.code_space.specs.declared.range.CodeRange.{CodeRange}
use Rattle.code_space.specs.declared.range.TheConstants.{FIRST_ADDRESS}

-- ranges that rise from an address rise from a lower one
pub rising_lower : (low least : ℕ) (ranges : List CodeRange) → least ≤ low → AreRising low ranges → AreRising least ranges
rising_lower low least [] less rising = tt
rising_lower low least (range ∷ ranges) less rising = let from = rising.0 in (omega (arith, less, from), rising.1)

rising_filtered : (p : CodeRange → Bool) (low : ℕ) (ranges : List CodeRange) → AreRising low ranges → AreRising low (filter p ranges)
rising_filtered p low [] rising = tt
rising_filtered p low (range ∷ ranges) rising =
    let from = rising.0 in
    let rest = rising_filtered p (range.start + range.size) ranges rising.1 in
    cond_both (p range) (range ∷ filter p ranges) (filter p ranges) (AreRising low)
    (λ kept. (from, rest)) (λ left_out. rising_lower (range.start + range.size) low (filter p ranges) (omega (arith, from)) rest)

each_filtered : {X : Type 0} (P : X → Type 0) (p : X → Bool) (xs : List X) → AllByRecursion P xs → AllByRecursion P (filter p xs)
each_filtered P p [] each = tt
each_filtered P p (x ∷ xs) each =
    let rest = each_filtered P p xs each.1 in cond_both (p x) (x ∷ filter p xs) (filter p xs) (AllByRecursion P) (λ kept. (each.0, rest)) (λ left_out. rest)

starts_above : (start : ℕ) (range : CodeRange) → start < range.start → (range.start == start) ≡ false
starts_above start range below = grind (arith, nat_tests)

-- nothing is taken out below the first
none_taken : (low start : ℕ) (ranges : List CodeRange) → start < low → AreRising low ranges → without_range ranges start ≡ ranges
none_taken low start [] below rising = refl
none_taken low start (range ∷ ranges) below rising =
    let from = rising.0 in
    ap (λ b. cond (not b) (range ∷ without_range ranges start) (without_range ranges start)) (starts_above start range (omega (arith, below, from)))
    ∙ ap (λ rs. range ∷ rs) (none_taken (range.start + range.size) start ranges (omega (arith, below, from)) rising.1)

one_taken : (start : ℕ) (range : CodeRange) (ranges : List CodeRange) (here : Bool) → (range.start == start) ≡ here → 1 ≤ range.size → AreRising (range.start + range.size) ranges
    → (IsSome (range_at ranges start) → suc (length (without_range ranges start)) ≡ length ranges) → IsSome (cond here (Some range) (range_at ranges start))
    → suc (length (cond (not here) (range ∷ without_range ranges start) (without_range ranges start))) ≡ suc (length ranges)
one_taken start range ranges true e some rising later there =
    let first : start < range.start + range.size = grind (arith, nat_tests) in
    ap (λ rs. suc (length rs)) (none_taken (range.start + range.size) start ranges first rising)
one_taken start range ranges false e some rising later there = ap (λ n. suc n) (later there)

length-without : (low start : ℕ) (ranges : List CodeRange) → AllByRecursion IsCodeRange ranges → AreRising low ranges → IsSome (range_at ranges start) → suc (length (without_range ranges start)) ≡ length ranges
length-without low start [] each rising there = absurd (cc)
length-without low start (range ∷ ranges) each rising there =
    let size = each.0.size.least in
    one_taken start range ranges (range.start == start) refl (omega (arith, size)) rising.1 (length-without (range.start + range.size) start ranges each.1 rising.1) there

-- one range fewer
pub fewer : (start : ℕ) (ranges : List CodeRange) → IsSpace ranges → IsSome (range_at ranges start) → length (without_range ranges start) + 1 ≡ length ranges
fewer start ranges space there = let one = length-without FIRST_ADDRESS start ranges space.each space.rising there in omega (arith, one)

-- a space stays one where a range is taken out
pub space_without : (start : ℕ) (ranges : List CodeRange) → IsSpace ranges → IsSome (range_at ranges start) → IsSpace (without_range ranges start)
space_without start ranges space there =
    let one = fewer start ranges space there in
    let few = space.few in
    record {
      few = omega (arith, one, few);
      each = each_filtered IsCodeRange (λ range. not (range.start == start)) ranges space.each;
      rising = rising_filtered (λ range. not (range.start == start)) FIRST_ADDRESS ranges space.rising;
    }
