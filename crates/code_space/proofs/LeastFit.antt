-- The first hole that is large enough is the least fit.
use Rattle.std.proofs.Common.{◌≡◌, ℕ, suc, ◌+◌, ◌*◌, ◌%◌, ◌<◌, ◌≤◌, ◌⊎◌, inl, inr, zero, List, [], ◌∷◌, length, drop, get_or, ap, ◌∙◌, subst, arith}
use Rattle.std.specs.Prelude.{true, false, cond, nat_le}
use Rattle.std.specs.List.{AllByRecursion}
use Rattle.std.proofs.lemmas.Bool.{cond_both}
use Rattle.std.proofs.lemmas.Bool.Decides.{nat_tests}
use Rattle.std.proofs.lemmas.List.{drop_all}
use Rattle.code_space.specs.Space.{IsCodeRange, AreRising, IsSpace, Fits, IsCodeSize, IsLeastFit}
use Rattle.code_space.specs.declared.range.CodeRange.{CodeRange}
use Rattle.code_space.specs.declared.range.TheConstants.{FIRST_ADDRESS, SPACE_END, ALIGNMENT, MAX_SIZE, MAX_RANGES}

-- where the first hole of at least this size begins, from this address on
abbrev pub first_hole : ℕ → ℕ → List CodeRange → ℕ
first_hole low size [] = low
first_hole low size (range ∷ ranges) = cond (nat_le (low + size) range.start) low (first_hole (range.start + range.size) size ranges)

record IsFirst (low size : ℕ) (ranges : List CodeRange) (hole : ℕ) : Type 0 where
  above : low ≤ hole
  fits : Fits ranges size hole
  least : (other : ℕ) → low ≤ other → Fits ranges size other → hole ≤ other
  below : hole ≤ low + length ranges * 32768
  aligned : hole % ALIGNMENT ≡ 0

before_all : (low start size : ℕ) (ranges : List CodeRange) → start + size ≤ low → AreRising low ranges → Fits ranges size start
before_all low start size [] ends rising = tt
before_all low start size (range ∷ ranges) ends rising = let first = rising.0 in (inl (omega (arith, ends, first)), before_all (range.start + range.size) start size ranges (omega (arith, ends, first)) rising.1)

behind_first : (low size other : ℕ) (range : CodeRange) → nat_le (low + size) range.start ≡ false → low ≤ other → (other + size ≤ range.start) ⊎ (range.start + range.size ≤ other) → range.start + range.size ≤ other
behind_first low size other range small from (inl before) = absurd (grind (arith, nat_tests))
behind_first low size other range small from (inr behind) = behind

here : (low size : ℕ) (range : CodeRange) (ranges : List CodeRange) → low % ALIGNMENT ≡ 0 → AreRising low (range ∷ ranges) → nat_le (low + size) range.start ≡ true → IsFirst low size (range ∷ ranges) low
here low size range ranges aligned rising large =
    let ends : low + size ≤ range.start = grind (arith, nat_tests) in
    record {
      above = omega arith;
      fits = (inl ends, before_all (range.start + range.size) low size ranges (omega (arith, ends)) rising.1);
      least = λ other from fits. from;
      below = omega arith;
      aligned = aligned;
    }

later : (low size hole : ℕ) (range : CodeRange) (ranges : List CodeRange) → IsCodeRange range → low ≤ range.start → nat_le (low + size) range.start ≡ false → size ≤ MAX_SIZE
    → IsFirst (range.start + range.size) size ranges hole → IsFirst low size (range ∷ ranges) hole
later low size hole range ranges code from small few is =
    let short : range.start < low + size = grind (arith, nat_tests) in
    let above = is.above in
    let below = is.below in
    let most = code.size.greatest in
    record {
      above = omega (arith, from, above);
      fits = (inr above, is.fits);
      least = λ other at fits. is.least other (behind_first low size other range small at fits.0) fits.1;
      below = omega (arith, short, below, most, few);
      aligned = is.aligned;
    }

next_aligned : (range : CodeRange) → IsCodeRange range → (range.start + range.size) % ALIGNMENT ≡ 0
next_aligned range code = let start = code.aligned in let size = code.size.whole in omega (arith, start, size)

is_first : (low size : ℕ) (ranges : List CodeRange) → size ≤ MAX_SIZE → low % ALIGNMENT ≡ 0 → AllByRecursion IsCodeRange ranges → AreRising low ranges → IsFirst low size ranges (first_hole low size ranges)
is_first low size [] few aligned each rising = record { above = omega arith; fits = tt; least = λ other from fits. from; below = omega arith; aligned = aligned }
is_first low size (range ∷ ranges) few aligned each rising =
    let next = range.start + range.size in
    cond_both (nat_le (low + size) range.start) low (first_hole next size ranges) (IsFirst low size (range ∷ ranges))
    (λ large. here low size range ranges aligned rising large)
    (λ small. later low size (first_hole next size ranges) range ranges each.0 rising.0 small few (is_first next size ranges few (next_aligned range each.0) each.1 rising.1))

pub record IsPlace (ranges : List CodeRange) (size hole : ℕ) : Type 0 where
  pub least : IsLeastFit ranges size hole
  pub aligned : hole % ALIGNMENT ≡ 0
  pub within : hole + size ≤ SPACE_END

pub is_place : (ranges : List CodeRange) (size : ℕ) → IsSpace ranges → length ranges < MAX_RANGES → IsCodeSize size → IsPlace ranges size (first_hole FIRST_ADDRESS size ranges)
is_place ranges size space room code =
    let first = is_first FIRST_ADDRESS size ranges code.greatest (omega arith) space.each space.rising in
    let below = first.below in
    let few = code.greatest in
    record {
      least = record { above = first.above; fits = first.fits; least = first.least };
      aligned = first.aligned;
      within = omega (arith, below, few, room);
    }

large_here : (low size : ℕ) (range : CodeRange) (ranges : List CodeRange) → low + size ≤ range.start → first_hole low size (range ∷ ranges) ≡ low
large_here low size range ranges ends = let large : nat_le (low + size) range.start ≡ true = grind (arith, nat_tests) in ap (λ b. cond b low (first_hole (range.start + range.size) size ranges)) large

hole_at : (low size at : ℕ) (ranges : List CodeRange) (d : CodeRange) → at < length ranges → low + size ≤ (get_or ranges at d).start → first_hole low size (drop at ranges) ≡ low
hole_at low size at [] d less ends = absurd (omega (arith, less))
hole_at low size zero (range ∷ ranges) d less ends = large_here low size range ranges ends
hole_at low size (suc at) (range ∷ ranges) d less ends = hole_at low size at ranges d (omega (arith, less)) ends

-- the search stops before a range
pub place_before : (ranges : List CodeRange) (size low at : ℕ) (d : CodeRange) → IsSpace ranges → length ranges < MAX_RANGES → IsCodeSize size → at < length ranges → low + size ≤ (get_or ranges at d).start
    → first_hole FIRST_ADDRESS size ranges ≡ first_hole low size (drop at ranges) → IsPlace ranges size low
place_before ranges size low at d space room code less ends hole =
    let found : first_hole low size (drop at ranges) ≡ low = hole_at low size at ranges d less ends in
    subst (IsPlace ranges size) (hole ∙ found) (is_place ranges size space room code)

-- the search comes to the end
pub place_last : (ranges : List CodeRange) (size low at : ℕ) → IsSpace ranges → length ranges < MAX_RANGES → IsCodeSize size → length ranges ≤ at
    → first_hole FIRST_ADDRESS size ranges ≡ first_hole low size (drop at ranges) → IsPlace ranges size low
place_last ranges size low at space room code past hole =
    subst (IsPlace ranges size) (hole ∙ ap (first_hole low size) (drop_all at ranges past)) (is_place ranges size space room code)
