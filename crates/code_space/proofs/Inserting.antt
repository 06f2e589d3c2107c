-- A space with one more range.
use Rattle.std.proofs.Common.{◌≡◌, ℕ, suc, ◌+◌, ◌%◌, ◌<◌, ◌≤◌, ◌⊎◌, inl, inr, List, [], ◌∷◌, length, refl, ap, sym, subst, arith}
use Rattle.std.specs.Prelude.{Bool, true, false, not, cond, Some, None, nat_lt, insert, position}
use Rattle.std.specs.List.{AllByRecursion, position_or_len}
use Rattle.std.proofs.lemmas.Bool.{cond_both}
use Rattle.std.proofs.lemmas.Bool.Decides.{nat_tests}
use Rattle.code_space.specs.Space.{IsCodeRange, IsCodeSize, AreRising, IsSpace, Fits, IsLeastFit, inserted}
use Rattle.code_space.specs.declared.range.CodeRange.{CodeRange}
use Rattle.code_space.specs.declared.range.TheConstants.{FIRST_ADDRESS, SPACE_END, ALIGNMENT, MAX_RANGES}

pub length-inserted : (ranges : List CodeRange) (new : CodeRange) → length (inserted ranges new) ≡ suc (length ranges)
length-inserted [] new = refl
length-inserted (range ∷ ranges) new =
    cond_both (nat_lt new.start range.start) (new ∷ range ∷ ranges) (range ∷ inserted ranges new) (λ all. length all ≡ suc (suc (length ranges)))
    (λ before. refl) (λ behind. ap (λ n. suc n) (length-inserted ranges new))

each_inserted : (ranges : List CodeRange) (new : CodeRange) → AllByRecursion IsCodeRange ranges → IsCodeRange new → AllByRecursion IsCodeRange (inserted ranges new)
each_inserted [] new each is = (is, tt)
each_inserted (range ∷ ranges) new each is =
    cond_both (nat_lt new.start range.start) (new ∷ range ∷ ranges) (range ∷ inserted ranges new) (AllByRecursion IsCodeRange)
    (λ before. (is, each)) (λ behind. (each.0, each_inserted ranges new each.1 is))

ends_before : (start size : ℕ) (range : CodeRange) → nat_lt start range.start ≡ true → (start + size ≤ range.start) ⊎ (range.start + range.size ≤ start) → start + size ≤ range.start
ends_before start size range below (inl before) = before
ends_before start size range below (inr behind) = absurd (grind (arith, nat_tests))

starts_behind : (start size : ℕ) (range : CodeRange) → 1 ≤ size → nat_lt start range.start ≡ false → (start + size ≤ range.start) ⊎ (range.start + range.size ≤ start) → range.start + range.size ≤ start
starts_behind start size range some above (inl before) = absurd (grind (arith, nat_tests))
starts_behind start size range some above (inr behind) = behind

rising_inserted : (low : ℕ) (ranges : List CodeRange) (new : CodeRange) → low ≤ new.start → 1 ≤ new.size → Fits ranges new.size new.start → AreRising low ranges → AreRising low (inserted ranges new)
rising_inserted low [] new from some fits rising = (from, tt)
rising_inserted low (range ∷ ranges) new from some fits rising =
    cond_both (nat_lt new.start range.start) (new ∷ range ∷ ranges) (range ∷ inserted ranges new) (AreRising low)
    (λ before. (from, (ends_before new.start new.size range before fits.0, rising.1)))
    (λ behind. (rising.0, rising_inserted (range.start + range.size) ranges new (starts_behind new.start new.size range some behind fits.0) some fits.1 rising.1))

-- a space stays one where a range is placed at the least fit
pub space_inserted : (ranges : List CodeRange) (start size : ℕ) → IsSpace ranges → length ranges < MAX_RANGES → IsCodeSize size → IsLeastFit ranges size start → start % ALIGNMENT ≡ 0 → start + size ≤ SPACE_END
    → IsSpace (inserted ranges (record { start = start; size = size }))
space_inserted ranges start size space room code fit aligned within =
    let new : CodeRange = record { start = start; size = size } in
    let more = length-inserted ranges new in
    let some = code.least in
    record {
      few = omega (arith, more, room);
      each = each_inserted ranges new space.each (record { size = code; aligned = aligned; within = within });
      rising = rising_inserted FIRST_ADDRESS ranges new fit.above (omega (arith, some)) fit.fits space.rising;
    }

place_within : {X : Type 0} (p : X → Bool) (xs : List X) → position_or_len p xs ≤ length xs
place_within p [] = omega arith
place_within p (x ∷ xs) = let rest = place_within p xs in cond_both (not (p x)) (1 + position_or_len p xs) 0 (λ n. n ≤ suc (length xs)) (λ e. omega (arith, rest)) (λ e. omega arith)

place_found : (b : Bool) (place at : ℕ) → cond b (Some place) None ≡ Some at → place ≡ at
place_found true place at found = cc
place_found false place at found = absurd (cc)

place_past : (b : Bool) (place : ℕ) → cond b (Some place) None ≡ None → b ≡ false
place_past true place none = absurd (cc)
place_past false place none = refl

insert_if : (new range : CodeRange) (ranges : List CodeRange) (before : Bool) (place : ℕ) → insert ranges place new ≡ inserted ranges new
    → insert (range ∷ ranges) (cond (not before) (1 + place) 0) new ≡ cond before (new ∷ range ∷ ranges) (range ∷ inserted ranges new)
insert_if new range ranges true place rest = refl
insert_if new range ranges false place rest =
    let next : suc place ≡ 1 + place = omega arith in
    subst (λ n. insert (range ∷ ranges) n new ≡ range ∷ inserted ranges new) next (ap (λ all. range ∷ all) rest)

insert_first : (start : ℕ) (ranges : List CodeRange) (new : CodeRange) → new.start ≡ start → insert ranges (position_or_len (λ range. nat_lt start range.start) ranges) new ≡ inserted ranges new
insert_first start [] new is = refl
insert_first start (range ∷ ranges) new is =
    let rest = insert_first start ranges new is in
    subst (λ n. insert (range ∷ ranges) (cond (not (nat_lt start range.start)) (1 + position_or_len (λ r. nat_lt start r.start) ranges) 0) new ≡ cond (nat_lt n range.start) (new ∷ range ∷ ranges) (range ∷ inserted ranges new)) (sym is)
    (insert_if new range ranges (nat_lt start range.start) (position_or_len (λ r. nat_lt start r.start) ranges) rest)

-- where a range starts above the address, the new one comes before the first of these
pub insert_before : (start at : ℕ) (ranges : List CodeRange) (new : CodeRange) → position (λ range. nat_lt start range.start) ranges ≡ Some at → new.start ≡ start → insert ranges at new ≡ inserted ranges new
insert_before start at ranges new found is =
    let place = position_or_len (λ range. nat_lt start range.start) ranges in
    subst (λ n. insert ranges n new ≡ inserted ranges new) (place_found (nat_lt place (length ranges)) place at found) (insert_first start ranges new is)

-- else it comes last
pub insert_last : (start : ℕ) (ranges : List CodeRange) (new : CodeRange) → position (λ range. nat_lt start range.start) ranges ≡ None → new.start ≡ start → insert ranges (length ranges) new ≡ inserted ranges new
insert_last start ranges new none is =
    let place = position_or_len (λ range. nat_lt start range.start) ranges in
    let past : nat_lt place (length ranges) ≡ false = place_past (nat_lt place (length ranges)) place none in
    let within : place ≤ length ranges = place_within (λ range. nat_lt start range.start) ranges in
    let last : place ≡ length ranges = grind (arith, nat_tests) in
    subst (λ n. insert ranges n new ≡ inserted ranges new) last (insert_first start ranges new is)
