-- No address is in two ranges.
use Rattle.std.proofs.Common.{◌≡◌, ℕ, ◌+◌, ◌<◌, ◌≤◌, List, [], ◌∷◌, refl, ap, arith}
use Rattle.std.specs.Prelude.{Bool, true, false, cond, count_by, ◌&&◌, nat_le, nat_lt}
use Rattle.std.proofs.lemmas.Bool.Decides.{nat_tests}
use Rattle.std.proofs.lemmas.List.Sums.{sum_by-cons}
use Rattle.code_space.specs.Laws.{holds, AddressesHaveOneOwner}
use Rattle.code_space.specs.Space.{AreRising}
use Rattle.code_space.specs.declared.range.CodeRange.{CodeRange}
use Rattle.code_space.specs.declared.range.TheConstants.{FIRST_ADDRESS}

count_cons : (address : ℕ) (range : CodeRange) (ranges : List CodeRange) → count_by (holds address) (range ∷ ranges) ≡ cond (holds address range) 1 0 + count_by (holds address) ranges
count_cons address range ranges = sum_by-cons (λ r. cond (holds address r) 1 0) range ranges

not_held : (address start size : ℕ) → address < start → (nat_le start address && nat_lt address (start + size)) ≡ false
not_held address start size below = grind (arith, nat_tests)

ends_above : (address start size : ℕ) → (nat_le start address && nat_lt address (start + size)) ≡ true → address < start + size
ends_above address start size held = grind (arith, nat_tests)

none_below : (address low : ℕ) (ranges : List CodeRange) → address < low → AreRising low ranges → count_by (holds address) ranges ≡ 0
none_below address low [] below rising = refl
none_below address low (range ∷ ranges) below rising =
    let from = rising.0 in
    let cons = count_cons address range ranges in
    let here : ◌≡◌ {A = ℕ} (cond (holds address range) 1 0) 0 = ap (λ b. cond b 1 0) (not_held address range.start range.size (omega (arith, below, from))) in
    let rest = none_below address (range.start + range.size) ranges (omega (arith, below, from)) rising.1 in
    omega (arith, cons, here, rest)

one_if : (held : Bool) (count : ℕ) → count ≤ 1 → (held ≡ true → count ≡ 0) → cond held 1 0 + count ≤ 1
one_if true count few none = let zero_left : count ≡ 0 = none refl in omega (arith, zero_left)
one_if false count few none = omega (arith, few)

one_owner : (address low : ℕ) (ranges : List CodeRange) → AreRising low ranges → count_by (holds address) ranges ≤ 1
one_owner address low [] rising = omega arith
one_owner address low (range ∷ ranges) rising =
    let cons = count_cons address range ranges in
    let next = range.start + range.size in
    let few = one_if (holds address range) (count_by (holds address) ranges) (one_owner address next ranges rising.1) (λ held. none_below address next ranges (ends_above address range.start range.size held) rising.1) in
    omega (arith, cons, few)

pub addresses_have_one_owner : AddressesHaveOneOwner
addresses_have_one_owner ranges address space = one_owner address FIRST_ADDRESS ranges space.rising
