-- That the source interval is the greatest common divisor.
use Rattle.std.proofs.Common.{◌≡◌, ℕ, zero, suc, ◌<◌, ◌%◌, ◌/◌, ◌*◌, ◌^◌, List, [], ◌∷◌, ◌++◌, length, take, get_or, refl, ap, subst, sym, ◌+◌, arith}
use Rattle.std.proofs.lemmas.Bool.{cond_both, eqb-true, ltb-true}
use Rattle.std.proofs.lemmas.Bool.Decides.{nat_tests}
use Rattle.std.proofs.lemmas.Nat.Gcd.{IsGcd-from_zero, IsGcd-from_mod, dvd-zero}
use Rattle.std.proofs.Math.Nat.{mod-lt, pow-succ', div-add-mod, le-mul_of_pos_right}
use Rattle.std.proofs.lemmas.List.{append_assoc, append-nil, take_all, get_or_push}
use Rattle.std.proofs.Math.Seq.{take-append_seam}
use Rattle.std.proofs.lemmas.List.{length-append}
use Rattle.std.specs.Prelude.{false, ◌==◌, nat_lt}
use Rattle.std.specs.Int.{IsGcd}
use Rattle.prof_base.proofs.Intervals.{source_of_next}
use Rattle.prof_base.specs.Interval.{rounded_of, IsSourceInterval}
use Rattle.run_schedule.specs.Source.{gcd_within, gcd, source_with, SourcesAreGreatest}

above_zero : (b : ℕ) → (b == 0) ≡ false → 0 < b
above_zero b some = grind (arith, nat_tests)

gcd_is : (times a b : ℕ) → b < times → IsGcd a b (gcd_within times a b)
gcd_is zero a b enough = absurd (omega arith)
gcd_is (suc times) a b enough =
    cond_both (b == 0) a (gcd_within times b (a % b)) (IsGcd a b)
    (λ none. IsGcd-from_zero a b (eqb-true b 0 none))
    (λ some. let smaller : a % b < b = mod-lt a (above_zero b some) in
    let less : a % b < times = omega arith in
    IsGcd-from_mod a b (gcd_within times b (a % b)) (gcd_is times b (a % b) less))

-- two remainders for each binary digit
abbrev digits_twice : ℕ → ℕ
digits_twice zero = zero
digits_twice (suc digits) = suc (suc (digits_twice digits))

divided_once : (b c : ℕ) → 0 < c → c < b → 0 < b / c
divided_once b c some less = grind arith

-- the second remainder is less than half of what the first divides by
remainder_halves : (b c size : ℕ) → 0 < c → c < b → b < 2 * size → b % c < size
remainder_halves b c size some less within =
    let once : 0 < b / c = divided_once b c some less in
    omega (arith, div-add-mod b c, mod-lt b some, le-mul_of_pos_right {m = b / c} c once)

gcd_by_digits : (digits a b : ℕ) → b < 2 ^ digits → IsGcd a b (gcd_within (digits_twice digits) a b)
gcd_by_digits zero a b within = IsGcd-from_zero a b (omega (arith, within))
gcd_by_digits (suc digits) a b within =
    cond_both (b == 0) a (gcd_within (suc (digits_twice digits)) b (a % b)) (IsGcd a b)
    (λ none. IsGcd-from_zero a b (eqb-true b 0 none))
    (λ some. let first = a % b in let smaller : a % b < b = mod-lt a (above_zero b some) in
    IsGcd-from_mod a b (gcd_within (suc (digits_twice digits)) b (a % b))
    (cond_both (a % b == 0) b (gcd_within (digits_twice digits) (a % b) (b % (a % b))) (IsGcd b (a % b))
    (λ none. IsGcd-from_zero b (a % b) (eqb-true (a % b) 0 none))
    (λ rest. IsGcd-from_mod b (a % b) (gcd_within (digits_twice digits) (a % b) (b % (a % b)))
    (gcd_by_digits digits (a % b) (b % (a % b)) (remainder_halves b (a % b) (2 ^ digits) (above_zero (a % b) rest) smaller (omega (arith, within, pow-succ' 2 digits)))))))

-- `gcd` is a greatest common divisor
pub gcd_is_greatest : (a b : ℕ) → IsGcd a b (gcd a b)
gcd_is_greatest a b =
    cond_both (nat_lt b (2 ^ 128)) 256 (suc b) (λ times. IsGcd a b (gcd_within times a b))
    (λ within. gcd_by_digits 128 a b (ltb-true b (2 ^ 128) within))
    (λ wide. gcd_is (suc b) a b (omega arith))

-- the source interval after one more interval
source_of_more : (base interval source next : ℕ) (prefix : List ℕ) → IsSourceInterval base prefix source → IsGcd source (rounded_of base interval) next → IsSourceInterval base (prefix ++ interval ∷ []) next
source_of_more base interval source next prefix is divides =
    let longer = prefix ++ interval ∷ [] in
    let size : length longer ≡ length prefix + 1 = length-append prefix (interval ∷ []) in
    let before : IsSourceInterval base (take (length prefix) longer) source = subst (λ xs. IsSourceInterval base xs source) (sym (take-append_seam prefix (interval ∷ []))) is in
    let rounded : rounded_of base interval ≡ rounded_of base (get_or longer (length prefix) 0) = ap (rounded_of base) (sym (get_or_push prefix interval 0 (length prefix) refl)) in
    subst (λ xs. IsSourceInterval base xs next) (take_all (length prefix + 1) longer (omega (arith, size)))
    (source_of_next base (length prefix) source (rounded_of base interval) next longer (omega (arith, size)) before divides rounded)

source_is : (base source : ℕ) (prefix intervals : List ℕ) → IsSourceInterval base prefix source → IsSourceInterval base (prefix ++ intervals) (source_with base source intervals)
source_is base source prefix [] is = subst (λ xs. IsSourceInterval base xs source) (sym (append-nil prefix)) is
source_is base source prefix (interval ∷ intervals) is =
    let rounded = rounded_of base interval in
    let next = gcd source rounded in
    let more : IsSourceInterval base (prefix ++ interval ∷ []) next = source_of_more base interval source next prefix is (gcd_is_greatest source rounded) in
    subst (λ xs. IsSourceInterval base xs (source_with base next intervals)) (append_assoc prefix (interval ∷ []) intervals) (source_is base next (prefix ++ interval ∷ []) intervals more)

pub sources_are_greatest : SourcesAreGreatest
sources_are_greatest base intervals = source_is base 0 [] intervals (record { common = tt; greatest = λ d h. dvd-zero d })
