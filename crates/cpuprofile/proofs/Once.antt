-- Lists in which each number stands at most once.
use Rattle.std.proofs.Common.{◌≡◌, ◌≢◌, ℕ, zero, suc, ◌+◌, ◌<◌, ◌≤◌, List, [], ◌∷◌, ◌++◌, ◌⊎◌, inl, inr, cond, Bool, true, false, Some, eqb, eq-eqb, ne_eqb, refl, sym, ap, arith}
use Rattle.std.specs.List.{AllByRecursion, slice_get, sum_by}
use Rattle.std.specs.List.Sorted.{IsPermutation}
use Rattle.std.proofs.lemmas.List.Sums.{sum_by-cons}
use Rattle.std.proofs.lemmas.List.Sorted.{sum_by-IsPermutation}
use Rattle.std.proofs.lemmas.Bool.Decides.{eqb_tells}
use Rattle.prof_base.specs.Ordered.{numbers_from}
use Rattle.prof_base.proofs.Ordered.{Has}
use Rattle.cpuprofile.specs.Valid.{AreDifferent}

abbrev pub one_if : Bool → ℕ
one_if b = cond b 1 0

-- how often a number stands in a list
abbrev pub times_in : List ℕ → ℕ → ℕ
times_in xs x = sum_by (λ y. one_if (eqb x y)) xs

times_in-cons : (y : ℕ) (xs : List ℕ) (x : ℕ) → times_in (y ∷ xs) x ≡ one_if (eqb x y) + times_in xs x
times_in-cons y xs x = sum_by-cons (λ z. one_if (eqb x z)) y xs

pub times_in-append : (xs ys : List ℕ) (x : ℕ) → times_in (xs ++ ys) x ≡ times_in xs x + times_in ys x
times_in-append [] ys x = omega arith
times_in-append (y ∷ xs) ys x = omega (arith, times_in-cons y (xs ++ ys) x, times_in-cons y xs x, times_in-append xs ys x)

one_itself : (x y : ℕ) → y ≡ x → one_if (eqb x y) ≡ 1
one_itself x y e = ap one_if (eq-eqb x y (sym e))

pub has_times : (xs : List ℕ) (x : ℕ) → Has xs x → 1 ≤ times_in xs x
has_times [] x h = absurd h
has_times (y ∷ xs) x (inl e) = omega (arith, times_in-cons y xs x, one_itself x y e)
has_times (y ∷ xs) x (inr h) = omega (arith, times_in-cons y xs x, has_times xs x h)

pub got_has : {X : Type 0} (xs : List X) (i : ℕ) (x : X) → slice_get xs i ≡ Some x → Has xs x
got_has [] i x e = absurd (cc)
got_has (y ∷ xs) zero x e = inl (cc)
got_has (y ∷ xs) (suc i) x e = inr (got_has xs i x e)

pub has_got : {X : Type 0} (xs : List X) (x : X) → Has xs x → (i : ℕ) × (slice_get xs i ≡ Some x)
has_got [] x h = absurd h
has_got (y ∷ xs) x (inl e) = (0, ap Some e)
has_got (y ∷ xs) x (inr h) = let rest = has_got xs x h in (suc rest.0, rest.1)

-- a number that stands once has one place
pub one_place : (xs : List ℕ) (x i j : ℕ) → times_in xs x ≤ 1 → slice_get xs i ≡ Some x → slice_get xs j ≡ Some x → i ≡ j
one_place [] x i j once e f = absurd (cc)
one_place (y ∷ xs) x zero zero once e f = refl
one_place (y ∷ xs) x zero (suc j) once e f =
    let same : y ≡ x = cc in absurd (omega (arith, times_in-cons y xs x, one_itself x y same, has_times xs x (got_has xs j x f)))
one_place (y ∷ xs) x (suc i) zero once e f =
    let same : y ≡ x = cc in absurd (omega (arith, times_in-cons y xs x, one_itself x y same, has_times xs x (got_has xs i x e)))
one_place (y ∷ xs) x (suc i) (suc j) once e f = ap (λ n. suc n) (one_place xs x i j (omega (arith, times_in-cons y xs x)) e f)

-- ---- numbers that rise by one

pub numbers_within : (start count x : ℕ) → Has (numbers_from start count) x → (start ≤ x) × (x < start + count)
numbers_within start zero x h = absurd h
numbers_within start (suc count) x (inl e) = (omega (arith, e), omega (arith, e))
numbers_within start (suc count) x (inr h) = let rest = numbers_within (suc start) count x h in (omega (arith, rest.0), omega (arith, rest.1))

pub found_next : (start x : ℕ) → start ≤ x → (start ≡ x) ⊎ (suc start ≤ x)
found_next start x h = grind arith

pub within_numbers : (start count x : ℕ) → start ≤ x → x < start + count → Has (numbers_from start count) x
within_numbers start zero x low high = absurd (omega arith)
within_numbers start (suc count) x low high = elim (found_next start x low) [
  | inl e ↦ inl e
  | inr more ↦ inr (within_numbers (suc start) count x more (omega arith))
]

one_other : (x y : ℕ) → x ≢ y → one_if (eqb x y) ≡ 0
one_other x y e = ap one_if (ne_eqb x y e)

none_below : (start count x : ℕ) → x < start → times_in (numbers_from start count) x ≡ 0
none_below start zero x h = refl
none_below start (suc count) x h =
    omega (arith, times_in-cons start (numbers_from (suc start) count) x, one_other x start (λ e. omega arith), none_below (suc start) count x (omega arith))

at_most_one : (b : Bool) → one_if b ≤ 1
at_most_one true = omega arith
at_most_one false = omega arith

split_first : (start x : ℕ) → (x ≡ start) ⊎ (x ≢ start)
split_first start x = elim (eqb_tells x start) [ inl same ↦ inl same.1 | inr other ↦ inr other.1 ]

pub numbers_once : (start count x : ℕ) → times_in (numbers_from start count) x ≤ 1
numbers_once start zero x = omega arith
numbers_once start (suc count) x = elim (split_first start x) [
  | inl e ↦ omega (arith, times_in-cons start (numbers_from (suc start) count) x, at_most_one (eqb x start), none_below (suc start) count x (omega arith))
  | inr other ↦ omega (arith, times_in-cons start (numbers_from (suc start) count) x, one_other x start other, numbers_once (suc start) count x)
]

pub permuted_once : (xs : List ℕ) (start count : ℕ) → IsPermutation xs (numbers_from start count) → (x : ℕ) → times_in xs x ≤ 1
permuted_once xs start count same x = omega (arith, sum_by-IsPermutation (λ y. one_if (eqb x y)) xs (numbers_from start count) same, numbers_once start count x)

others_differ : (start first count : ℕ) → start < first → AllByRecursion (λ other. other ≢ start) (numbers_from first count)
others_differ start first zero h = tt
others_differ start first (suc count) h = ((λ e. omega arith), others_differ start (suc first) count (omega arith))

pub numbers_differ : (start count : ℕ) → AreDifferent (numbers_from start count)
numbers_differ start zero = tt
numbers_differ start (suc count) = (others_differ start (suc start) count (omega arith), numbers_differ (suc start) count)
