-- Counts over lists in which nothing occurs twice.
use Rattle.std.proofs.Common.{◌≡◌, ◌+◌, ◌≤◌, List, [], ◌∷◌, refl, ap, ◌∙◌, arith}
use Rattle.std.proofs.lemmas.List.Sums.{sum_by-cons}
use Rattle.std.specs.Prelude.{Bool, true, false, cond, ◌||◌, count_by}
use Rattle.std.specs.List.{AllByRecursion, list_any}

pub count_cons : {X : Type 0} (p : X → Bool) (x : X) (xs : List X) → count_by p (x ∷ xs) ≡ cond (p x) 1 0 + count_by p xs
count_cons p x xs = sum_by-cons (λ y. cond (p y) 1 0) x xs

none_counted : {X : Type 0} (p : X → Bool) (xs : List X) → AllByRecursion (λ x. p x ≡ false) xs → count_by p xs ≡ 0
none_counted p [] none = refl
none_counted p (x ∷ xs) none =
    let both : cond (p x) 1 0 + count_by p xs ≡ 0 = λ i. cond (none.0 i) 1 0 + none_counted p xs none.1 i in
    count_cons p x xs ∙ both

-- each element comes before all that follow it
abbrev pub IsRising : {X : Type 0} → (X → X → Bool) → List X → Type 0
IsRising before [] = Unit {0}
IsRising before (x ∷ xs) = AllByRecursion (λ y. before x y ≡ true) xs × IsRising before xs

-- of an element and one that comes after it, at most one passes
abbrev pub PassesOnce : {X : Type 0} → (X → X → Bool) → (X → Bool) → Type 0
PassesOnce {X} before p = (x y : X) → before x y ≡ true → p x ≡ true → p y ≡ false

count_first : {X : Type 0} (p : X → Bool) (xs : List X) (b : Bool) → (b ≡ true → AllByRecursion (λ y. p y ≡ false) xs) → count_by p xs ≡ cond (list_any p xs) 1 0 → cond b 1 0 + count_by p xs ≡ cond (b || list_any p xs) 1 0
count_first p xs true none after = ap (λ n. 1 + n) (none_counted p xs (none refl))
count_first p xs false none after =
    let same : 0 + count_by p xs ≡ count_by p xs = omega arith in
    same ∙ after

none_after : {X : Type 0} (before : X → X → Bool) (p : X → Bool) → PassesOnce before p → (x : X) → p x ≡ true → (xs : List X) → AllByRecursion (λ y. before x y ≡ true) xs → AllByRecursion (λ y. p y ≡ false) xs
none_after before p once x passes [] all = tt
none_after before p once x passes (y ∷ ys) all = (once x y all.0 passes, none_after before p once x passes ys all.1)

-- in a rising list at most one element passes
counted_once : {X : Type 0} (before : X → X → Bool) (p : X → Bool) → PassesOnce before p → (xs : List X) → IsRising before xs → count_by p xs ≡ cond (list_any p xs) 1 0
counted_once before p once [] rising = refl
counted_once before p once (x ∷ xs) rising =
    count_cons p x xs ∙ count_first p xs (p x) (λ passes. none_after before p once x passes xs rising.0) (counted_once before p once xs rising.1)

one_or_none : (b : Bool) → cond b 1 0 ≤ 1
one_or_none true = omega arith
one_or_none false = omega arith

pub counted_within_one : {X : Type 0} (before : X → X → Bool) (p : X → Bool) → PassesOnce before p → (xs : List X) → IsRising before xs → count_by p xs ≤ 1
counted_within_one before p once xs rising = omega (arith, counted_once before p once xs rising, one_or_none (list_any p xs))
