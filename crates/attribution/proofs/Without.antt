-- Lists of numbers without one of them.
use Rattle.std.proofs.Common.{◌≡◌, ℕ, suc, ◌≤◌, List, [], ◌∷◌, length, cond, true, false, ◌==◌, inl, inr, refl, sym, ap, subst, ◌∙◌, arith}
use Rattle.std.proofs.lemmas.Bool.Decides.{nat_tests}
use Rattle.std.specs.Prelude.{not}
use Rattle.std.specs.Ordering.{nat_cmp, is_lt, is_eq}
use Rattle.prof_base.proofs.Ordered.{Has}
use Rattle.prof_base.specs.Ordered.{insert_sorted}
use Rattle.code_event.specs.ItemList.{without}

-- no number is listed twice
abbrev pub AreDistinct : List ℕ → Type 0
AreDistinct [] = Unit {0}
AreDistinct (n ∷ ns) = (¬ Has ns n) × AreDistinct ns

pub length_put : (x : ℕ) (ys : List ℕ) → length (insert_sorted nat_cmp x ys) ≤ suc (length ys)
length_put x [] = omega arith
length_put x (y ∷ ys) =
    elim (is_lt (nat_cmp x y)) as (λ b. length (cond b (x ∷ y ∷ ys) (cond (is_eq (nat_cmp x y)) (y ∷ ys) (y ∷ insert_sorted nat_cmp x ys))) ≤ suc (suc (length ys))) [
      | true ↦ omega arith
      | false ↦ elim (is_eq (nat_cmp x y)) as (λ b. length (cond b (y ∷ ys) (y ∷ insert_sorted nat_cmp x ys)) ≤ suc (suc (length ys))) [
        | true ↦ omega arith
        | false ↦ omega (arith, length_put x ys)
      ]
    ]

-- a claim about a list without a number, by whether its first number is that one
by_first : (P : List ℕ → Type 0) (n x : ℕ) (xs : List ℕ) → ((x == n) ≡ true → P (without n xs)) → ((x == n) ≡ false → P (x ∷ without n xs)) → P (without n (x ∷ xs))
by_first P n x xs one other = elim (x == n) as (λ b. (x == n) ≡ b → P (cond (not b) (x ∷ without n xs) (without n xs))) [ true ↦ one | false ↦ other ] refl

pub same_test : (x n : ℕ) → (x == n) ≡ true → x ≡ n
same_test x n e = grind (arith, nat_tests, e)

pub other_test : (x n : ℕ) → (x == n) ≡ false → (n == x) ≡ false
other_test x n e = grind (arith, nat_tests, e)

pub has_without : (n m : ℕ) (xs : List ℕ) → Has (without n xs) m → Has xs m × ((m == n) ≡ false)
has_without n m [] h = absurd h
has_without n m (x ∷ xs) h =
    by_first (λ l. Has l m → Has (x ∷ xs) m × ((m == n) ≡ false)) n x xs
    (λ e more. let rest = has_without n m xs more in (inr rest.0, rest.1))
    (λ e more. elim more [
      | inl same ↦ (inl same, subst (λ k. (k == n) ≡ false) same e)
      | inr old ↦ let rest = has_without n m xs old in (inr rest.0, rest.1)
    ])
    h

pub keeps_others : (n m : ℕ) (xs : List ℕ) → (m == n) ≡ false → Has xs m → Has (without n xs) m
keeps_others n m [] other h = absurd h
keeps_others n m (x ∷ xs) other h =
    by_first (λ l. Has l m) n x xs
    (λ e. elim h [
      | inl same ↦ absurd (let is : m ≡ n = sym same ∙ same_test x n e in grind (arith, nat_tests, is, other))
      | inr old ↦ keeps_others n m xs other old
    ])
    (λ e. elim h [ inl same ↦ inl same | inr old ↦ inr (keeps_others n m xs other old) ])

pub without_at_most : (n : ℕ) (xs : List ℕ) → length (without n xs) ≤ length xs
without_at_most n [] = omega arith
without_at_most n (x ∷ xs) =
    by_first (λ l. length l ≤ suc (length xs)) n x xs (λ e. omega (arith, without_at_most n xs)) (λ e. omega (arith, without_at_most n xs))

pub without_shorter : (n : ℕ) (xs : List ℕ) → Has xs n → suc (length (without n xs)) ≤ length xs
without_shorter n [] h = absurd h
without_shorter n (x ∷ xs) h =
    by_first (λ l. suc (length l) ≤ suc (length xs)) n x xs (λ e. omega (arith, without_at_most n xs))
    (λ e. elim h [
      | inl same ↦ absurd (grind (arith, nat_tests, same, e))
      | inr old ↦ omega (arith, without_shorter n xs old)
    ])

pub without_none : (n : ℕ) (xs : List ℕ) → ¬ Has xs n → without n xs ≡ xs
without_none n [] none = refl
without_none n (x ∷ xs) none =
    by_first (λ l. l ≡ x ∷ xs) n x xs (λ e. absurd (none (inl (same_test x n e)))) (λ e. ap (λ l. x ∷ l) (without_none n xs (λ h. none (inr h))))

pub without_one : (n : ℕ) (xs : List ℕ) → AreDistinct xs → length xs ≤ suc (length (without n xs))
without_one n [] distinct = omega arith
without_one n (x ∷ xs) distinct =
    by_first (λ l. suc (length xs) ≤ suc (length l)) n x xs
    (λ e. let same = ap length (without_none n xs (λ h. distinct.0 (subst (Has xs) (sym (same_test x n e)) h))) in omega (arith, same))
    (λ e. omega (arith, without_one n xs distinct.1))

pub distinct_without : (n : ℕ) (xs : List ℕ) → AreDistinct xs → AreDistinct (without n xs)
distinct_without n [] distinct = tt
distinct_without n (x ∷ xs) distinct =
    by_first AreDistinct n x xs (λ e. distinct_without n xs distinct.1) (λ e. (λ h. distinct.0 (has_without n x xs h).0, distinct_without n xs distinct.1))

pub without_first : (n : ℕ) (xs : List ℕ) → without n (n ∷ xs) ≡ without n xs
without_first n xs = by_first (λ l. l ≡ without n xs) n n xs (λ e. refl) (λ e. absurd (grind (arith, nat_tests, e)))
