-- Sessions that take a tick, one after the other.
use Rattle.std.proofs.Common.{◌≡◌, ℕ, zero, suc, ◌+◌, ◌<◌, List, [], ◌∷◌, length, get_or, set, sym, ap, subst, arith, add-one}
use Rattle.std.specs.List.{AllZip}

-- of the first elements, R holds with the new ones, and the others are the same
abbrev pub FirstBy : {A : Type 0} → (A → A → Type 0) → ℕ → List A → List A → Type 0
FirstBy R zero old now = now ≡ old
FirstBy R (suc at) [] now = ⊥
FirstBy R (suc at) (x ∷ old) [] = ⊥
FirstBy R (suc at) (x ∷ old) (y ∷ now) = R x y × FirstBy R at old now

first_more : {A : Type 0} (R : A → A → Type 0) (at : ℕ) (old now : List A) (x y : A) → at < length now → x ≡ get_or now at x → FirstBy R at old now → R x y → FirstBy R (suc at) old (set now at y)
first_more R zero old [] x y within is all here = absurd (omega arith)
first_more R zero [] (first ∷ now) x y within is all here = absurd (omega (arith, ap length all))
first_more R zero (o ∷ old) (first ∷ now) x y within is all here =
    let same : x ≡ o = cc in
    let rest : now ≡ old = cc in
    (subst (λ z. R z y) same here, rest)
first_more R (suc at) [] now x y within is all here = absurd all
first_more R (suc at) (o ∷ old) [] x y within is all here = absurd all
first_more R (suc at) (o ∷ old) (first ∷ now) x y within is all here = (all.0, first_more R at old now x y (omega arith) is all.1 here)

pub one_more_by : {A : Type 0} (R : A → A → Type 0) (at : ℕ) (old now : List A) (x y : A) → at < length now → x ≡ get_or now at x → FirstBy R at old now → R x y → FirstBy R (at + 1) old (set now at y)
one_more_by R at old now x y within is all here = subst (λ n. FirstBy R n old (set now at y)) (sym (add-one at)) (first_more R at old now x y within is all here)

pub all_by : {A : Type 0} (R : A → A → Type 0) (at : ℕ) (old now : List A) → at ≡ length old → FirstBy R at old now → AllZip R old now
all_by R zero [] now is all = subst (AllZip R []) (sym all) tt
all_by R zero (o ∷ old) now is all = absurd (omega arith)
all_by R (suc at) [] now is all = absurd all
all_by R (suc at) (o ∷ old) [] is all = absurd all
all_by R (suc at) (o ∷ old) (n ∷ now) is all = (all.0, all_by R at old now (omega arith) all.1)
