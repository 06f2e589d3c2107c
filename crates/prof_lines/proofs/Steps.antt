-- A reader's steps, taken apart: what each gave where the whole was read.
use Rattle.std.proofs.Common.{◌≡◌, List, ℕ, Bool, true, false, cond, Result, Ok, Err, refl, sym, ap, ◌∙◌, bytes_eq, inl, inr, ◌⊎◌}
use Rattle.std.proofs.lemmas.Slice.Eq.{bytes_eq-Decides}
use Rattle.prof_lines.specs.Answers.{◌>>=◌}

pub bind_ok : {A B E : Type 0} (r : Result A E) (f : A → Result B E) (y : B) → (r >>= f) ≡ Ok y → (x : A) × (r ≡ Ok x) × (f x ≡ Ok y)
bind_ok (Ok x) f y h = (x, refl, h)
bind_ok (Err e) f y h = absurd cc

pub ok_same : {A E : Type 0} (x y : A) → ◌≡◌ {A = Result A E} (Ok x) (Ok y) → x ≡ y
ok_same x y h = cc

-- a test that was passed, where its failure is a fault
pub guard_ok : {A E : Type 0} (t : Bool) (r : Result A E) (e : E) (y : A) → cond t r (Err e) ≡ Ok y → (t ≡ true) × (r ≡ Ok y)
guard_ok true r e y h = (refl, h)
guard_ok false r e y h = absurd cc

-- a test that found nothing, where what it finds is a fault
pub guard_not : {A E : Type 0} (t : Bool) (r : Result A E) (e : E) (y : A) → cond t (Err e) r ≡ Ok y → (t ≡ false) × (r ≡ Ok y)
guard_not true r e y h = absurd cc
guard_not false r e y h = (refl, h)

chosen_by : {A E : Type 0} (text name : List ℕ) (t : Bool) (r s : Result A E) (y : A) → bytes_eq text name ≡ t → cond t r s ≡ Ok y → ((name ≡ text) × (r ≡ Ok y)) ⊎ (s ≡ Ok y)
chosen_by text name true r s y e h = inl (sym ((bytes_eq-Decides text name).0 e), h)
chosen_by text name false r s y e h = inr h

-- the word is this name, or it is read as the other reader reads it
pub chosen : {A E : Type 0} (text name : List ℕ) (r s : Result A E) (y : A) → cond (bytes_eq text name) r s ≡ Ok y → ((name ≡ text) × (r ≡ Ok y)) ⊎ (s ≡ Ok y)
chosen text name r s y h = chosen_by text name (bytes_eq text name) r s y refl h

-- what is read is not refused
pub not_both : {B E : Type 0} (r : Result B E) (x : B) (e : E) → r ≡ Ok x → r ≡ Err e → ⊥
not_both {B = B} {E = E} r x e h f = let both : ◌≡◌ {A = Result B E} (Ok x) (Err e) = sym h ∙ f in absurd cc

pub err_same : {B E : Type 0} (d e : E) → ◌≡◌ {A = Result B E} (Err d) (Err e) → d ≡ e
err_same d e h = cc

-- the step that is at fault
pub bind_err : {A B E : Type 0} (r : Result A E) (f : A → Result B E) (e : E) → (r >>= f) ≡ Err e → (r ≡ Err e) ⊎ ((x : A) × (r ≡ Ok x) × (f x ≡ Err e))
bind_err (Ok x) f e h = inr (x, refl, h)
bind_err {B = B} (Err d) f e h = inl (ap (λ z. Err z) (err_same {B = B} d e h))

-- a test that failed, where its failure is a fault
pub guard_err : {A E : Type 0} (t : Bool) (x : A) (d e : E) → cond t (Ok x) (Err d) ≡ Err e → (t ≡ false) × (e ≡ d)
guard_err true x d e h = absurd cc
guard_err {A = A} false x d e h = (refl, sym (err_same {B = A} d e h))

-- a test that found something, where what it finds is a fault
pub guard_found : {A E : Type 0} (t : Bool) (x : A) (d e : E) → cond t (Err d) (Ok x) ≡ Err e → (t ≡ true) × (e ≡ d)
guard_found {A = A} true x d e h = (refl, sym (err_same {B = A} d e h))
guard_found false x d e h = absurd cc
