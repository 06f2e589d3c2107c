-- Which elements lists have: those that pass a test, those of two lists, and those of lists from each element.
use Rattle.std.proofs.Common.{◌≡◌, List, [], ◌∷◌, ◌++◌, ◌⊎◌, inl, inr, refl, sym, ap, subst, ◌∙◌}
use Rattle.std.specs.Prelude.{Bool, true, false, cond, filter, flat_map, if◌then◌else◌}
use Rattle.prof_base.proofs.Ordered.{Has}

-- all elements of the first are elements of the second
abbrev pub IsWithin : {X : Type 0} → List X → List X → Type 0
IsWithin {X} xs ys = (x : X) → Has xs x → Has ys x

-- where a test is applied to a list with one more element, what it leaves was in that list
has_kept : {X : Type 0} (x y : X) (b : Bool) (xs ys : List X) → Has (cond b (x ∷ xs) xs) y → (Has xs y → Has ys y) → Has (x ∷ ys) y
has_kept x y true xs ys (inl same) old = inl same
has_kept x y true xs ys (inr h) old = inr (old h)
has_kept x y false xs ys h old = inr (old h)

-- what passes a test was in the list
pub has_filtered : {X : Type 0} (test : X → Bool) (xs : List X) (y : X) → Has (filter test xs) y → Has xs y
has_filtered test [] y h = h
has_filtered test (x ∷ xs) y h = has_kept x y (test x) (filter test xs) xs h (has_filtered test xs y)

passed_kept : {X : Type 0} (test : X → Bool) (x y : X) (b : Bool) (xs : List X) → test x ≡ b → Has (cond b (x ∷ xs) xs) y → (Has xs y → test y ≡ true) → test y ≡ true
passed_kept test x y true xs is (inl same) old = ap test (sym same) ∙ is
passed_kept test x y true xs is (inr h) old = old h
passed_kept test x y false xs is h old = old h

-- what a test leaves passes it
pub filtered_passes : {X : Type 0} (test : X → Bool) (xs : List X) (y : X) → Has (filter test xs) y → test y ≡ true
filtered_passes test [] y h = absurd h
filtered_passes test (x ∷ xs) y h = passed_kept test x y (test x) (filter test xs) refl h (filtered_passes test xs y)

has_still : {X : Type 0} (x y : X) (b : Bool) (xs : List X) → Has xs y → Has (cond b (x ∷ xs) xs) y
has_still x y true xs h = inr h
has_still x y false xs h = h

-- what was in the list and passes is left
pub has_passing : {X : Type 0} (test : X → Bool) (xs : List X) (y : X) → Has xs y → test y ≡ true → Has (filter test xs) y
has_passing test [] y h passes = absurd h
has_passing test (x ∷ xs) y (inl same) passes = subst (λ (b : Bool). Has (cond b (x ∷ filter test xs) (filter test xs)) y) (sym (ap test same ∙ passes)) (inl same)
has_passing test (x ∷ xs) y (inr h) passes = has_still x y (test x) (filter test xs) (has_passing test xs y h passes)

pub filter_within : {X : Type 0} (test : X → Bool) (xs ys : List X) → IsWithin xs ys → IsWithin (filter test xs) (filter test ys)
filter_within test xs ys within x h = has_passing test ys x (within x (has_filtered test xs x h)) (filtered_passes test xs x h)

pub has_if : {X : Type 0} (b : Bool) (xs : List X) (x : X) → Has (if b then xs else []) x → Has xs x
has_if true xs x h = h
has_if false xs x h = absurd h

has_either : {X : Type 0} (xs ys : List X) (x : X) → Has (xs ++ ys) x → Has xs x ⊎ Has ys x
has_either [] ys x h = inr h
has_either (y ∷ xs) ys x (inl same) = inl (inl same)
has_either (y ∷ xs) ys x (inr h) = elim (has_either xs ys x h) [ inl one ↦ inl (inr one) | inr other ↦ inr other ]

-- where lists are made from each element, each of their elements is in the list from one of these
pub flat_map_each : {X Y : Type 0} (f : X → List Y) (P : Y → Type 0) (xs : List X) → ((x : X) (y : Y) → Has (f x) y → P y) → (y : Y) → Has (flat_map f xs) y → P y
flat_map_each f P [] each y h = absurd h
flat_map_each f P (x ∷ xs) each y h = elim (has_either (f x) (flat_map f xs) y h) [ inl here ↦ each x y here | inr later ↦ flat_map_each f P xs each y later ]
