-- What is found in a list of which some was taken out, or to which some was added.
use Rattle.std.proofs.Common.{◌≡◌, List, [], ◌∷◌, ◌++◌, refl, ap, ◌∙◌, subst, arith}
use Rattle.std.specs.Prelude.{Bool, true, false, not, cond, filter, find, Option, Some, None}
use Rattle.std.specs.List.{AllByRecursion}
use Rattle.code_event.proofs.EachElement.{all_if}

-- what is kept has what passing adds
pub all_but : {X : Type 0} (P Q : X → Type 0) (test : X → Bool) (xs : List X) → AllByRecursion P xs → ((x : X) → P x → test x ≡ true → Q x) → AllByRecursion Q (filter test xs)
all_but P Q test [] all each = tt
all_but P Q test (x ∷ xs) all each = all_if Q x (filter test xs) (test x) (λ e. each x all.0 e) (all_but P Q test xs all.1 each)

module _ {X : Type 0} (p : X → Bool) where
  found_passes : (x y : X) (ys : List X) (b : Bool) → p y ≡ b → (find p ys ≡ Some x → p x ≡ true) → cond b (Some y) (find p ys) ≡ Some x → p x ≡ true
  found_passes x y ys true passes rest found = grind arith
  found_passes x y ys false passes rest found = rest found

  -- what is found passes
  pub passes : (xs : List X) (x : X) → find p xs ≡ Some x → p x ≡ true
  passes [] x found = absurd (grind arith)
  passes (y ∷ ys) x found = found_passes x y ys (p y) refl (passes ys x) found

  -- what is found has what all have
  has_what_all_have : (P : X → Type 0) (x y : X) (ys : List X) (b : Bool) → P y → (find p ys ≡ Some x → P x) → cond b (Some y) (find p ys) ≡ Some x → P x
  has_what_all_have P x y ys true first rest found = let same : y ≡ x = grind arith in subst P same first
  has_what_all_have P x y ys false first rest found = rest found

  pub found_has : (P : X → Type 0) (xs : List X) (x : X) → AllByRecursion P xs → find p xs ≡ Some x → P x
  found_has P [] x all found = absurd (grind arith)
  found_has P (y ∷ ys) x all found = has_what_all_have P x y ys (p y) all.0 (found_has P ys x all.1) found

  -- after one more, kept or not
  kept_later : (q : X → Bool) (x y : X) (ys : List X) (b c : Bool) → p y ≡ b → q y ≡ c → q x ≡ true
      → (find p ys ≡ Some x → find p (filter q ys) ≡ Some x) → cond b (Some y) (find p ys) ≡ Some x → find p (cond c (y ∷ filter q ys) (filter q ys)) ≡ Some x
  kept_later q x y ys true true e f kept rest found = ap (λ b. cond b (Some y) (find p (filter q ys))) e ∙ found
  kept_later q x y ys false true e f kept rest found = ap (λ b. cond b (Some y) (find p (filter q ys))) e ∙ rest found
  kept_later q x y ys true false e f kept rest found = absurd (grind arith)
  kept_later q x y ys false false e f kept rest found = rest found

  pub found_kept : (q : X → Bool) (xs : List X) (x : X) → find p xs ≡ Some x → q x ≡ true → find p (filter q xs) ≡ Some x
  found_kept q [] x found kept = found
  found_kept q (y ∷ ys) x found kept = kept_later q x y ys (p y) (q y) refl refl kept (λ f. found_kept q ys x f kept) found

  none_later : (q : X → Bool) (y : X) (ys : List X) (b c : Bool) → p y ≡ b
      → (find p ys ≡ None → find p (filter q ys) ≡ None) → cond b (Some y) (find p ys) ≡ None → find p (cond c (y ∷ filter q ys) (filter q ys)) ≡ None
  none_later q y ys true c e rest found = absurd (grind arith)
  none_later q y ys false true e rest found = ap (λ b. cond b (Some y) (find p (filter q ys))) e ∙ rest found
  none_later q y ys false false e rest found = rest found

  pub none_kept : (q : X → Bool) (xs : List X) → find p xs ≡ None → find p (filter q xs) ≡ None
  none_kept q [] found = refl
  none_kept q (y ∷ ys) found = none_later q y ys (p y) (q y) refl (none_kept q ys) found

  -- where all that is found would be kept
  same_case : (q : X → Bool) (xs : List X) (o : Option X) → find p xs ≡ o → ((x : X) → find p xs ≡ Some x → q x ≡ true) → find p (filter q xs) ≡ o
  same_case q xs None found keep = none_kept q xs found
  same_case q xs (Some x) found keep = found_kept q xs x found (keep x found)

  pub same_kept : (q : X → Bool) (xs : List X) → ((x : X) → find p xs ≡ Some x → q x ≡ true) → find p (filter q xs) ≡ find p xs
  same_kept q xs keep = same_case q xs (find p xs) refl keep

  -- where what passes is taken out
  none_passes : (x : X) (xs : List X) (b : Bool) → p x ≡ b → find p (filter (λ y. not (p y)) xs) ≡ None → find p (cond (not b) (x ∷ filter (λ y. not (p y)) xs) (filter (λ y. not (p y)) xs)) ≡ None
  none_passes x xs true e rest = rest
  none_passes x xs false e rest = ap (λ b. cond b (Some x) (find p (filter (λ y. not (p y)) xs))) e ∙ rest

  pub none_left : (xs : List X) → find p (filter (λ x. not (p x)) xs) ≡ None
  none_left [] = refl
  none_left (x ∷ xs) = none_passes x xs (p x) refl (none_left xs)

  -- with more at the end
  before_case : (y : X) (xs ys : List X) (x : X) (b : Bool) → (find p xs ≡ Some x → find p (xs ++ ys) ≡ Some x) → cond b (Some y) (find p xs) ≡ Some x → cond b (Some y) (find p (xs ++ ys)) ≡ Some x
  before_case y xs ys x true rest found = found
  before_case y xs ys x false rest found = rest found

  pub found_before : (xs ys : List X) (x : X) → find p xs ≡ Some x → find p (xs ++ ys) ≡ Some x
  found_before [] ys x found = absurd (grind arith)
  found_before (y ∷ xs) ys x found = before_case y xs ys x (p y) (found_before xs ys x) found

  none_case : (y : X) (xs ys : List X) (b : Bool) → (find p xs ≡ None → find p (xs ++ ys) ≡ find p ys) → cond b (Some y) (find p xs) ≡ None → cond b (Some y) (find p (xs ++ ys)) ≡ find p ys
  none_case y xs ys true rest found = absurd (grind arith)
  none_case y xs ys false rest found = rest found

  pub none_before : (xs ys : List X) → find p xs ≡ None → find p (xs ++ ys) ≡ find p ys
  none_before [] ys found = refl
  none_before (y ∷ xs) ys found = none_case y xs ys (p y) (none_before xs ys) found
