-- Lists whose elements all differ, and what holds of each element.
use Rattle.std.proofs.Common.{◌≡◌, ◌≢◌, ℕ, zero, suc, ◌<◌, List, [], ◌∷◌, ◌++◌, length, map, get_or, position, nat_lt, bytes_eq, Bool, true, false, Some, Decides, refl, arith}
use Rattle.std.specs.List.{AllByRecursion, list_any, position_or_len}
use Rattle.std.proofs.lemmas.Bool.{or_parts, or_from, false_from_ne_true}
use Rattle.std.proofs.lemmas.Bool.Decides.{nat_tests, not_from_Decides}
use Rattle.std.proofs.lemmas.List.Sums.{position_or_len_is}
use Rattle.std.proofs.lemmas.Slice.Eq.{bytes_eq-Decides}
use Rattle.guest_program.specs.Program.{AllDiffer}

-- what holds of each element holds of that at an index
pub all_at : {A : Type 0} (P : A → Type 0) (xs : List A) (n : ℕ) (d : A) → n < length xs → AllByRecursion P xs → P (get_or xs n d)
all_at P [] n d within all = absurd (omega arith)
all_at P (x ∷ xs) zero d within all = all.0
all_at P (x ∷ xs) (suc n) d within all = all_at P xs n d (omega arith) all.1

-- what holds of what each element is mapped to
pub all_mapped : {A B : Type 0} (P : A → Type 0) (Q : B → Type 0) (f : A → B) (xs : List A) → ((x : A) → P x → Q (f x)) → AllByRecursion P xs → AllByRecursion Q (map f xs)
all_mapped P Q f [] each all = tt
all_mapped P Q f (x ∷ xs) each all = (each x all.0, all_mapped P Q f xs each all.1)

-- what follows from what holds of each element
pub all_also : {A : Type 0} (P Q : A → Type 0) (xs : List A) → ((x : A) → P x → Q x) → AllByRecursion P xs → AllByRecursion Q xs
all_also P Q [] each all = tt
all_also P Q (x ∷ xs) each all = (each x all.0, all_also P Q xs each all.1)

-- what holds of each element and of one more
pub all_pushed : {A : Type 0} (P : A → Type 0) (xs : List A) (y : A) → AllByRecursion P xs → P y → AllByRecursion P (xs ++ y ∷ [])
all_pushed P [] y all last = (last, tt)
all_pushed P (x ∷ xs) y all last = (all.0, all_pushed P xs y all.1 last)

-- what holds of the element after these
pub all_after : {A : Type 0} (P : A → Type 0) (xs ys : List A) (y : A) → AllByRecursion P (xs ++ y ∷ ys) → P y
all_after P [] ys y all = all.0
all_after P (x ∷ xs) ys y all = all_after P xs ys y all.1

-- none of these is the same as y
abbrev pub NoneIs : {A : Type 0} → List A → A → Type 0
NoneIs xs y = AllByRecursion (λ x. x ≢ y) xs

-- one more element that none of these is
pub differ_pushed : {A : Type 0} (xs : List A) (y : A) → AllDiffer xs → NoneIs xs y → AllDiffer (xs ++ y ∷ [])
differ_pushed [] y all none = (tt, tt)
differ_pushed (x ∷ xs) y all none = (all_pushed (λ z. x ≢ z) xs y all.0 none.0, differ_pushed xs y all.1 none.1)

-- where all differ, none of the first is the one after them
pub differ_after : {A : Type 0} (xs ys : List A) (y : A) → AllDiffer (xs ++ y ∷ ys) → NoneIs xs y
differ_after [] ys y all = tt
differ_after (x ∷ xs) ys y all = (all_after (λ z. x ≢ z) xs ys y all.0, differ_after xs ys y all.1)

-- where all differ, those at two indices do
differ_at : {A : Type 0} (xs : List A) (m n : ℕ) (d : A) → m < n → n < length xs → AllDiffer xs → get_or xs m d ≢ get_or xs n d
differ_at [] m n d before within all = absurd (omega arith)
differ_at (x ∷ xs) m zero d before within all = absurd (omega arith)
differ_at (x ∷ xs) zero (suc n) d before within all = all_at (λ y. x ≢ y) xs n d (omega arith) all.0
differ_at (x ∷ xs) (suc m) (suc n) d before within all = differ_at xs m n d (omega arith) (omega arith) all.1

-- where all differ, each is the first that is the same as itself
pub first_at : (xs : List (List ℕ)) (n : ℕ) (d : List ℕ) → n < length xs → AllDiffer xs → position (λ x. bytes_eq x (get_or xs n d)) xs ≡ Some n
first_at xs n d within all =
    let test = λ (x : List ℕ). bytes_eq x (get_or xs n d) in
    let others = λ (k : ℕ) (before : k < n). false_from_ne_true (test (get_or xs k d)) (λ e. differ_at xs k n d before within all ((bytes_eq-Decides (get_or xs k d) (get_or xs n d)).0 e)) in
    let at : position_or_len test xs ≡ n = position_or_len_is test xs n d (omega arith) others (λ _. (bytes_eq-Decides (get_or xs n d) (get_or xs n d)).1 refl) in
    let inside : nat_lt n (length xs) ≡ true = grind (arith, nat_tests) in
    rw (at, inside) refl

-- no key is this one, where a test that decides it finds none
pub none_from_test : {A B C : Type 0} (made : A → C) (test : C → Bool) (key : A → B) (y : B) (decides : (x : A) → Decides (test (made x)) (key x ≡ y)) (xs : List A)
    → list_any test (map made xs) ≡ false → NoneIs (map key xs) y
none_from_test made test key y decides [] h = tt
none_from_test made test key y decides (x ∷ xs) h =
    let parts = or_parts (test (made x)) (list_any test (map made xs)) h in
    (not_from_Decides (test (made x)) (decides x) parts.0, none_from_test made test key y decides xs parts.1)

-- the test finds none, where no key is this one
pub test_from_none : {A B C : Type 0} (made : A → C) (test : C → Bool) (key : A → B) (y : B) (decides : (x : A) → Decides (test (made x)) (key x ≡ y)) (xs : List A)
    → NoneIs (map key xs) y → list_any test (map made xs) ≡ false
test_from_none made test key y decides [] none = refl
test_from_none made test key y decides (x ∷ xs) none =
    or_from (test (made x)) _ (false_from_ne_true (test (made x)) (λ e. none.0 ((decides x).0 e))) (test_from_none made test key y decides xs none.1)
