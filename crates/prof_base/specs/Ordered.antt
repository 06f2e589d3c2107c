-- Sets as lists that rise in an order, in which each element occurs once; and the places of their elements.
use Rattle.std.specs.Prelude.{◌≡◌, ℕ, zero, suc, List, [], ◌∷◌, Bool, ◌||◌, cond, count_by}
use Rattle.std.specs.List.{AllByRecursion}
use Rattle.std.specs.declared.cmp.Ordering.{Ordering}
use Rattle.std.specs.declared.cmp.Ordering.TheVariants.{Less}
use Rattle.std.specs.Ordering.{is_lt, is_eq}

-- x is put before the first element that it is less than; nothing changes if an equal element comes first
abbrev pub insert_sorted : {K : Type 0} → (K → K → Ordering) → K → List K → List K
insert_sorted R x [] = x ∷ []
insert_sorted R x (y ∷ ys) = cond (is_lt (R x y)) (x ∷ y ∷ ys) (cond (is_eq (R x y)) (y ∷ ys) (y ∷ insert_sorted R x ys))

-- the search for the place of x ends at the first y for which this holds: x is less than y, or they are equal
abbrev pub stops : {K : Type 0} → (K → K → Ordering) → K → K → Bool
stops R x y = is_lt (R x y) || is_eq (R x y)

-- each of these is greater than x
abbrev pub AllAfter : {K : Type 0} → (K → K → Ordering) → K → List K → Type 0
AllAfter R x ys = AllByRecursion (λ y. R x y ≡ Less) ys

-- each is greater than all before it
abbrev pub Rises : {K : Type 0} → (K → K → Ordering) → List K → Type 0
Rises R [] = Unit {0}
Rises R (x ∷ xs) = AllAfter R x xs × Rises R xs

-- how many elements are less than x
abbrev pub before : {K : Type 0} → (K → K → Ordering) → K → List K → ℕ
before R x xs = count_by (λ y. is_lt (R y x)) xs

-- the place of x, from 1
abbrev pub place : {K : Type 0} → (K → K → Ordering) → List K → K → ℕ
place R xs x = suc (before R x xs)

-- the given count of numbers that rise by one, of which the first is start
abbrev pub numbers_from : ℕ → ℕ → List ℕ
numbers_from start zero = []
numbers_from start (suc count) = start ∷ numbers_from (suc start) count
