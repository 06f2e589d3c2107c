-- Parts of lists by their places, and slots that are found.
use Rattle.std.proofs.Common.{◌≡◌, ℕ, zero, suc, ◌+◌, List, [], ◌∷◌, ◌++◌, length, refl, ap, ◌∙◌, subst, arith}
use Rattle.std.proofs.lemmas.Bool.{eqb-true, eq-eqb, and_parts, and_from}
use Rattle.std.specs.Prelude.{Bool, true, false, cond, Some, ◌==◌, ◌&&◌}
use Rattle.std.specs.List.{slice_get, AllByRecursion}
use Rattle.code_event.specs.declared.layout.Slot.{Slot}
use Rattle.code_layout.specs.Laws.{slot_from, FoundSlotsAreRight}

-- these stand in the list from this place on
abbrev pub StandAt : {X : Type 0} → List X → ℕ → List X → Type 0
StandAt all place [] = Unit {0}
StandAt all place (x ∷ xs) = (slice_get all place ≡ Some x) × StandAt all (suc place) xs

-- it holds of each of these with its number, of which the first has this one
abbrev pub AllNumbered : {X : Type 0} → (ℕ → X → Type 0) → ℕ → List X → Type 0
AllNumbered P number [] = Unit {0}
AllNumbered P number (x ∷ xs) = P number x × AllNumbered P (suc number) xs

pub stand_behind : {X : Type 0} (x : X) (all : List X) (place : ℕ) (xs : List X) → StandAt all place xs → StandAt (x ∷ all) (suc place) xs
stand_behind x all place [] stand = tt
stand_behind x all place (y ∷ xs) stand = (stand.0, stand_behind x all (suc place) xs stand.1)

-- a list stands in itself
pub stands : {X : Type 0} (all : List X) → StandAt all 0 all
stands [] = tt
stands (x ∷ xs) = (refl, stand_behind x xs 0 xs (stands xs))

pub stand_left : {X : Type 0} (all : List X) (place : ℕ) (xs ys : List X) → StandAt all place (xs ++ ys) → StandAt all place xs
stand_left all place [] ys stand = tt
stand_left all place (x ∷ xs) ys stand = (stand.0, stand_left all (suc place) xs ys stand.1)

pub stand_right : {X : Type 0} (all : List X) (place : ℕ) (xs ys : List X) → StandAt all place (xs ++ ys) → StandAt all (place + length xs) ys
stand_right all place [] ys stand = let same : place ≡ place + 0 = omega arith in subst (λ p. StandAt all p ys) same stand
stand_right all place (x ∷ xs) ys stand =
    let same : suc place + length xs ≡ place + suc (length xs) = omega arith in subst (λ p. StandAt all p ys) same (stand_right all (suc place) xs ys stand.1)

pub numbered_both : {X : Type 0} (P : ℕ → X → Type 0) (number : ℕ) (xs ys : List X) → AllNumbered P number xs → AllNumbered P (number + length xs) ys → AllNumbered P number (xs ++ ys)
numbered_both P number [] ys front back = let same : number + 0 ≡ number = omega arith in subst (λ n. AllNumbered P n ys) same back
numbered_both P number (x ∷ xs) ys front back =
    let same : number + suc (length xs) ≡ suc number + length xs = omega arith in
    (front.0, numbered_both P (suc number) xs ys front.1 (subst (λ n. AllNumbered P n ys) same back))

-- it holds of the one with a number
pub numbered_at : {X : Type 0} (P : ℕ → X → Type 0) (number : ℕ) (xs : List X) (place : ℕ) (x : X) → AllNumbered P number xs → slice_get xs place ≡ Some x → P (number + place) x
numbered_at P number [] place x all found = absurd (grind arith)
numbered_at P number (y ∷ xs) zero x all found =
    let same : y ≡ x = grind arith in let here : number ≡ number + 0 = omega arith in
    subst (λ n. P n x) here (subst (P number) same all.0)
numbered_at P number (y ∷ xs) (suc place) x all found =
    let same : suc number + place ≡ number + suc place = omega arith in subst (λ n. P n x) same (numbered_at P (suc number) xs place x all.1 found)

pub all_both : {X : Type 0} (P : X → Type 0) (xs ys : List X) → AllByRecursion P xs → AllByRecursion P ys → AllByRecursion P (xs ++ ys)
all_both P [] ys front back = back
all_both P (x ∷ xs) ys front back = (front.0, all_both P xs ys front.1 back)

pub all_left : {X : Type 0} (P : X → Type 0) (xs ys : List X) → AllByRecursion P (xs ++ ys) → AllByRecursion P xs
all_left P [] ys all = tt
all_left P (x ∷ xs) ys all = (all.0, all_left P xs ys all.1)

pub all_right : {X : Type 0} (P : X → Type 0) (xs ys : List X) → AllByRecursion P (xs ++ ys) → AllByRecursion P ys
all_right P [] ys all = all
all_right P (x ∷ xs) ys all = all_right P xs ys all.1

-- what is found stands there
found_case : (slots : List Slot) (slot : Slot) (from unit index place : ℕ) (b : Bool) → (slot.unit == unit && slot.index == index) ≡ b
    → (slot_from (suc from) slots unit index ≡ Some place → (k : ℕ) × (s : Slot) × (place ≡ suc from + k) × (slice_get slots k ≡ Some s) × (s.unit ≡ unit) × (s.index ≡ index))
    → cond b (Some from) (slot_from (suc from) slots unit index) ≡ Some place
    → (k : ℕ) × (s : Slot) × (place ≡ from + k) × (slice_get (slot ∷ slots) k ≡ Some s) × (s.unit ≡ unit) × (s.index ≡ index)
found_case slots slot from unit index place true e rest found =
    let both = and_parts (slot.unit == unit) (slot.index == index) e in
    let here : from ≡ place = grind arith in
    (0, slot, omega (arith, here), refl, eqb-true slot.unit unit both.0, eqb-true slot.index index both.1)
found_case slots slot from unit index place false e rest found =
    let behind = rest found in let at = behind.2 in (suc behind.0, behind.1, omega (arith, at), behind.3, behind.4, behind.5)

found_from : (slots : List Slot) (from unit index place : ℕ) → slot_from from slots unit index ≡ Some place
    → (k : ℕ) × (s : Slot) × (place ≡ from + k) × (slice_get slots k ≡ Some s) × (s.unit ≡ unit) × (s.index ≡ index)
found_from [] from unit index place found = absurd (grind arith)
found_from (slot ∷ slots) from unit index place found =
    found_case slots slot from unit index place (slot.unit == unit && slot.index == index) refl (found_from slots (suc from) unit index place) found

pub found_is_right : FoundSlotsAreRight
found_is_right layout unit index place found =
    let is = found_from layout.slots 0 unit index place found in
    let at = is.2 in
    let same : is.0 ≡ place = omega (arith, at) in
    (is.1, subst (λ p. slice_get layout.slots p ≡ Some is.1) same is.3, is.4, is.5)

-- a slot of the list is found
abbrev pub HasSlot : List Slot → ℕ → ℕ → Type 0
HasSlot slots unit index = (place : ℕ) × (slot_from 0 slots unit index ≡ Some place)

here_case : (from later : ℕ) (b : Bool) → (place : ℕ) × (cond b (Some from) (Some later) ≡ Some place)
here_case from later true = (from, refl)
here_case from later false = (later, refl)

first_found : (slot : Slot) (slots : List Slot) (from : ℕ) → (place : ℕ) × (slot_from from (slot ∷ slots) slot.unit slot.index ≡ Some place)
first_found slot slots from =
    (from, ap (λ b. cond b (Some from) (slot_from (suc from) slots slot.unit slot.index)) (and_from (slot.unit == slot.unit) (slot.index == slot.index) (eq-eqb slot.unit slot.unit refl) (eq-eqb slot.index slot.index refl)))

found_behind : (first : Slot) (slots : List Slot) (from unit index : ℕ) → (place : ℕ) × (slot_from (suc from) slots unit index ≡ Some place) → (place : ℕ) × (slot_from from (first ∷ slots) unit index ≡ Some place)
found_behind first slots from unit index found =
    let either = here_case from found.0 (first.unit == unit && first.index == index) in
    (either.0, ap (λ o. cond (first.unit == unit && first.index == index) (Some from) o) found.1 ∙ either.1)

-- each slot of a list is found in one that ends with it
all_found : (slots : List Slot) → (from : ℕ) → AllByRecursion (λ s. (place : ℕ) × (slot_from from slots s.unit s.index ≡ Some place)) slots
all_found [] from = tt
all_found (slot ∷ slots) from = (first_found slot slots from, behind slots (all_found slots (suc from)))
  where
    behind : (ss : List Slot) → AllByRecursion (λ s. (place : ℕ) × (slot_from (suc from) slots s.unit s.index ≡ Some place)) ss
        → AllByRecursion (λ s. (place : ℕ) × (slot_from from (slot ∷ slots) s.unit s.index ≡ Some place)) ss
    behind [] all = tt
    behind (s ∷ ss) all = (found_behind slot slots from s.unit s.index all.0, behind ss all.1)

pub each_slot_is_found : (slots : List Slot) → AllByRecursion (λ s. HasSlot slots s.unit s.index) slots
each_slot_is_found slots = all_found slots 0
