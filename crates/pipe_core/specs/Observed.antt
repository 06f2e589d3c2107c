-- What an end of a queue or ring shows of its lists, and what its answers say. Where a list cannot be observed, each equation says only that it cannot be observed afterwards.
use Rattle.std.specs.Prelude.{◌≡◌, ℕ, suc, List, [], ◌∷◌, ◌++◌, Option, Some, None, option_map}
use Rattle.code_event.specs.declared.tick.Tick.{Tick}
use Rattle.pipe_core.specs.declared.answers.Offered.{Offered}
use Rattle.pipe_core.specs.declared.answers.Offered.TheVariants as offered
use Rattle.pipe_core.specs.declared.answers.Front.{Front}
use Rattle.pipe_core.specs.declared.answers.Front.TheVariants as front
use Rattle.pipe_core.specs.declared.stamp.Stamp.{Stamp}

-- the list with one more at its end
abbrev pub appended : {A : Type 0} → Option (List A) → A → Option (List A)
appended None x = None
appended (Some xs) x = Some (xs ++ x ∷ [])

-- the first of a list, if there is one
abbrev pub first_of : {A : Type 0} → List A → Option A
first_of [] = None
first_of (x ∷ xs) = Some x

-- it can be observed
abbrev pub IsObserved : {A : Type 0} → Option A → Type 0
IsObserved None = ⊥
IsObserved (Some x) = Unit {0}

-- the list has lost its first element, which was this one
abbrev pub LostFirst : {A : Type 0} → Option (List A) → Option (List A) → A → Type 0
LostFirst None after x = after ≡ None
LostFirst {A} (Some xs) after x = (rest : List A) × (xs ≡ x ∷ rest) × (after ≡ Some rest)

-- where the list can be observed, this is its first element, and none exactly where it is empty
abbrev pub HasFirst : {A : Type 0} → Option (List A) → Option A → Type 0
HasFirst None first = Unit {0}
HasFirst (Some xs) first = first ≡ first_of xs

-- where the list can be observed, this is the stamp of its first element, and none exactly where it is empty
abbrev pub ShowsFirst : {A : Type 0} → (A → Stamp) → Option (List A) → Option Stamp → Type 0
ShowsFirst stamp None shown = Unit {0}
ShowsFirst stamp (Some xs) shown = shown ≡ option_map stamp (first_of xs)

-- the first fact holds where there is none, and the second of the one that there is
abbrev pub IfThere : {A : Type 0} → Option A → Type 0 → (A → Type 0) → Type 0
IfThere None P Q = P
IfThere (Some x) P Q = Q x

-- the first fact holds where the tick is in, and the second of the tick that came back where the ring was full
abbrev pub MatchOffered : Offered → Type 0 → (Tick → Type 0) → Type 0
MatchOffered offered.In P Q = P
MatchOffered (offered.Full t) P Q = Q t

-- the first fact holds of the stamp that a look at the front shows, and the second where it finds nothing
abbrev pub MatchFront : Front → (Stamp → Type 0) → Type 0 → Type 0
MatchFront (front.Tick s) P Q = P s
MatchFront front.Empty P Q = Q

-- the number of answers Full after this answer
abbrev pub fulls_after : ℕ → Offered → ℕ
fulls_after n offered.In = n
fulls_after n (offered.Full t) = suc n
