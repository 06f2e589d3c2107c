-- The sessions that were started, with one more.
use Rattle.std.proofs.Common.{◌≡◌, ◌∙◌, ℕ, List, [], ◌∷◌, Bool, true, false, ◌||◌, ◌==◌, Ordering, Less, Equal, Greater, refl, ap}
use Rattle.std.specs.Ordering.{nat_cmp, match_ordering}
use Rattle.std.specs.BTreeSet.{insert_key}
use Rattle.std.proofs.lemmas.Map.Lookups.{exact_unsigned}
use Rattle.code_event.specs.ItemList.{ListSoFar}
use Rattle.item_text.specs.ItemRules.{is_among}
use Rattle.item_text.specs.ItemDraft.{Agree}

or_twice : (x y : Bool) → (x || y) ≡ (x || (x || y))
or_twice true y = refl
or_twice false y = refl

or_swap : (x y z : Bool) → (x || (y || z)) ≡ (y || (x || z))
or_swap true true z = refl
or_swap true false z = refl
or_swap false y z = refl

among_by : (m n x : ℕ) (xs : List ℕ) (r : Ordering) → nat_cmp m x ≡ r → is_among (insert_key nat_cmp xs m) n ≡ ((m == n) || is_among xs n)
    → is_among (match_ordering r (m ∷ x ∷ xs) (x ∷ xs) (x ∷ insert_key nat_cmp xs m)) n ≡ ((m == n) || is_among (x ∷ xs) n)
among_by m n x xs Less e later = refl
among_by m n x xs Equal e later = let same : m ≡ x = exact_unsigned m x e in rw same (or_twice (x == n) (is_among xs n))
among_by m n x xs Greater e later = ap (λ (z : Bool). (x == n) || z) later ∙ or_swap (x == n) (m == n) (is_among xs n)

-- the keys of a set with one more
pub among_insert : (m n : ℕ) (xs : List ℕ) → is_among (insert_key nat_cmp xs m) n ≡ ((m == n) || is_among xs n)
among_insert m n [] = refl
among_insert m n (x ∷ xs) = among_by m n x xs (nat_cmp m x) refl (among_insert m n xs)

-- what is kept after a start
pub agree_started : (before : ListSoFar) (session time : ℕ) (keys running : List ℕ) → keys ≡ insert_key nat_cmp before.started session → running ≡ session ∷ before.running
    → Agree (record { time = time; started = keys; running = running }) (record { time = time; started = session ∷ before.started; running = session ∷ before.running })
agree_started before session time keys running same latest = record { time = refl; running = latest; started = λ n. rw same (among_insert session n before.started) }
