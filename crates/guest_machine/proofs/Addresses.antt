-- How the addresses of a stack are listed, from its callers, which are kept oldest first.
use Rattle.std.proofs.Common.{◌≡◌, ℕ, suc, ◌+◌, ◌<◌, ◌≤◌, List, [], ◌∷◌, ◌++◌, length, map, refl, ap, ◌∙◌, sym, subst, arith, append-nil}
use Rattle.std.proofs.lemmas.List.{append_assoc, length-append, length-map, reverse-append}
use Rattle.std.specs.Prelude.{reverse}
use Rattle.std.specs.List.{AllByRecursion}

-- the last of a list is the first of it reversed
last_first : {X : Type 0} (rest left : List X) (x : X) → rest ≡ left ++ x ∷ [] → reverse rest ≡ x ∷ reverse left
last_first rest left x is = ap reverse is ∙ reverse-append left (x ∷ [])

module _ {X : Type 0} (g : X → ℕ) (listed total : List ℕ) (rest : List X) (all : listed ++ map g (reverse rest) ≡ total) where
  -- one more is listed
  pub one_listed : (left : List X) (x : X) → rest ≡ left ++ x ∷ [] → (listed ++ g x ∷ []) ++ map g (reverse left) ≡ total
  one_listed left x is = append_assoc listed (g x ∷ []) (map g (reverse left)) ∙ sym (ap (λ xs. listed ++ map g xs) (last_first rest left x is)) ∙ all

  pub none_left : length rest ≡ 0 → listed ≡ total
  none_left none = sym (append-nil listed) ∙ sym (ap (λ xs. listed ++ map g (reverse xs)) (no_length rest none)) ∙ all
    where
      no_length : {Y : Type 0} (xs : List Y) → length xs ≡ 0 → xs ≡ []
      no_length [] none = refl
      no_length (x ∷ xs) none = absurd (omega (arith, none))

  pub has_room : (most : ℕ) (left : List X) (x : X) → rest ≡ left ++ x ∷ [] → length total ≤ most → length listed < most
  has_room most left x is few =
      let whole : length listed + length (map g (reverse rest)) ≡ length total = sym (length-append listed (map g (reverse rest))) ∙ ap length all in
      let some : length (map g (reverse rest)) ≡ suc (length (map g (reverse left))) = ap (λ xs. length (map g xs)) (last_first rest left x is) in
      omega (arith, whole, some, few)

-- what holds of each of them holds of the last, and of the others
pub all_last : {X : Type 0} (P : X → Type 0) (rest left : List X) (x : X) → AllByRecursion P (reverse rest) → rest ≡ left ++ x ∷ [] → P x × AllByRecursion P (reverse left)
all_last P rest left x all is = subst (AllByRecursion P) (last_first rest left x is) all

-- the length of addresses with those that follow
pub total_length : {X : Type 0} (g : X → ℕ) (first : List ℕ) (xs : List X) → length (first ++ map g xs) ≡ length first + length xs
total_length g first xs = length-append first (map g xs) ∙ ap (λ n. length first + n) (length-map xs g)
