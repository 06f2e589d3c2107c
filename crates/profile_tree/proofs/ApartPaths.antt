-- Paths of which neither is a prefix of the other, in their order.
use Rattle.std.proofs.Common.{◌≡◌, ℕ, List, [], ◌∷◌, ◌++◌, ◌⊎◌, inl, inr, Ordering, Less, refl, sym, ap, ap₂, ◌∙◌}
use Rattle.std.specs.Ordering.{ordering_then}
use Rattle.std.specs.Cmp.{IsTotalOrder}
use Rattle.std.specs.Cmp.Lexicographic.{slice_cmp}
use Rattle.std.proofs.lemmas.Cmp.{tied_itself}
use Rattle.prof_base.proofs.Ordered.{Has}
use Rattle.profile_tree.proofs.RisingLists.{has_append}

module _ {K : Type 0} (R : K → K → Ordering) where
  -- the first has the lesser element where they first differ
  abbrev pub IsApart : List K → List K → Type 0
  IsApart [] ys = ⊥
  IsApart (x ∷ xs) [] = ⊥
  IsApart (x ∷ xs) (y ∷ ys) = (R x y ≡ Less) ⊎ ((x ≡ y) × IsApart xs ys)

  pub apart_longer : (xs ys more : List K) → IsApart xs ys → IsApart (xs ++ more) ys
  apart_longer [] ys more h = absurd h
  apart_longer (x ∷ xs) [] more h = absurd h
  apart_longer (x ∷ xs) (y ∷ ys) more (inl less) = inl less
  apart_longer (x ∷ xs) (y ∷ ys) more (inr both) = inr (both.0, apart_longer xs ys more both.1)

  pub apart_siblings : (xs : List K) (x y : K) → R x y ≡ Less → IsApart (xs ++ x ∷ []) (xs ++ y ∷ [])
  apart_siblings [] x y less = inl less
  apart_siblings (z ∷ zs) x y less = inr (refl, apart_siblings zs x y less)

  module _ (o : IsTotalOrder R) where
    pub apart_less : (xs ys : List K) → IsApart xs ys → slice_cmp R xs ys ≡ Less
    apart_less [] ys h = absurd h
    apart_less (x ∷ xs) [] h = absurd h
    apart_less (x ∷ xs) (y ∷ ys) (inl less) = ap (λ r. ordering_then r (slice_cmp R xs ys)) less
    apart_less (x ∷ xs) (y ∷ ys) (inr both) = ap₂ ordering_then (ap (λ z. R x z) (sym both.0) ∙ tied_itself o x) (apart_less xs ys both.1)

    pub prefix_less : (xs : List K) (y : K) (ys : List K) → slice_cmp R xs (xs ++ y ∷ ys) ≡ Less
    prefix_less [] y ys = refl
    prefix_less (x ∷ xs) y ys = ap₂ ordering_then (tied_itself o x) (prefix_less xs y ys)

  -- all of these keys have such paths, in their order
  abbrev pub AreApart : (ℕ → List K) → List ℕ → Type 0
  AreApart path [] = Unit {0}
  AreApart path (key ∷ keys) = ((other : ℕ) → Has keys other → IsApart (path key) (path other)) × AreApart path keys

  pub apart_append : (path : ℕ → List K) (keys others : List ℕ) → AreApart path keys → AreApart path others
      → ((one other : ℕ) → Has keys one → Has others other → IsApart (path one) (path other)) → AreApart path (keys ++ others)
  apart_append path [] others first second across = second
  apart_append path (key ∷ keys) others first second across = (
    λ other has. elim (has_append keys others other has) [
      | inl near ↦ first.0 other near
      | inr far ↦ across key other (inl refl) far
    ],
    apart_append path keys others first.1 second (λ one other near far. across one other (inr near) far),
  )
