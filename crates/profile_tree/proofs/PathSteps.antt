-- Paths that are one step longer than the same path.
use Rattle.std.proofs.Common.{◌≡◌, List, [], ◌∷◌, ◌++◌, Ordering, Less, Equal, Greater, refl, ap₂}
use Rattle.std.specs.Ordering.{ordering_then}
use Rattle.std.specs.Cmp.{IsTotalOrder}
use Rattle.std.specs.Cmp.Lexicographic.{slice_cmp}
use Rattle.std.proofs.lemmas.Cmp.{tied_itself}

ordering_then-Equal : (r : Ordering) → ordering_then r Equal ≡ r
ordering_then-Equal Less = refl
ordering_then-Equal Equal = refl
ordering_then-Equal Greater = refl

pub slice_cmp-push : {K : Type 0} (R : K → K → Ordering) → IsTotalOrder R → (xs : List K) (x y : K) → slice_cmp R (xs ++ x ∷ []) (xs ++ y ∷ []) ≡ R x y
slice_cmp-push R o [] x y = ordering_then-Equal (R x y)
slice_cmp-push R o (z ∷ zs) x y = ap₂ ordering_then (tied_itself o z) (slice_cmp-push R o zs x y)
