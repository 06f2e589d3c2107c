-- The order of paths.
use Rattle.std.proofs.Common.{◌≡◌, ℕ, zero, suc, min, List, [], ◌∷◌, length, drop, refl, ◌∙◌, arith}
use Rattle.std.specs.declared.cmp.Ordering.{Ordering}
use Rattle.std.specs.declared.cmp.Ordering.TheVariants.{Less, Equal, Greater}
use Rattle.std.specs.Ordering.{ordering_then, nat_cmp}
use Rattle.std.specs.Cmp.{nat_cmp_is}
use Rattle.std.proofs.lemmas.Bool.Decides.{nat_tests}
use Rattle.std.specs.Cmp.Lexicographic.{slice_cmp}

pub then_assoc : (a b c : Ordering) → ordering_then (ordering_then a b) c ≡ ordering_then a (ordering_then b c)
then_assoc Less b c = refl
then_assoc Equal b c = refl
then_assoc Greater b c = refl

pub then_all : (a b c d e f : Ordering) → ordering_then (ordering_then (ordering_then (ordering_then (ordering_then a b) c) d) e) f ≡ ordering_then a (ordering_then b (ordering_then c (ordering_then d (ordering_then e f))))
then_all a b c d e f = simp then_assoc

pub nat_cmp-suc : (a b : ℕ) → nat_cmp a b ≡ nat_cmp (suc a) (suc b)
nat_cmp-suc a b = grind (arith, nat_tests)

-- two lists that are equal as far as the shorter goes
pub slice_cmp-ends : {X : Type 0} (R : X → X → Ordering) (xs ys : List X) (n : ℕ) → n ≡ min (length xs) (length ys) → slice_cmp R (drop n xs) (drop n ys) ≡ nat_cmp (length xs) (length ys)
slice_cmp-ends R [] [] zero e = refl
slice_cmp-ends R [] [] (suc n) e = refl
slice_cmp-ends R [] (y ∷ ys) zero e = nat_cmp_is 0 (suc (length ys)) Less (omega arith)
slice_cmp-ends R [] (y ∷ ys) (suc n) e = absurd (omega arith)
slice_cmp-ends R (x ∷ xs) [] zero e = nat_cmp_is (suc (length xs)) 0 Greater (omega arith)
slice_cmp-ends R (x ∷ xs) [] (suc n) e = absurd (omega arith)
slice_cmp-ends R (x ∷ xs) (y ∷ ys) zero e = absurd (omega arith)
slice_cmp-ends R (x ∷ xs) (y ∷ ys) (suc n) e = slice_cmp-ends R xs ys n (omega arith) ∙ nat_cmp-suc (length xs) (length ys)
