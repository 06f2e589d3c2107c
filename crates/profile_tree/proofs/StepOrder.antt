-- The order of steps.
use Rattle.std.proofs.Common.{◌≡◌, refl}
use Rattle.std.specs.declared.cmp.Ordering.{Ordering}
use Rattle.std.specs.declared.cmp.Ordering.TheVariants.{Less, Equal, Greater}
use Rattle.std.specs.Ordering.{ordering_then}

then_assoc : (a b c : Ordering) → ordering_then (ordering_then a b) c ≡ ordering_then a (ordering_then b c)
then_assoc Less b c = refl
then_assoc Equal b c = refl
then_assoc Greater b c = refl

pub then_all : (a b c d e f : Ordering) → ordering_then (ordering_then (ordering_then (ordering_then (ordering_then a b) c) d) e) f ≡ ordering_then a (ordering_then b (ordering_then c (ordering_then d (ordering_then e f))))
then_all a b c d e f = simp then_assoc
