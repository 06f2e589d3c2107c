-- The tree of no visits.
use Rattle.std.proofs.Common.{[], ◌∷◌, refl}
use Rattle.std.specs.Prelude.{None}
use Rattle.profile_tree.specs.Node.{fresh}
use Rattle.profile_tree.specs.Grown.{StandsFor, grown}

pub stands_at_first : StandsFor (grown (fresh 0 None ∷ [])) []
unfolding StandsFor
stands_at_first = (λ node. (λ h. h, λ h. h), refl)
