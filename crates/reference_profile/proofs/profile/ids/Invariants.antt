use Rattle.std.proofs.Common.{◌≡◌, take, map}
use Rattle.code_event.specs.Tree.{id_of}
use Rattle.reference_profile.proofs.profile.ids.Given as goal

abbrev pub invariant-loop-visit : goal.invariant-loop-visit
invariant-loop-visit l = l.found ≡ map (λ visit. id_of l.nodes visit.path) (take l.visit-index l.visits)
