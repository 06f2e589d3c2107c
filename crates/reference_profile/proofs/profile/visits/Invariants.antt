use Rattle.std.proofs.Common.{◌≡◌, take}
use Rattle.code_event.specs.Profile.{visits_of}
use Rattle.reference_profile.proofs.profile.visits.Given as goal

abbrev pub invariant-loop-tick : goal.invariant-loop-tick
invariant-loop-tick l = l.found ≡ visits_of l.mode (take l.tick-index l.ticks)
