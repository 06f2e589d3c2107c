use Rattle.std.proofs.Common.{◌≡◌, ◌++◌, drop, map}
use Rattle.code_event.specs.Profile.{deltas}
use Rattle.reference_profile.proofs.profile.deltas.Given as goal

abbrev pub invariant-loop-tick : goal.invariant-loop-tick
invariant-loop-tick l = l.found ++ deltas l.before (map (λ tick. tick.time) (drop l.tick-index l.ticks)) ≡ deltas l.fn.start (map (λ tick. tick.time) l.ticks)
