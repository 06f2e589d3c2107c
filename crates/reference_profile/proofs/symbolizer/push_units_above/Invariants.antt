use Rattle.std.proofs.Common.{◌≡◌}
use Rattle.reference_profile.proofs.UnitsAbove.{with_above}
use Rattle.reference_profile.proofs.symbolizer.push_units_above.Given as goal

abbrev pub invariant-loop-passed : goal.invariant-loop-passed
invariant-loop-passed l = with_above l.frames l.layout l._passed l.below ≡ with_above l.initial.frames l.layout 0 l.number
