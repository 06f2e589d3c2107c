use Rattle.std.proofs.Common.{◌≡◌, ◌++◌, ◌<◌, ◌^◌, drop, IfSome}
use Rattle.std.specs.Prelude.{None}
use Rattle.reference_profile.specs.Sums.{kept_by_sum}
use Rattle.reference_profile.proofs.subsample.kept_ticks.Given as goal

abbrev pub invariant-loop-tick : goal.invariant-loop-tick
invariant-loop-tick l = record {
  kept : l.found ++ kept_by_sum l.rounded l.since (drop l.tick-index l.ticks) ≡ kept_by_sum l.rounded None l.ticks;
  small : IfSome l.since (λ sum. sum < 2 ^ 32);
}
