use Rattle.std.proofs.Common.{◌≡◌, ◌≤◌, drop}
use Rattle.code_space.specs.declared.range.TheConstants.{FIRST_ADDRESS, SPACE_END}
use Rattle.code_space.proofs.LeastFit.{first_hole}
use Rattle.code_space.proofs.placing.least_fit.Given as goal

abbrev pub invariant-loop-range : goal.invariant-loop-range
invariant-loop-range l =
    record {
      hole : first_hole FIRST_ADDRESS l.size l.ranges ≡ first_hole l.free l.size (drop l.range-index l.ranges);
      below : l.free ≤ SPACE_END;
    }
