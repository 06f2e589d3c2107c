use Rattle.std.proofs.Common.{ℕ}
use Rattle.std.specs.Int.{IsGcd}
use Rattle.prof_base.proofs.interval.gcd.Given as goal

-- what divides the two numbers that are left divides the two that were given
abbrev pub invariant-loop-smaller : goal.invariant-loop-smaller
invariant-loop-smaller l = (g : ℕ) → IsGcd l.greater l.smaller g → IsGcd l.fn.a l.fn.b g

abbrev pub decreases-loop-smaller : goal.decreases-loop-smaller
decreases-loop-smaller l = l.smaller
