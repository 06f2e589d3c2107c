use Rattle.std.proofs.Common.{arith}
use Rattle.prof_lines.proofs.Numerals.{value_past}
use Rattle.prof_lines.proofs.words.value.Goals as goal

pub returns-in_err-value-clause-none : goal.returns-in_err-value-clause-none
returns-in_err-value-clause-none c = rw c.from_residual.ensures (let e = c.in_err-value.ensures in omega (arith, e.none, value_past _ _ _ c.in-len1-up.len_at_least c.loop-rest.invariant))
