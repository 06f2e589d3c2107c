use Rattle.std.proofs.Common.{arith}
use Rattle.code_layout.proofs.SizeTable.{are_sizes}
use Rattle.code_layout.proofs.sizes.lengths.Goals as goal

pub returns : goal.returns
returns c = are_sizes c.args.funcs.now 0 c.loop-func.row.items (omega arith) (λ number less. c.loop-func.invariant.each number (omega (arith, less)))
