use Rattle.std.proofs.Common.{arith}
use Rattle.code_event.proofs.TreeHits.{lines_count_hits}
use Rattle.code_event.proofs.laws.tree.each_hit_is_at_one_line.Goals as goal

pub returns-clause-exact : goal.returns-clause-exact
returns-clause-exact c = lines_count_hits

pub returns-clause-within : goal.returns-clause-within
returns-clause-within c visits node = omega (arith, lines_count_hits visits node)
