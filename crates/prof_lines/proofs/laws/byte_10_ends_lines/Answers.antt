use Rattle.prof_lines.proofs.Canonical.{lines_of-line}
use Rattle.prof_lines.proofs.LineLaws.{lines_of-last}
use Rattle.prof_lines.proofs.laws.byte_10_ends_lines.Goals as goal

pub returns-clause-last : goal.returns-clause-last
returns-clause-last c = λ line some one. lines_of-last line some one

pub returns-clause-ended : goal.returns-clause-ended
returns-clause-ended c = λ line rest one. lines_of-line line rest one
