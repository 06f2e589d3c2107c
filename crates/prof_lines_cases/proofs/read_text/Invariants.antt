use Rattle.std.proofs.Common.{length}
use Rattle.prof_lines_cases.proofs.read_text.Given as goal

abbrev pub decreases-loop-number : goal.decreases-loop-number
decreases-loop-number l = length l.lines.lines
