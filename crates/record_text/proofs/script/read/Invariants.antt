use Rattle.std.proofs.Common.{◌≡◌, length}
use Rattle.prof_lines.specs.Folds.{read_lines}
use Rattle.record_text.specs.Scripts.{script_next, script_read}
use Rattle.record_text.proofs.script.read.Given as goal

abbrev pub invariant-loop-number : goal.invariant-loop-number
invariant-loop-number l = read_lines script_next l.draft l.lines.lines ≡ script_read l.text

abbrev pub decreases-loop-number : goal.decreases-loop-number
decreases-loop-number l = length l.lines.lines
