use Rattle.std.proofs.Common.{◌≡◌, [], length}
use Rattle.guest_text.specs.ProgramRules.{rest_of}
use Rattle.guest_text.proofs.reading.rest.Given as goal

abbrev pub invariant-loop-number : goal.invariant-loop-number
invariant-loop-number l = rest_of l.outline l.draft l.lines.lines l.lines.after ≡ rest_of l.fn.outline [] l.fn.lines.lines l.fn.lines.after

abbrev pub decreases-loop-number : goal.decreases-loop-number
decreases-loop-number l = length l.lines.lines
