use Rattle.std.proofs.Common.{◌≡◌, length}
use Rattle.record_text.specs.ScheduleTexts.{rest_of}
use Rattle.record_text.proofs.schedule_reading.rest.Given as goal

abbrev pub invariant-loop-number : goal.invariant-loop-number
invariant-loop-number l = rest_of l.draft l.lines.lines l.lines.after ≡ rest_of l.fn.draft l.fn.lines.lines l.fn.lines.after

abbrev pub decreases-loop-number : goal.decreases-loop-number
decreases-loop-number l = length l.lines.lines
