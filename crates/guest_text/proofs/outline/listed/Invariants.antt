use Rattle.std.proofs.Common.{◌≡◌, length, map}
use Rattle.prof_lines.specs.Lines.{counted}
use Rattle.guest_text.specs.Outline.{functions_of}
use Rattle.guest_text.specs.OutlineDraft.{functions_with}
use Rattle.guest_text.proofs.outline.listed.Given as goal

abbrev pub invariant-loop-line : goal.invariant-loop-line
invariant-loop-line l = functions_with (map (λ label. label.now) l.labels.items) l.sizes.items l.lines.lines ≡ functions_of (counted l.fn.text)

abbrev pub decreases-loop-line : goal.decreases-loop-line
decreases-loop-line l = length l.lines.lines
