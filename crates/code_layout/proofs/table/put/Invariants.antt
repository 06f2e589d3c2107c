use Rattle.std.proofs.Common.{◌≡◌, ℕ, ◌+◌, ◌-◌, length}
use Rattle.code_layout.specs.Places.{entry}
use Rattle.code_layout.proofs.table.put.Given as goal

abbrev pub decreases-loop-row : goal.decreases-loop-row
decreases-loop-row l = l.at + 1 - length l.row.items

abbrev pub invariant-loop-row : goal.invariant-loop-row
invariant-loop-row l = (other : ℕ) → entry l.row.items other ≡ entry l.initial.row.items other
