use Rattle.std.proofs.Common.{◌≡◌, ℕ, length, []}
use Rattle.code_layout.specs.Places.{row_at}
use Rattle.code_layout.proofs.table.empty_rows.Given as goal

abbrev pub invariant-loop-unit : goal.invariant-loop-unit
invariant-loop-unit l = record {
  count : length l.rows.items ≡ l._unit;
  empty : (unit : ℕ) → row_at l.rows.items unit ≡ [];
}
