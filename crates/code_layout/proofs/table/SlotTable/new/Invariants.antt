use Rattle.std.proofs.Common.{◌≡◌, ◌≤◌, length, drop}
use Rattle.code_layout.proofs.Places.{HavePlaces}
use Rattle.code_layout.proofs.table.SlotTable.new.Given as goal

abbrev pub decreases-loop-place : goal.decreases-loop-place
decreases-loop-place l = l.place

abbrev pub invariant-loop-place : goal.invariant-loop-place
invariant-loop-place l = record {
  within : l.place ≤ length l.slots;
  count : length l.rows.items ≡ length l.layout.units;
  places : HavePlaces l.rows.items l.place (drop l.place l.slots);
}
