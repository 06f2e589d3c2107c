use Rattle.std.proofs.Common.{◌≡◌, ◌<◌, length}
use Rattle.std.specs.List.{AllByRecursion}
use Rattle.prof_rows.proofs.code_maps.layout.Given as goal

abbrev pub invariant-loop-line : goal.invariant-loop-line
invariant-loop-line l = record {
  many : length l.slots ≡ l.line-index;
  each : AllByRecursion (λ slot. slot.unit < 1) l.slots;
}
