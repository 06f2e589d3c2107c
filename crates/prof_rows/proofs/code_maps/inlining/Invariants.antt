use Rattle.std.proofs.Common.{◌≡◌, ◌<◌, length}
use Rattle.std.specs.List.{AllByRecursion}
use Rattle.prof_rows.proofs.code_maps.inlining.Given as goal

abbrev pub invariant-loop-unit : goal.invariant-loop-unit
invariant-loop-unit l = record {
  many : length l.slots ≡ l.unit-index;
  each : AllByRecursion (λ slot. slot.unit < 2) l.slots;
}
