use Rattle.std.proofs.Common.{◌≡◌, ℕ, ◌<◌, length, slice_index}
use Rattle.code_layout.specs.Sizes.{size_by}
use Rattle.code_layout.proofs.sizes.next_row.Given as goal

abbrev pub invariant-loop-number : goal.invariant-loop-number
invariant-loop-number l = record {
  count : length l.row.items ≡ l.number;
  each : (number : ℕ) → number < l.number → slice_index l.row.items number ≡ size_by l.funcs l.sizes number;
}
