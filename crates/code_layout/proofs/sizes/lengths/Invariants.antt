use Rattle.std.proofs.Common.{◌≡◌, ℕ, ◌<◌, length, slice_index}
use Rattle.guest_program.specs.InlinedSize.{body_of}
use Rattle.code_layout.proofs.sizes.lengths.Given as goal

abbrev pub invariant-loop-func : goal.invariant-loop-func
invariant-loop-func l = record {
  count : length l.row.items ≡ l.func-index;
  each : (number : ℕ) → number < l.func-index → slice_index l.row.items number ≡ length (body_of l.funcs number);
}
