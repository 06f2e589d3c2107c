use Rattle.std.proofs.Common.{◌≡◌, ◌≤◌, ◌+◌, ◌*◌, length, take, slice_index}
use Rattle.std.specs.Prelude.{sum_by}
use Rattle.guest_program.specs.InlinedSize.{taken_in}
use Rattle.code_layout.specs.declared.sizes.TheConstants.{MAX_PART}
use Rattle.code_layout.proofs.sizes.size_by.Given as goal

abbrev pub invariant-loop-instr : goal.invariant-loop-instr
invariant-loop-instr l = record {
  size : l.size ≡ length l.body + sum_by (taken_in l.funcs (λ callee. slice_index l.sizes callee)) (take l.instr-index l.body);
  bound : l.size ≤ length l.body + l.instr-index * MAX_PART;
}
