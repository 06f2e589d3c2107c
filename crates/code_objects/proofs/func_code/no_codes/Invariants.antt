use Rattle.std.proofs.Common.{◌≡◌, replicate}
use Rattle.code_objects.specs.Objects.{no_code}
use Rattle.code_objects.proofs.func_code.no_codes.Given as goal

abbrev pub invariant-loop-index : goal.invariant-loop-index
invariant-loop-index l = l.codes.items ≡ replicate l._index no_code
