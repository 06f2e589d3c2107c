use Rattle.std.proofs.Common.{◌≡◌, ◌+◌, length}
use Rattle.prof_lines.specs.Words.{len_before}
use Rattle.prof_lines.proofs.spaces.len_before.Given as goal

abbrev pub invariant-loop-rest : goal.invariant-loop-rest
invariant-loop-rest l = record { so_far : l.len + len_before l.stop l.rest ≡ len_before l.stop l.bytes; within : l.len + length l.rest ≡ length l.bytes }

abbrev pub decreases-loop-rest : goal.decreases-loop-rest
decreases-loop-rest l = length l.rest
