use Rattle.std.proofs.Common.{◌+◌, ◌≤◌, ◌++◌, length, vec_len, vec_capacity}
use Rattle.code_space.specs.Compaction.{compacted, moves_between}
use Rattle.code_space.specs.declared.range.TheConstants.{FIRST_ADDRESS}
use Rattle.code_space.proofs.Sliding.{IsSlid}
use Rattle.code_space.proofs.compacting.slide.Given as goal

abbrev pub invariant-loop-range : goal.invariant-loop-range
invariant-loop-range l =
    record {
      slid : IsSlid l.initial.ranges l.ranges l.moves.items (l.initial.moves.items ++ moves_between l.initial.ranges (compacted FIRST_ADDRESS l.initial.ranges)) l.free l.range-index;
      room : vec_len l.moves + length l.initial.ranges ≤ vec_capacity l.moves + l.range-index;
    }
