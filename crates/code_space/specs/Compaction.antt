-- What compaction makes of a space: all ranges slid down, and which of them have moved.
use Rattle.std.specs.Prelude.{ℕ, ◌+◌, List, [], ◌∷◌, ◌==◌, if◌then◌else◌}
use Rattle.code_space.specs.declared.range.CodeMove.{CodeMove}
use Rattle.code_space.specs.declared.range.CodeRange.{CodeRange}

-- the ranges in the same order and with the same sizes, the first at this address, each other where the one before ends
abbrev pub compacted : ℕ → List CodeRange → List CodeRange
compacted low [] = []
compacted low (range ∷ ranges) = record { start = low; size = range.size } ∷ compacted (low + range.size) ranges

-- of ranges before and after, one for one: from where to where each went that does not start where it did
abbrev pub moves_between : List CodeRange → List CodeRange → List CodeMove
moves_between [] after = []
moves_between (old ∷ before) [] = []
moves_between (old ∷ before) (new ∷ after) =
    if old.start == new.start then moves_between before after else record { from = old.start; to = new.start } ∷ moves_between before after
