-- Words of the proofs that code objects are kept: where they start, and ranges that are slid down one after the other.
use Rattle.std.specs.Prelude.{◌≡◌, ℕ, ◌+◌, ◌≤◌, List, [], ◌∷◌, ◌==◌, Option, Some, option_map, if◌then◌else◌}
use Rattle.code_event.specs.CodeMap.{range_of}
use Rattle.code_event.specs.Parts.{LayoutParts}
use Rattle.code_event.specs.declared.code_map.Range.{Range}
use Rattle.code_space.specs.Compaction.{compacted, moves_between}
use Rattle.code_space.specs.declared.range.CodeMove.{CodeMove}
use Rattle.code_space.specs.declared.range.CodeRange.{CodeRange}
use Rattle.code_objects.specs.declared.name.CodeName.{CodeName}

-- where the code objects start that there are
abbrev pub Starts : Type 0
Starts = CodeName → Option ℕ

-- the layout of each code
abbrev pub Layouts : Type 0
Layouts = CodeName → LayoutParts

-- a range is that of a code object
abbrev pub IsOfCode : Layouts → Starts → Range → Type 0
IsOfCode layouts starts range = (name : CodeName) × (starts name ≡ Some range.start) × (range ≡ range_of range.start (layouts name))

-- ranges that have a size, each at or above the end of the one before
abbrev pub AreRising : ℕ → List CodeRange → Type 0
AreRising low [] = Unit {0}
AreRising low (span ∷ spans) = (low ≤ span.start) × (1 ≤ span.size) × AreRising (span.start + span.size) spans

-- the moves of ranges that are slid down to this address
abbrev pub moves : ℕ → List CodeRange → List CodeMove
moves low spans = moves_between spans (compacted low spans)

-- the code object at the one address is at the other
abbrev pub moved : Starts → CodeMove → Starts
moved starts move name = option_map (λ start. if move.from == start then move.to else start) (starts name)

abbrev pub all_moved : Starts → List CodeMove → Starts
all_moved starts [] = starts
all_moved starts (move ∷ moves) = all_moved (moved starts move) moves
