-- What holds of all code objects, their ranges and their space.
use Rattle.std.specs.Prelude.{◌≡◌, ℕ, ◌≤◌, List, ◌++◌, length, map, Option, Some, None}
use Rattle.code_event.specs.CodeMap.{after_event, after_events, ranges}
use Rattle.code_event.specs.Parts.{LayoutParts}
use Rattle.code_event.specs.declared.code_map.Range.{Range}
use Rattle.code_event.specs.declared.event.CodeEvent.{CodeEvent}
use Rattle.code_event.specs.declared.event.CodeEvent.TheVariants.{Create, Delete}
use Rattle.code_space.specs.Compaction.{compacted, moves_between}
use Rattle.code_space.specs.Space.{Fits, IsSpace, inserted, without_range}
use Rattle.code_space.specs.declared.range.CodeRange.{CodeRange}
use Rattle.code_space.specs.declared.range.TheConstants.{FIRST_ADDRESS}
use Rattle.code_objects.specs.Changes.{CodeStays, IsStored, MakesSure, OthersStay, RangesFollow, code_size, move_event, space_of, with_moves, with_start}
use Rattle.code_objects.specs.CodeObjects.{CodeParts, IsCode, LieAt}
use Rattle.code_objects.specs.declared.name.CodeName.{CodeName}

-- Where new code fits into the space, its creation removes no range.
abbrev pub CreatingKeepsCode : Type 0
CreatingKeepsCode =
    (layouts : CodeName → LayoutParts) (starts : CodeName → Option ℕ) (all : List Range) (space : List CodeRange) (name : CodeName) (start : ℕ)
    → IsStored layouts starts all space → IsSpace space → starts name ≡ None → 1 ≤ length (layouts name).slots → Fits space (code_size (layouts name)) start
    → IsStored layouts (with_start starts name (Some start)) (after_event all (Create start (layouts name))) (inserted space (space_of start (layouts name)))

-- The deletion of code removes no other range.
abbrev pub DeletingKeepsCode : Type 0
DeletingKeepsCode =
    (layouts : CodeName → LayoutParts) (starts : CodeName → Option ℕ) (all : List Range) (space : List CodeRange) (name : CodeName) (start : ℕ)
    → IsStored layouts starts all space → starts name ≡ Some start
    → IsStored layouts (with_start starts name None) (after_event all (Delete start)) (without_range space start)

-- Where each range that compaction moves has its event, in rising order, no range is lost, although a move may lead to a place that overlaps its own old place, or that of code that has moved before.
abbrev pub CompactingKeepsCode : Type 0
CompactingKeepsCode =
    (layouts : CodeName → LayoutParts) (starts : CodeName → Option ℕ) (all : List Range) (space : List CodeRange)
    → IsStored layouts starts all space → IsSpace space
    → IsStored layouts (with_moves starts (moves_between space (compacted FIRST_ADDRESS space))) (after_events all (map move_event (moves_between space (compacted FIRST_ADDRESS space)))) (compacted FIRST_ADDRESS space)

-- All ranges at which the code lies are those of its space: they have its starts and its sizes.
abbrev pub CodeHasOneSpace : Type 0
CodeHasOneSpace =
    (layouts : CodeName → LayoutParts) (starts : CodeName → Option ℕ) (all others : List Range) (space : List CodeRange)
    → IsStored layouts starts all space → IsCode layouts starts others → IsStored layouts starts others space

-- Where it is made sure that there is code, all code that was there stays where it is.
abbrev pub NewCodeMovesNone : Type 0
NewCodeMovesNone = (old new : CodeParts) (name : CodeName) (event : Option CodeEvent) → MakesSure old new name event → OthersStay old new name → CodeStays old new

-- The ranges after the events so far, and then more of them, are those after all of them. So where code lies at the ranges of all events so far, it does so after each change.
abbrev pub EventsAddUp : Type 0
EventsAddUp =
    (old new : CodeParts) (events more : List CodeEvent) → LieAt old (ranges events) → RangesFollow old new more → LieAt new (ranges (events ++ more))
