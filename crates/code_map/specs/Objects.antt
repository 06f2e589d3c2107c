-- Code objects, and places in them.
use Rattle.std.specs.Prelude.{◌≡◌, ◌≤◌, ℕ, ◌-◌, ◌/◌, List, length}
use Rattle.std.specs.List.{AllByRecursion}
use Rattle.code_event.specs.CodeMap.{range_of}
use Rattle.code_event.specs.Laws.{AreDisjoint}
use Rattle.code_event.specs.declared.layout.TheConstants.{SLOT_SIZE}
use Rattle.code_event.specs.declared.code_map.Range.{Range}
use Rattle.code_map.specs.declared.found.Found.{Found}

-- a range is the code object of its layout, which has a slot
pub record IsCode (range : Range) : Type 0 where
  pub is_range : range ≡ range_of range.start range.layout
  pub some_slots : 1 ≤ length range.layout.slots

-- these ranges are code objects that share no address
pub record AreCode (ranges : List Range) : Type 0 where
  pub each : AllByRecursion IsCode ranges
  pub disjoint : AreDisjoint ranges

-- the place of an address that lies in a range
abbrev pub found_in : ℕ → Range → Found
found_in address range = record { start = range.start; slot = (address - range.start) / SLOT_SIZE }
