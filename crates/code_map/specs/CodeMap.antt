-- What a code map has, as relations, so that no contract above names what it consists of.
use Rattle.std.specs.Prelude.{◌≡◌, ℕ, List, Option, option_map, find, map}
use Rattle.std.specs.List.{AllByRecursion}
use Rattle.code_event.specs.CodeMap.{after_event, ranges as ranges_after}
use Rattle.code_event.specs.DeoptReasons.{DeoptReasons, reasons_in, reasons_after_event}
use Rattle.code_event.specs.Symbolizer.{holds}
use Rattle.code_event.specs.declared.code_map.Range.{Range}
use Rattle.code_event.specs.declared.entry.Entry.{Entry}
use Rattle.code_event.specs.declared.event.CodeEvent.{CodeEvent}
use Rattle.code_event.specs.declared.profile.FinNode.{FinNode}
use Rattle.code_event.specs.declared.profile.Finished.{Finished}
use Rattle.code_map.specs.Objects.{IsCode, found_in}
use Rattle.code_map.specs.Parts.{MapParts}
use Rattle.code_map.specs.declared.found.Found.{Found}

-- a map's code objects are these ranges, which some events left
pub record IsOfRanges (objects ranges : List Range) : Type 0 where
  pub are : objects ≡ ranges
  pub code : AllByRecursion IsCode ranges
  pub history : List CodeEvent
  pub left : ranges ≡ ranges_after history

-- the map has the code objects of these ranges
unfoldable pub HasRanges : MapParts → List Range → Type 0
HasRanges map ranges = IsOfRanges map.objects ranges

-- the map has these reasons
unfoldable pub HasReasons : MapParts → DeoptReasons → Type 0
HasReasons map reasons = (entry : Entry) → reasons_in map.reasons entry ≡ reasons entry

-- whatever ranges the old map has, the new one has those after the event
abbrev pub RangesFollow : MapParts → MapParts → CodeEvent → Type 0
RangesFollow old new event = (ranges : List Range) → HasRanges old ranges → HasRanges new (after_event ranges event)

-- whatever ranges and reasons the old map has, the new one has the reasons after the event
abbrev pub ReasonsFollow : MapParts → MapParts → CodeEvent → Type 0
ReasonsFollow old new event =
    (ranges : List Range) (reasons : DeoptReasons) → HasRanges old ranges → HasReasons old reasons → HasReasons new (reasons_after_event ranges reasons event)

-- whatever ranges the old map has, the new one has
abbrev pub RangesStay : MapParts → MapParts → Type 0
RangesStay old new = (ranges : List Range) → HasRanges old ranges → HasRanges new ranges

-- whatever reasons the old map has, the new one has
abbrev pub ReasonsStay : MapParts → MapParts → Type 0
ReasonsStay old new = (reasons : DeoptReasons) → HasReasons old reasons → HasReasons new reasons

-- the place of an address over these ranges, if it lies in one
abbrev pub found_at : List Range → ℕ → Option Found
found_at ranges address = option_map (found_in address) (find (holds address) ranges)

-- a node with the reason of its entry
abbrev pub node_with_reason : DeoptReasons → FinNode → FinNode
node_with_reason reasons node = record node { reason = reasons node.entry }

-- a profile whose nodes have the reasons of their entries
abbrev pub with_reasons : DeoptReasons → Finished → Finished
with_reasons reasons finished = record finished { nodes = map (node_with_reason reasons) finished.nodes }
