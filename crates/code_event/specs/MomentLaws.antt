-- The ranges and reasons with which an item is seen: those of the events before it.
use Rattle.std.specs.Prelude.{◌≡◌, List, [], ◌∷◌, ◌++◌}
use Rattle.code_event.specs.CodeMap.{ranges}
use Rattle.code_event.specs.DeoptReasons.{DeoptReasons, reasons}
use Rattle.code_event.specs.Seen.{Seen, ticked, mark, resolved_tick, seen_items}
use Rattle.code_event.specs.declared.code_map.Range.{Range}
use Rattle.code_event.specs.declared.event.CodeEvent.{CodeEvent}
use Rattle.code_event.specs.declared.tick.Item.{Item}
use Rattle.code_event.specs.declared.tick.Item.TheVariants as item

-- the events among items, in order
abbrev pub events_of : List Item → List CodeEvent
events_of [] = []
events_of (item.Event e ∷ items) = e.event ∷ events_of items
events_of (item.Tick t ∷ items) = events_of items

-- what is seen of one item: for an event its mark with these reasons, for a tick its frames over these ranges
abbrev pub seen_of : List Range → DeoptReasons → Item → List Seen
seen_of ranges reasons (item.Event e) = mark reasons e.event
seen_of ranges reasons (item.Tick t) = ticked (resolved_tick ranges t) ∷ []

-- Each item is seen with the ranges and the reasons that the events before it have left.
abbrev pub ItemsAreSeenByTheEventsBefore : Type 0
ItemsAreSeenByTheEventsBefore =
    (items : List Item) (next : Item)
    → seen_items (items ++ next ∷ []) ≡ seen_items items ++ seen_of (ranges (events_of items)) (reasons (events_of items)) next
