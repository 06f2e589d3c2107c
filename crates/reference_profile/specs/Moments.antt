-- Moments of a run: the ranges and the reasons after the items so far, and what is seen of an item then.
use Rattle.std.specs.Prelude.{List, [], ◌∷◌}
use Rattle.code_event.specs.CodeMap.{after_event}
use Rattle.code_event.specs.DeoptReasons.{DeoptReasons, reasons_after_event}
use Rattle.code_event.specs.Seen.{Seen, ticked, resolved_tick, mark}
use Rattle.code_event.specs.declared.code_map.Range.{Range}
use Rattle.code_event.specs.declared.tick.Item.{Item}
use Rattle.code_event.specs.declared.tick.Item.TheVariants as item

-- the ranges after an item
abbrev pub ranges_after_item : List Range → Item → List Range
ranges_after_item ranges (item.Event e) = after_event ranges e.event
ranges_after_item ranges (item.Tick t) = ranges

-- the reasons after an item, by the ranges before it
abbrev pub reasons_after_item : List Range → DeoptReasons → Item → DeoptReasons
reasons_after_item ranges reasons (item.Event e) = reasons_after_event ranges reasons e.event
reasons_after_item ranges reasons (item.Tick t) = reasons

-- what is seen of an item, by the ranges and the reasons before it
abbrev pub seen_item : List Range → DeoptReasons → Item → List Seen
seen_item ranges reasons (item.Event e) = mark reasons e.event
seen_item ranges reasons (item.Tick t) = ticked (resolved_tick ranges t) ∷ []
