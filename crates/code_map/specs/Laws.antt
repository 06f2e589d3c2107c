-- What holds of all maps that take events.
use Rattle.std.specs.Prelude.{◌≡◌, ℕ, List, [], ◌∷◌, ◌++◌, option_and_then, find}
use Rattle.code_event.specs.CodeMap.{range_at, ranges as ranges_after}
use Rattle.code_event.specs.DeoptReasons.{no_reasons, reasons as reasons_after}
use Rattle.code_event.specs.Symbolizer.{holds}
use Rattle.code_event.specs.declared.code_map.Range.{Range}
use Rattle.code_event.specs.declared.event.CodeEvent.{CodeEvent}
use Rattle.code_map.specs.Parts.{MapParts}
use Rattle.code_map.specs.CodeMap.{HasRanges, HasReasons, RangesFollow, ReasonsFollow, RangesStay, ReasonsStay, found_at}

-- the map has the ranges and the reasons that these events leave
pub record IsAfter (map : MapParts) (events : List CodeEvent) : Type 0 where
  pub ranges : HasRanges map (ranges_after events)
  pub reasons : HasReasons map (reasons_after events)

-- a map with no ranges and no reasons is as no events leave it
abbrev pub NewMapsHaveNothing : Type 0
NewMapsHaveNothing = (map : MapParts) → HasRanges map [] → HasReasons map no_reasons → IsAfter map []

-- a map that takes an event is as that event leaves it after those before
abbrev pub EventsAddUp : Type 0
EventsAddUp =
    (old new : MapParts) (events : List CodeEvent) (event : CodeEvent) → IsAfter old events → RangesFollow old new event → ReasonsFollow old new event → IsAfter new (events ++ event ∷ [])

-- a map that is looked up in stays as the events before left it
abbrev pub LookUpsChangeNothing : Type 0
LookUpsChangeNothing = (old new : MapParts) (events : List CodeEvent) → IsAfter old events → RangesStay old new → ReasonsStay old new → IsAfter new events

-- from the one map to the other, these events were taken one by one
abbrev pub TakesAll : MapParts → List CodeEvent → MapParts → Type 0
TakesAll first [] last = RangesStay first last × ReasonsStay first last
TakesAll first (event ∷ events) last = (next : MapParts) × RangesFollow first next event × ReasonsFollow first next event × TakesAll next events last

-- a new map that took events one by one is as these leave it
abbrev pub MapsAreAsEventsLeaveThem : Type 0
MapsAreAsEventsLeaveThem =
    (first last : MapParts) (events : List CodeEvent) → HasRanges first [] → HasReasons first no_reasons → TakesAll first events last → IsAfter last events

-- the range that starts where an address is found is the one that holds the address
abbrev pub FoundCodeStartsThere : Type 0
FoundCodeStartsThere =
    (map : MapParts) (ranges : List Range) (address : ℕ) → HasRanges map ranges → option_and_then (λ found. range_at ranges found.start) (found_at ranges address) ≡ find (holds address) ranges
