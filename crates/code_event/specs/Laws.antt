-- What holds of the definitions for all events and items.
use Rattle.std.specs.Prelude.{◌≡◌, ◌≤◌, ℕ, List, [], ◌∷◌, Bool, true, false, Option, option_map, filter, count_by}
use Rattle.std.specs.List.{AllByRecursion}
use Rattle.code_event.specs.CodeMap.{meets, ranges}
use Rattle.code_event.specs.ItemList.{IsStamped, stamped}
use Rattle.code_event.specs.Recording.{is_for, recording}
use Rattle.code_event.specs.Subsample.{kept}
use Rattle.code_event.specs.Seen.{Seen, started, stopped, finished, ticked}
use Rattle.code_event.specs.Symbolizer.{holds}
use Rattle.code_event.specs.declared.event.CodeEvent.{CodeEvent}
use Rattle.code_event.specs.declared.code_map.Range.{Range}
use Rattle.code_event.specs.declared.seen.ResolvedTick.{ResolvedTick}
use Rattle.code_event.specs.declared.tick.Item.{Item}

-- no two of these ranges share an address: none meets one that comes after it
abbrev pub AreDisjoint : List Range → Type 0
AreDisjoint [] = Unit {0}
AreDisjoint (range ∷ others) = AllByRecursion (λ other. meets range other ≡ false) others × AreDisjoint others

-- whatever the events, the ranges after them are disjoint
abbrev pub RangesAreDisjoint : Type 0
RangesAreDisjoint = (events : List CodeEvent) → AreDisjoint (ranges events)

-- meeting is mutual, so that of disjoint ranges none meets another, in either order
abbrev pub MeetingIsMutual : Type 0
MeetingIsMutual = (one other : Range) → meets one other ≡ meets other one

-- whatever the events, no address is in two of the ranges after them
abbrev pub AddressesHaveOneOwner : Type 0
AddressesHaveOneOwner = (events : List CodeEvent) (address : ℕ) → count_by (holds address) (ranges events) ≤ 1

-- whatever the items, they are stamped once they have their stamps
abbrev pub StampingGivesStamps : Type 0
StampingGivesStamps = (items : List Item) → IsStamped (stamped items)

-- a stamped list is what stamping makes of it
abbrev pub StampingKeepsStamped : Type 0
StampingKeepsStamped = (items : List Item) → IsStamped items → stamped items ≡ items

-- two stamped lists that agree except in their stamps are equal
abbrev pub StampedListsAreOne : Type 0
StampedListsAreOne = (one other : List Item) → IsStamped one → IsStamped other → stamped one ≡ stamped other → one ≡ other

-- what is seen concerns a session, unless it is a tick for another session alone
abbrev pub concerns : ℕ → Seen → Bool
concerns session (started s options time) = true
concerns session (stopped s time reasons) = true
concerns session (finished time files reasons) = true
concerns session (ticked tick) = is_for session tick.only

-- what is seen without what does not concern a session
abbrev pub concerning : ℕ → List Seen → List Seen
concerning session seen = filter (concerns session) seen

-- the ticks that a session keeps of what is seen, by the isolate's base, if the session has a recording
abbrev pub kept_of : ℕ → ℕ → List Seen → Option (List ResolvedTick)
kept_of base session seen = option_map (λ told. kept base told.begun) (recording session seen)

-- a session's recording is the same without the ticks that are for other sessions
abbrev pub RecordingsAreTheirOwn : Type 0
RecordingsAreTheirOwn = (session : ℕ) (seen : List Seen) → recording session (concerning session seen) ≡ recording session seen

-- so are the ticks that it keeps
abbrev pub KeptTicksAreTheirOwn : Type 0
KeptTicksAreTheirOwn = (base session : ℕ) (seen : List Seen) → kept_of base session (concerning session seen) ≡ kept_of base session seen
