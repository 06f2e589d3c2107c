-- The code map: which addresses are whose code, after V8's `CodeMap`.
use Rattle.std.specs.Prelude.{ℕ, ◌+◌, ◌*◌, List, [], ◌∷◌, ◌++◌, length, Bool, not, ◌&&◌, ◌==◌, nat_lt, Option, option_map, filter, find, bytes_eq}
use Rattle.std.specs.Option.{option_map_or}
use Rattle.std.specs.List.{slice_get}
use Rattle.code_event.specs.Parts.{LayoutParts}
use Rattle.code_event.specs.declared.layout.TheConstants.{SLOT_SIZE}
use Rattle.code_event.specs.declared.code_map.Range.{Range}
use Rattle.code_event.specs.declared.entry.Entry.{Entry}
use Rattle.code_event.specs.declared.event.CodeEvent.{CodeEvent}
use Rattle.code_event.specs.declared.event.CodeEvent.TheVariants.{Create, Move, NoOpt, Deopt, Delete, Start, Stop, Finish}

-- the code object of a layout, as large as its slots
abbrev pub range_of : ℕ → LayoutParts → Range
range_of start layout = record { start = start; size = SLOT_SIZE * length layout.slots; layout = layout }

-- two ranges share an address
abbrev pub meets : Range → Range → Bool
meets one other = nat_lt one.start (other.start + other.size) && nat_lt other.start (one.start + one.size)

-- a new range replaces each range that it meets
abbrev pub with_range : List Range → Range → List Range
with_range ranges new = filter (λ r. not (meets r new)) ranges ++ new ∷ []

-- the range that starts at this address
abbrev pub range_at : List Range → ℕ → Option Range
range_at ranges start = find (λ r. r.start == start) ranges

-- the ranges except the one that starts at this address
abbrev pub without_range : List Range → ℕ → List Range
without_range ranges start = filter (λ r. not (r.start == start)) ranges

-- the ranges after an event
abbrev pub after_event : List Range → CodeEvent → List Range
after_event ranges (Create start layout) = with_range ranges (range_of start layout)
after_event ranges (Move from to) = option_map_or (λ r. with_range (without_range ranges from) (range_of to r.layout)) (range_at ranges from) ranges
after_event ranges (NoOpt start reason) = ranges
after_event ranges (Deopt start reason) = ranges
after_event ranges (Delete start) = without_range ranges start
after_event ranges (Start session options time) = ranges
after_event ranges (Stop session time) = ranges
after_event ranges (Finish time files) = ranges

-- the ranges after more events
abbrev pub after_events : List Range → List CodeEvent → List Range
after_events ranges [] = ranges
after_events ranges (event ∷ events) = after_events (after_event ranges event) events

-- the ranges after these events
abbrev pub ranges : List CodeEvent → List Range
ranges events = after_events [] events

-- two entries are the same
abbrev pub same_entry : Entry → Entry → Bool
same_entry one other =
    bytes_eq one.name other.name && bytes_eq one.url other.url && one.script == other.script && one.line == other.line && one.column == other.column

-- the entry of the function that a code object is made for
abbrev pub range_entry : Range → Option Entry
range_entry range = option_map (λ u. u.entry) (slice_get range.layout.units 0)
