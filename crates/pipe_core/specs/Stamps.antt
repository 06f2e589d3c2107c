-- The stamps of events and ticks, which put what comes from three queues into one order.
use Rattle.std.specs.Prelude.{ℕ, suc, List, [], ◌∷◌}
use Rattle.code_event.specs.declared.event.EventRecord.{EventRecord}
use Rattle.code_event.specs.declared.event.CodeEvent.{CodeEvent}
use Rattle.code_event.specs.declared.tick.Item.{Item}
use Rattle.code_event.specs.declared.tick.Item.TheVariants as item
use Rattle.code_event.specs.declared.tick.Tick.{Tick}
use Rattle.code_event.specs.ItemList.{stamped_tick}
use Rattle.pipe_core.specs.declared.stamp.Stamp.{Stamp}

-- the stamp of an event: its number, and the number of ticks before it
abbrev pub event_stamp : EventRecord → Stamp
event_stamp e = record { event = e.number; tick = e.ticks_before }

-- the stamp of a tick: the number of events before it, and its own number
abbrev pub tick_stamp : Tick → Stamp
tick_stamp t = record { event = t.order; tick = t.tick_number }

-- the events of a list of items, in order
abbrev pub events_of : List Item → List EventRecord
events_of [] = []
events_of (item.Event e ∷ items) = e ∷ events_of items
events_of (item.Tick t ∷ items) = events_of items

-- the ticks of a list of items, in order
abbrev pub ticks_of : List Item → List Tick
ticks_of [] = []
ticks_of (item.Event e ∷ items) = ticks_of items
ticks_of (item.Tick t ∷ items) = t ∷ ticks_of items

-- the number of events of a list of items
abbrev pub event_count : List Item → ℕ
event_count [] = 0
event_count (item.Event e ∷ items) = suc (event_count items)
event_count (item.Tick t ∷ items) = event_count items

-- the number of ticks of a list of items
abbrev pub tick_count : List Item → ℕ
tick_count [] = 0
tick_count (item.Event e ∷ items) = tick_count items
tick_count (item.Tick t ∷ items) = suc (tick_count items)

-- the event, stamped as the next of these items
abbrev pub event_after : List Item → CodeEvent → EventRecord
event_after items event = record { number = suc (event_count items); ticks_before = tick_count items; event = event }

-- the tick, stamped as the next of these items
abbrev pub tick_after : List Item → Tick → Tick
tick_after items tick = stamped_tick (event_count items) (tick_count items) tick
