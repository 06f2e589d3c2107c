-- The items that were taken from three queues, and what is taken next.
use Rattle.std.specs.Prelude.{◌≡◌, ◌⊎◌, ℕ, suc, List, Bool, false, Option}
use Rattle.code_event.specs.ItemList.{IsStamped}
use Rattle.code_event.specs.declared.event.EventRecord.{EventRecord}
use Rattle.code_event.specs.declared.tick.Item.{Item}
use Rattle.code_event.specs.declared.tick.Item.TheVariants as item
use Rattle.code_event.specs.declared.tick.Tick.{Tick}
use Rattle.pipe_core.specs.Next.{is_event_next, is_tick_next, is_shown}
use Rattle.pipe_core.specs.Observed.{appended, LostFirst}
use Rattle.pipe_core.specs.Stamps.{event_stamp, tick_stamp, event_count, tick_count}
use Rattle.pipe_core.specs.declared.stamp.Stamp.{Stamp}

-- this many events and this many ticks were taken: those of these items, which are stamped
pub record HasTaken (applied ticked : ℕ) (items : List Item) : Type 0 where
  pub stamped : IsStamped items
  pub applied_is : applied ≡ event_count items
  pub ticked_is : ticked ≡ tick_count items

-- the item is next, where this many events and this many ticks were taken
abbrev pub is_next : ℕ → ℕ → Item → Bool
is_next applied ticked (item.Event e) = is_event_next applied ticked (event_stamp e)
is_next applied ticked (item.Tick t) = is_tick_next applied ticked (tick_stamp t)

-- the number of events taken, with this item
abbrev pub applied_with : ℕ → Item → ℕ
applied_with applied (item.Event e) = suc applied
applied_with applied (item.Tick t) = applied

-- the number of ticks taken, with this item
abbrev pub ticked_with : ℕ → Item → ℕ
ticked_with ticked (item.Event e) = ticked
ticked_with ticked (item.Tick t) = suc ticked

-- all that has passed through the end of the events, with this item
abbrev pub events_with : Option (List EventRecord) → Item → Option (List EventRecord)
events_with passed (item.Event e) = appended passed e
events_with passed (item.Tick t) = passed

-- an event has passed through neither end of ticks, and a tick through one of them
abbrev pub HavePassed : Option (List Tick) → Option (List Tick) → Option (List Tick) → Option (List Tick) → Item → Type 0
HavePassed vm_ticks vm_ticks' ring ring' (item.Event e) = (vm_ticks' ≡ vm_ticks) × (ring' ≡ ring)
HavePassed vm_ticks vm_ticks' ring ring' (item.Tick t) = ((vm_ticks' ≡ appended vm_ticks t) × (ring' ≡ ring)) ⊎ ((vm_ticks' ≡ vm_ticks) × (ring' ≡ appended ring t))

-- the queue of events has lost the event, and no tick
abbrev pub LosesEvent : Option (List EventRecord) → Option (List EventRecord) → Item → Type 0
LosesEvent events events' (item.Event e) = LostFirst events events' e
LosesEvent events events' (item.Tick t) = events' ≡ events

-- one of the queues of ticks has lost the tick, and none an event
abbrev pub LosesTick : Option (List Tick) → Option (List Tick) → Option (List Tick) → Option (List Tick) → Item → Type 0
LosesTick vm_ticks vm_ticks' ring ring' (item.Event e) = (vm_ticks' ≡ vm_ticks) × (ring' ≡ ring)
LosesTick vm_ticks vm_ticks' ring ring' (item.Tick t) = (LostFirst vm_ticks vm_ticks' t × (ring' ≡ ring)) ⊎ ((vm_ticks' ≡ vm_ticks) × LostFirst ring ring' t)

-- none of these stamps, which the three queues show, is that of the next item
pub record ShowsNoNext (applied ticked : ℕ) (event vm_tick sample : Option Stamp) : Type 0 where
  pub no_event : is_shown (is_event_next applied ticked) event ≡ false
  pub no_vm_tick : is_shown (is_tick_next applied ticked) vm_tick ≡ false
  pub no_sample : is_shown (is_tick_next applied ticked) sample ≡ false
