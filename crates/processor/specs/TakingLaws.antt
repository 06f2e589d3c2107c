-- Taking the next item, again and again, takes a stamped list in order, as long as three queues hold what follows.
use Rattle.std.specs.Prelude.{◌≡◌, ℕ, List, [], ◌∷◌, ◌++◌, Some, option_map, true}
use Rattle.code_event.specs.ItemList.{IsStamped}
use Rattle.code_event.specs.declared.event.EventRecord.{EventRecord}
use Rattle.code_event.specs.declared.tick.Item.{Item}
use Rattle.code_event.specs.declared.tick.Tick.{Tick}
use Rattle.pipe_core.specs.CoreOrder.{IsJoined}
use Rattle.pipe_core.specs.Observed.{first_of}
use Rattle.pipe_core.specs.Stamps.{event_stamp, tick_stamp, events_of, ticks_of}
use Rattle.processor.specs.Taking.{HasTaken, is_next, applied_with, ticked_with, LosesEvent, LosesTick, ShowsNoNext}

-- three queues hold, together and each in order, what follows these items in a stamped list
pub record HoldRest (items rest : List Item) (events : List EventRecord) (vm_ticks ring : List Tick) : Type 0 where
  pub stamped : IsStamped (items ++ rest)
  pub events_are : events ≡ events_of rest
  pub ticks_are : IsJoined vm_ticks ring (ticks_of rest)

-- where these items were taken, and then the next, the items with it were taken
abbrev pub TakingAddsTheNext : Type 0
TakingAddsTheNext =
    (applied ticked : ℕ) (items : List Item) (next : Item) → HasTaken applied ticked items → is_next applied ticked next ≡ true
    → HasTaken (applied_with applied next) (ticked_with ticked next) (items ++ next ∷ [])

-- where three queues hold the rest and none shows the next item, there is no rest
abbrev pub NothingIsLeft : Type 0
NothingIsLeft =
    (applied ticked : ℕ) (items rest : List Item) (events : List EventRecord) (vm_ticks ring : List Tick) → HasTaken applied ticked items → HoldRest items rest events vm_ticks ring
    → ShowsNoNext applied ticked (option_map event_stamp (first_of events)) (option_map tick_stamp (first_of vm_ticks)) (option_map tick_stamp (first_of ring))
    → rest ≡ []

-- where three queues hold the rest and lose the next item, it is the first of the rest, and they hold what follows it
abbrev pub TheNextIsTheFirstOfTheRest : Type 0
TheNextIsTheFirstOfTheRest =
    (applied ticked : ℕ) (items rest : List Item) (next : Item) (events events' : List EventRecord) (vm_ticks vm_ticks' ring ring' : List Tick)
    → HasTaken applied ticked items → is_next applied ticked next ≡ true → HoldRest items rest events vm_ticks ring
    → LosesEvent (Some events) (Some events') next → LosesTick (Some vm_ticks) (Some vm_ticks') (Some ring) (Some ring') next
    → (rest' : List Item) × (rest ≡ next ∷ rest') × HoldRest (items ++ next ∷ []) rest' events' vm_ticks' ring'
