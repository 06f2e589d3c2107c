-- What has happened after items: the latest time, the sessions that were started, and those that run.
use Rattle.std.specs.Prelude.{◌≡◌, ℕ, ◌≤◌, List, [], ◌∷◌, map, reverse}
use Rattle.std.specs.List.{AllByRecursion}
use Rattle.code_event.specs.ItemList.{ListSoFar, without}
use Rattle.code_event.specs.declared.event.CodeEvent.{CodeEvent}
use Rattle.code_event.specs.declared.event.CodeEvent.TheVariants.{Start, Stop, Finish}
use Rattle.code_event.specs.declared.tick.Item.{Item}
use Rattle.code_event.specs.declared.tick.Item.TheVariants as item
use Rattle.run_schedule.specs.Schedule.{Course}

-- before any item
abbrev pub nothing_yet : ListSoFar
nothing_yet = record { time = 0; started = []; running = [] }

-- at a later time, with the same sessions
abbrev pub at_time : ℕ → ListSoFar → ListSoFar
at_time time list = record { time = time; started = list.started; running = list.running }

-- after one more event
abbrev pub list_after_event : ListSoFar → CodeEvent → ListSoFar
list_after_event list (Start session options time) = record { time = time; started = session.0 ∷ list.started; running = session.0 ∷ list.running }
list_after_event list (Stop session time) = record { time = time; started = list.started; running = without session.0 list.running }
list_after_event list (Finish time files) = at_time time list
list_after_event list other = list

-- after one more item
abbrev pub list_after_item : ListSoFar → Item → ListSoFar
list_after_item list (item.Event e) = list_after_event list e.event
list_after_item list (item.Tick t) = at_time t.time list

-- after more items
abbrev pub list_after_items : ListSoFar → List Item → ListSoFar
list_after_items list [] = list
list_after_items list (item ∷ items) = list_after_items (list_after_item list item) items

-- after all these items
abbrev pub list_so_far : List Item → ListSoFar
list_so_far items = list_after_items nothing_yet items

-- an event of the code: it is not the mark of a session, nor a finish
abbrev pub IsCodeEvent : CodeEvent → Type 0
IsCodeEvent (Start session options time) = ⊥
IsCodeEvent (Stop session time) = ⊥
IsCodeEvent (Finish time files) = ⊥
IsCodeEvent other = Unit {0}

-- an item that is an event of the code
abbrev pub IsCodeItem : Item → Type 0
IsCodeItem (item.Event e) = IsCodeEvent e.event
IsCodeItem (item.Tick t) = ⊥

-- The sessions after items are those of a schedule: none was started with a number above the last start's, and the same ones run, the latest first.
pub record SameSessions (list : ListSoFar) (course : Course) : Type 0 where
  pub numbered : AllByRecursion (λ number. number ≤ course.started) list.started
  pub running : list.running ≡ reverse (map (λ running. running.session) course.running)
