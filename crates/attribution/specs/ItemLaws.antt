-- What legal item lists let come next, and which files each item adds.
use Rattle.std.specs.Prelude.{◌≡◌, ℕ, List, [], ◌∷◌, ◌++◌, map, Contains, Some, true}
use Rattle.std.specs.List.{AllByRecursion}
use Rattle.prof_base.specs.declared.ids.SessionId.{SessionId}
use Rattle.code_event.specs.FileLaws.{IsOpenItem, running_after}
use Rattle.code_event.specs.ItemFile.{session, item_file, item_files}
use Rattle.code_event.specs.ItemList.{IsLegalItems}
use Rattle.code_event.specs.declared.event.CodeEvent.TheVariants.{Start, Stop, Finish}
use Rattle.code_event.specs.declared.event.EventRecord.{EventRecord}
use Rattle.code_event.specs.declared.event.Options.{Options}
use Rattle.code_event.specs.declared.tick.Item.{Item}
use Rattle.code_event.specs.declared.tick.Item.TheVariants as item
use Rattle.session_book.specs.Refused.{MayStart}
use Rattle.attribution.specs.Attribution.{HasNotEnded}

-- nothing follows a finish
abbrev pub NothingFollowsAFinish : Type 0
NothingFollowsAFinish = (items rest : List Item) (next : Item) → IsLegalItems (items ++ next ∷ rest) → AllByRecursion IsOpenItem items

-- a session that is started next does not run and has not ended, and fewer run than may
abbrev pub StartsAreNew : Type 0
StartsAreNew =
    (items rest : List Item) (e : EventRecord) (s : SessionId) (options : Options) (time : ℕ) → IsLegalItems (items ++ item.Event e ∷ rest) → e.event ≡ Start s options time
    → MayStart (running_after items) s.0 × HasNotEnded s.0 items

-- a session that is stopped next runs
abbrev pub StopsAreOfRunning : Type 0
StopsAreOfRunning =
    (items rest : List Item) (e : EventRecord) (s : SessionId) (time : ℕ) → IsLegalItems (items ++ item.Event e ∷ rest) → e.event ≡ Stop s time → Contains (running_after items) s.0

-- no session that runs before another item has ended
abbrev pub RunningHaveNotEnded : Type 0
RunningHaveNotEnded =
    (items rest : List Item) (next : Item) (number : ℕ) → IsLegalItems (items ++ next ∷ rest) → Contains (running_after items) number → HasNotEnded number items

-- a stop of a session at this time
abbrev pub stop_at : ℕ → ℕ → Item
stop_at time number = item.Event (record { number = 0; ticks_before = 0; event = Stop (session number) time })

-- stops of these sessions at this time
abbrev pub stops_at : ℕ → List ℕ → List Item
stops_at time numbers = map (stop_at time) numbers

-- a finish with files gives the files that stops of the running sessions at its time give, in rising order of their numbers
abbrev pub FinishesAreStops : Type 0
FinishesAreStops =
    (base : ℕ) (items : List Item) (e : EventRecord) (time : ℕ) → IsLegalItems (items ++ item.Event e ∷ []) → e.event ≡ Finish time true
    → item_files base (items ++ item.Event e ∷ []) ≡ item_files base (items ++ stops_at time (running_after items))

-- a stop adds the file of its session
abbrev pub StopsAddTheirFiles : Type 0
StopsAddTheirFiles =
    (base : ℕ) (items : List Item) (e : EventRecord) (s : SessionId) (time : ℕ) (text : List ℕ) → AllByRecursion IsOpenItem items → e.event ≡ Stop s time
    → item_file base (items ++ item.Event e ∷ []) s ≡ Some text
    → item_files base (items ++ item.Event e ∷ []) ≡ item_files base items ++ record { session = s.0; text = text } ∷ []
