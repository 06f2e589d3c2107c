-- Which files there are, and how they grow.
use Rattle.std.specs.Prelude.{◌≡◌, ℕ, List, [], ◌∷◌, ◌++◌, map, Contains, Some, if◌then◌else◌}
use Rattle.std.specs.List.{AllByRecursion}
use Rattle.std.specs.Ordering.{nat_cmp}
use Rattle.prof_base.specs.Ordered.{insert_sorted}
use Rattle.code_event.specs.ItemFile.{SessionFile, session, ends, ends_behind, files_of, item_file, item_files, files}
use Rattle.code_event.specs.ItemList.{IsLegalItems, without}
use Rattle.code_event.specs.Seen.{Seen, started, stopped, finished, ticked, seen_items}
use Rattle.code_event.specs.declared.event.CodeEvent.{CodeEvent}
use Rattle.code_event.specs.declared.event.CodeEvent.TheVariants.{Stop, Finish}
use Rattle.code_event.specs.declared.tick.Item.{Item}
use Rattle.code_event.specs.declared.tick.Item.TheVariants as item

-- the sessions of these files
abbrev pub sessions_of : List SessionFile → List ℕ
sessions_of files = map (λ file. file.session) files

-- each session is only stopped while it runs, where these run at first
abbrev pub AreStoppedWhileRunning : List ℕ → List Seen → Type 0
AreStoppedWhileRunning running [] = Unit {0}
AreStoppedWhileRunning running (started s options time ∷ seen) = AreStoppedWhileRunning (insert_sorted nat_cmp s.0 running) seen
AreStoppedWhileRunning running (stopped s time reasons ∷ seen) = Contains running s.0 × AreStoppedWhileRunning (without s.0 running) seen
AreStoppedWhileRunning running (finished time files reasons ∷ seen) = Unit {0}
AreStoppedWhileRunning running (ticked tick ∷ seen) = AreStoppedWhileRunning running seen

-- where sessions are only stopped while they run, each session that ends has its file, in the order in which they end, and no other session has one
abbrev pub StoppedSessionsHaveFiles : Type 0
StoppedSessionsHaveFiles = (base : ℕ) (seen : List Seen) → AreStoppedWhileRunning [] seen → sessions_of (files base seen) ≡ ends seen

-- in a legal list each session that ends has its file, in the order in which they end, and no other session has one
abbrev pub EachEndHasAFile : Type 0
EachEndHasAFile = (base : ℕ) (items : List Item) → IsLegalItems items → sessions_of (item_files base items) ≡ ends (seen_items items)

-- each file is that of its session
abbrev pub FilesAreTheirSessions : Type 0
FilesAreTheirSessions =
    (base : ℕ) (items : List Item) (file : SessionFile) → Contains (item_files base items) file → item_file base items (session file.session) ≡ Some file.text

-- it is not a finish
abbrev pub IsOpen : Seen → Type 0
IsOpen (finished time files reasons) = ⊥
IsOpen other = Unit {0}

-- the sessions that run after what is seen, in rising order, where these run at first
abbrev pub running_on : List ℕ → List Seen → List ℕ
running_on running [] = running
running_on running (started s options time ∷ seen) = running_on (insert_sorted nat_cmp s.0 running) seen
running_on running (stopped s time reasons ∷ seen) = running_on (without s.0 running) seen
running_on running (finished time files reasons ∷ seen) = running_on running seen
running_on running (ticked tick ∷ seen) = running_on running seen

-- as long as no finish has been seen, whatever is seen next leaves the files as they are and adds those of the sessions that it ends
abbrev pub FilesGrow : Type 0
FilesGrow =
    (base : ℕ) (seen more : List Seen) → AllByRecursion IsOpen seen
    → files base (seen ++ more) ≡ files base seen ++ files_of base (seen ++ more) (ends_behind (running_on [] seen) more)

-- an event that is not a finish
abbrev pub IsOpenEvent : CodeEvent → Type 0
IsOpenEvent (Finish time files) = ⊥
IsOpenEvent other = Unit {0}

-- an item that is not a finish
abbrev pub IsOpenItem : Item → Type 0
IsOpenItem (item.Event e) = IsOpenEvent e.event
IsOpenItem (item.Tick t) = Unit {0}

-- the sessions that an event ends, of those that run
abbrev pub ended_by_event : List ℕ → CodeEvent → List ℕ
ended_by_event running (Stop s time) = s.0 ∷ []
ended_by_event running (Finish time has_files) = if has_files then running else []
ended_by_event running other = []

-- the sessions that an item ends, of those that run
abbrev pub ended_by : List ℕ → Item → List ℕ
ended_by running (item.Event e) = ended_by_event running e.event
ended_by running (item.Tick t) = []

-- the sessions that run after these items, in rising order
abbrev pub running_after : List Item → List ℕ
running_after items = running_on [] (seen_items items)

-- an item that follows no finish adds the files of exactly the sessions that it ends
abbrev pub ItemsAddFiles : Type 0
ItemsAddFiles =
    (base : ℕ) (items : List Item) (next : Item) → AllByRecursion IsOpenItem items
    → item_files base (items ++ next ∷ []) ≡ item_files base items ++ files_of base (seen_items (items ++ next ∷ [])) (ended_by (running_after items) next)
