-- A processor and the items that it has taken.
use Rattle.std.specs.Prelude.{◌≡◌, ℕ, List, [], ◌∷◌, ◌++◌, Bool, true, false, ◌&&◌, not, Option, Some, None, if◌then◌else◌}
use Rattle.std.specs.List.{AllByRecursion}
use Rattle.attribution.specs.ItemLaws.{stops_at}
use Rattle.code_event.specs.FileLaws.{IsOpenItem, running_after}
use Rattle.code_event.specs.ItemFile.{item_file, item_files, session}
use Rattle.code_event.specs.ItemList.{IsLegalItems}
use Rattle.code_event.specs.declared.event.CodeEvent.{CodeEvent}
use Rattle.code_event.specs.declared.event.CodeEvent.TheVariants.{Stop, Finish}
use Rattle.code_event.specs.declared.event.EventRecord.{EventRecord}
use Rattle.code_event.specs.declared.tick.Item.{Item}
use Rattle.code_event.specs.declared.tick.Item.TheVariants as item
use Rattle.out_stream.specs.Parts.{Parts}
use Rattle.processor.specs.Filing.{FilingParts, HasDelivered, HasFiled, GivesFile, AreToldLost}
use Rattle.processor.specs.Running.{port_in, sessions_of, without_session}
use Rattle.processor.specs.Taking.{HasTaken}
use Rattle.processor.specs.declared.ports.PortCall.{PortCall}
use Rattle.processor.specs.declared.running.SessionPort.{SessionPort}
use Rattle.processor.specs.declared.turn.Phase.{Phase}
use Rattle.processor.specs.declared.turn.Phase.TheVariants as phase
use Rattle.processor.specs.declared.turn.ProcTurn.{ProcTurn}
use Rattle.processor.specs.declared.turn.ProcTurn.TheVariants as turn

-- what is waited for, and what was filed
pub record CourseParts : Type 0 where
  pub phase : Phase
  pub filing : FilingParts

-- The items end in a finish with files at this time. Of the sessions that ran before it, the first were ended, each as by a stop at this time, and the others still wait for their files.
pub record IsFinishing (base : ℕ) (items : List Item) (time : ℕ) (filing : FilingParts) (before now : Option Parts) : Type 0 where
  pub earlier : List Item
  pub event : EventRecord
  pub all : items ≡ earlier ++ item.Event event ∷ []
  pub is_finish : event.event ≡ Finish time true
  pub ended : List ℕ
  pub running : running_after earlier ≡ ended ++ sessions_of filing.running
  pub filed : HasFiled base (earlier ++ stops_at time ended) filing before now

-- The items end in a finish without files, which adds none.
pub record IsClosed (base : ℕ) (items : List Item) (filing : FilingParts) (before now : Option Parts) : Type 0 where
  pub earlier : List Item
  pub event : EventRecord
  pub time : ℕ
  pub all : items ≡ earlier ++ item.Event event ∷ []
  pub is_finish : event.event ≡ Finish time false
  pub delivered : HasDelivered (item_files base items) filing.delivery filing.is_spent filing.notes before now

-- the files of these items were delivered, as far as the phase says
abbrev pub IsFiledAt : Phase → ℕ → List Item → FilingParts → Option Parts → Option Parts → Type 0
IsFiledAt phase.Open base items filing before now = AllByRecursion IsOpenItem items × HasFiled base items filing before now
IsFiledAt (phase.Finishing time) base items filing before now = IsFinishing base items time filing before now
IsFiledAt phase.Closed base items filing before now = IsClosed base items filing before now

-- the same of a course
abbrev pub IsOnCourse : ℕ → List Item → CourseParts → Option Parts → Option Parts → Type 0
IsOnCourse base items course before now = IsFiledAt course.phase base items course.filing before now

-- A processor that has taken these numbers of events and ticks has taken these items, which are stamped; and where they are legal, it has filed what they ask for, since the stream had the parts `before`.
pub record StandsFor (base : ℕ) (items : List Item) (applied ticked : ℕ) (course : CourseParts) (before now : Option Parts) : Type 0 where
  pub taken : HasTaken applied ticked items
  pub filed : IsLegalItems items → IsOnCourse base items course before now

-- whatever legal list the item is the next of, where the old course has filed what the items before it ask for, the new one has what those with it ask for
abbrev pub Courses : CourseParts → Option Parts → Item → CourseParts → Option Parts → Type 0
Courses old parts next new parts' =
    (base : ℕ) (items : List Item) (before : Option Parts) → IsLegalItems (items ++ next ∷ []) → IsOnCourse base items old before parts → IsOnCourse base (items ++ next ∷ []) new before parts'

-- the same for an item that is this event
abbrev pub CoursesEvent : CourseParts → Option Parts → CodeEvent → CourseParts → Option Parts → Type 0
CoursesEvent old parts event new parts' = (e : EventRecord) → e.event ≡ event → Courses old parts (item.Event e) new parts'

-- what a turn answers that takes this event, as long as there is memory
abbrev pub event_answer : CodeEvent → ProcTurn
event_answer (Stop s time) = turn.Finished s
event_answer other = turn.TookEvent

-- the same for an item
abbrev pub item_answer : Item → ProcTurn
item_answer (item.Event e) = event_answer e.event
item_answer (item.Tick t) = turn.TookTick

-- the same for a turn that takes no item: the first session that waits is finished
abbrev pub waiting_answer : Phase → List ℕ → ProcTurn
waiting_answer phase.Open waiting = turn.Nothing
waiting_answer (phase.Finishing time) [] = turn.Over
waiting_answer (phase.Finishing time) (number ∷ waiting) = turn.Finished (session number)
waiting_answer phase.Closed waiting = turn.Over

-- the answer, where memory had run out before, and where it has run out now
abbrev pub answer_with : Bool → Bool → ProcTurn → ProcTurn
answer_with was_spent is_spent answer = if is_spent && not was_spent then turn.Memory else answer

-- what the ports were given at an event: the session's port the file of a stopped session, all ports that their files are lost at a finish without files, and else nothing
abbrev pub GivesAt : ℕ → List Item → CodeEvent → FilingParts → Bool → Option (List PortCall) → Option (List PortCall) → Type 0
GivesAt base items (Stop s time) old is_spent given given' = GivesFile (port_in old.running s.0) s (item_file base items s) old.is_spent is_spent given given'
GivesAt base items (Finish time false) old is_spent given given' = AreToldLost old.running is_spent given given'
GivesAt base items other old is_spent given given' = given' ≡ given

-- what the ports were given at the end of the first session that waits: its port its file
abbrev pub GivesNext : ℕ → List Item → List ℕ → FilingParts → Bool → Option (List PortCall) → Option (List PortCall) → Type 0
GivesNext base items [] old is_spent given given' = given' ≡ given
GivesNext base items (number ∷ waiting) old is_spent given given' =
    GivesFile (port_in old.running number) (session number) (item_file base items (session number)) old.is_spent is_spent given given'

-- the same at an item
abbrev pub GivesItem : ℕ → List Item → Item → FilingParts → Bool → Option (List PortCall) → Option (List PortCall) → Type 0
GivesItem base items (item.Event e) old is_spent given given' = GivesAt base items e.event old is_spent given given'
GivesItem base items (item.Tick t) old is_spent given given' = given' ≡ given

-- what a turn answers that took this item, or none, as long as there is memory
abbrev pub turn_answer : CourseParts → Option Item → ProcTurn
turn_answer old None = waiting_answer old.phase (sessions_of old.filing.running)
turn_answer old (Some x) = item_answer x

-- what the ports were given in a turn that took none, by what was waited for
abbrev pub GivesWaiting : Phase → ℕ → List Item → FilingParts → Bool → Option (List PortCall) → Option (List PortCall) → Type 0
GivesWaiting phase.Open base items old is_spent given given' = given' ≡ given
GivesWaiting (phase.Finishing time) base items old is_spent given given' = GivesNext base items (sessions_of old.running) old is_spent given given'
GivesWaiting phase.Closed base items old is_spent given given' = given' ≡ given

-- what the ports were given in a turn that took this item, or none
abbrev pub GivesTurn : Option Item → ℕ → List Item → CourseParts → Bool → Option (List PortCall) → Option (List PortCall) → Type 0
GivesTurn None base items old is_spent given given' = GivesWaiting old.phase base items old.filing is_spent given given'
GivesTurn (Some x) base items old is_spent given given' = GivesItem base items x old.filing is_spent given given'

-- the first of these sessions, which wait, has ended, and waits no more; where none waits, all is as it was
abbrev pub EndsFirst : List SessionPort → FilingParts → FilingParts → Type 0
EndsFirst [] old new = new ≡ old
EndsFirst (r ∷ running) old new = new.running ≡ without_session r.session.0 (r ∷ running)

-- what a turn that took no item has done, by what it waited for: it has ended the first session that waits, if one does, and else nothing
abbrev pub EndsWaiting : Phase → FilingParts → FilingParts → Type 0
EndsWaiting phase.Open old new = new ≡ old
EndsWaiting (phase.Finishing time) old new = EndsFirst old.running old new
EndsWaiting phase.Closed old new = new ≡ old
