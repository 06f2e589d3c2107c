-- What was attributed of the items so far, and what was done with the files of the sessions that ended.
use Rattle.std.specs.Prelude.{◌≡◌, ℕ, List, [], ◌∷◌, ◌++◌, map, take, Bool, true, false, ◌==◌, Contains, Option, Some, Result, Ok, Err, if◌then◌else◌}
use Rattle.std.specs.List.{AllByRecursion}
use Rattle.attribution.specs.Attribution.{AttributorParts, StandsFor, HasNotEnded}
use Rattle.code_event.specs.FileLaws.{IsOpenItem, running_after}
use Rattle.code_event.specs.ItemFile.{SessionFile, item_files}
use Rattle.code_event.specs.ItemList.{IsLegalItems}
use Rattle.code_event.specs.declared.event.CodeEvent.{CodeEvent}
use Rattle.code_event.specs.declared.event.CodeEvent.TheVariants.{Stop}
use Rattle.code_event.specs.declared.event.EventRecord.{EventRecord}
use Rattle.code_event.specs.declared.event.PortFile.{PortFile}
use Rattle.code_event.specs.declared.event.PortFile.TheVariants.{File, Lost}
use Rattle.code_event.specs.declared.tick.Item.{Item}
use Rattle.code_event.specs.declared.tick.Item.TheVariants as item
use Rattle.item_fold.specs.Delivered.{Delivers, note_of}
use Rattle.item_fold.specs.declared.delivery.FileNote.{FileNote}
use Rattle.out_stream.specs.Parts.{Parts}
use Rattle.out_stream.specs.declared.stream.Undelivered.{Undelivered}
use Rattle.out_stream.specs.declared.stream.Undelivered.TheVariants as undelivered
use Rattle.pipe_core.specs.Observed.{appended}
use Rattle.prof_base.specs.declared.ids.SessionId.{SessionId}
use Rattle.processor.specs.Running.{running_ports}
use Rattle.processor.specs.declared.ports.PortCall.{PortCall}
use Rattle.processor.specs.declared.running.SessionPort.{SessionPort}
use Rattle.processor.specs.declared.turn.Delivery.{Delivery}
use Rattle.processor.specs.declared.turn.Delivery.TheVariants.{Fine, Aborted, Failed}

-- the attributor, the running sessions with their ports, the notes, how the delivery went, and whether it ran out of memory
pub record FilingParts : Type 0 where
  pub attributor : AttributorParts
  pub running : List SessionPort
  pub notes : List FileNote
  pub delivery : Delivery
  pub is_spent : Bool

-- how the delivery of all files so far went, where memory may have run out before one of them
abbrev pub answer_of : Delivery → Bool → Result (Unit {0}) Undelivered
answer_of Fine is_spent = if is_spent then Err undelivered.Memory else Ok tt
answer_of Aborted is_spent = Err undelivered.Aborted
answer_of Failed is_spent = Err undelivered.Failed

-- the files were delivered as far as the answer says, and the notes are those of the delivered ones, also where memory ran out
pub record HasDelivered (files : List SessionFile) (delivery : Delivery) (is_spent : Bool) (notes : List FileNote) (before now : Option Parts) : Type 0 where
  pub delivers : Delivers files (answer_of delivery is_spent) notes before now
  pub noted : notes ≡ map note_of (take delivers.number files)

-- The files of these items were delivered, since the stream had the parts `before`. As long as there was memory and no finish is among the items, the attributor has taken them.
pub record HasFiled (base : ℕ) (items : List Item) (filing : FilingParts) (before now : Option Parts) : Type 0 where
  pub base_is : filing.attributor.book.base ≡ base
  pub running_is : filing.running ≡ running_ports items
  pub delivered : HasDelivered (item_files base items) filing.delivery filing.is_spent filing.notes before now
  pub stands : filing.is_spent ≡ false → AllByRecursion IsOpenItem items → StandsFor filing.attributor items

-- From the one filing to the other, this item was taken. Whatever legal list it is the next item of, where the files of the items before it had been delivered, so are now those of the items with it.
abbrev pub Files : FilingParts → Option Parts → Item → FilingParts → Option Parts → Type 0
Files old parts next new parts' =
    (base : ℕ) (items : List Item) (before : Option Parts) → IsLegalItems (items ++ next ∷ []) → HasFiled base items old before parts
    → HasFiled base (items ++ next ∷ []) new before parts'

-- the same for an item that is this event
abbrev pub FilesEvent : FilingParts → Option Parts → CodeEvent → FilingParts → Option Parts → Type 0
FilesEvent old parts event new parts' = (e : EventRecord) → e.event ≡ event → Files old parts (item.Event e) new parts'

-- it holds of the items with a stop of a session that runs and has not ended, whatever items the filing has taken
abbrev pub AtStop : FilingParts → Option Parts → SessionId → ℕ → (ℕ → List Item → Option Parts → Type 0) → Type 0
AtStop old parts session time Holds =
    (base : ℕ) (items : List Item) (e : EventRecord) (before : Option Parts) → e.event ≡ Stop session time → AllByRecursion IsOpenItem items → HasNotEnded session.0 items
    → Contains (running_after items) session.0 → HasFiled base items old before parts
    → Holds base (items ++ item.Event e ∷ []) before

-- what ports were given after a file was given to one of them; to none where it is port 0
abbrev pub given_to : ℕ → PortFile → Option (List PortCall) → Option (List PortCall)
given_to port file given = if port == 0 then given else appended given (record { port = port; file = file })

-- It is the file of the session with this text. It says that the file was lost only where memory has run out; where it had run out before, it says so always.
abbrev pub IsFileFor : SessionId → Option (List ℕ) → Bool → Bool → PortFile → Type 0
IsFileFor session text was_spent is_spent (File other bytes) = (other ≡ session) × (text ≡ Some bytes) × (was_spent ≡ false)
IsFileFor session text was_spent is_spent (Lost other) = (other ≡ session) × (is_spent ≡ true)

-- the port was given the file, or refused it out of memory
abbrev pub HandsOver : ℕ → PortFile → Bool → Option (List PortCall) → Option (List PortCall) → Type 0
HandsOver port file is_spent before now = (answer : Bool) × (answer ≡ false → is_spent ≡ true) × (now ≡ (if answer then given_to port file before else before))

-- the session's port was given what is for it
pub record GivesFile (port : ℕ) (session : SessionId) (text : Option (List ℕ)) (was_spent is_spent : Bool) (before now : Option (List PortCall)) : Type 0 where
  pub file : PortFile
  pub is_file : IsFileFor session text was_spent is_spent file
  pub hands : HandsOver port file is_spent before now

-- each of these ports was told that the file of its session is lost, or refused that out of memory
abbrev pub AreToldLost : List SessionPort → Bool → Option (List PortCall) → Option (List PortCall) → Type 0
AreToldLost [] is_spent before now = now ≡ before
AreToldLost (r ∷ running) is_spent before now =
    (answer : Bool) × (answer ≡ false → is_spent ≡ true) × AreToldLost running is_spent (if answer then given_to r.port (Lost r.session) before else before) now
