-- What an attributor stands for: the items that it has taken.
use Rattle.std.specs.Prelude.{◌≡◌, ℕ, List, [], ◌∷◌, ◌++◌, false}
use Rattle.std.specs.List.{AllByRecursion}
use Rattle.code_event.specs.DeoptReasons.{DeoptReasons}
use Rattle.code_event.specs.FileText.{file_text}
use Rattle.code_event.specs.MomentLaws.{events_of}
use Rattle.code_event.specs.RecordingLaws.{closes}
use Rattle.code_event.specs.Seen.{seen_items}
use Rattle.code_event.specs.declared.event.CodeEvent.{CodeEvent}
use Rattle.code_event.specs.declared.event.CodeEvent.TheVariants.{Create, Move, NoOpt, Deopt, Delete, Start, Stop, Finish}
use Rattle.code_event.specs.declared.event.EventRecord.{EventRecord}
use Rattle.code_event.specs.declared.profile.Finished.{Finished}
use Rattle.code_event.specs.declared.tick.Item.{Item}
use Rattle.code_event.specs.declared.tick.Item.TheVariants as item
use Rattle.code_map.specs.Parts.{MapParts}
use Rattle.code_map.specs.CodeMap.{HasReasons, with_reasons}
use Rattle.code_map.specs.Laws.{IsAfter}
use Rattle.cpuprofile.specs.Given.{DeltasFit, HasExactTime}
use Rattle.session_book.specs.Book.{BookParts, StandsFor as IsBookOf, running}

-- the code map, and the book of the running sessions
pub record AttributorParts : Type 0 where
  pub map : MapParts
  pub book : BookParts

-- the map is as the events among the items leave it, and the book's sessions have recorded what is seen of the items
pub record IsOfItems (parts : AttributorParts) (items : List Item) : Type 0 where
  pub code : IsAfter parts.map (events_of items)
  pub sessions : IsBookOf parts.book (seen_items items)
  pub times : AllByRecursion HasExactTime (seen_items items)

-- these items were taken, in this order
unfoldable pub StandsFor : AttributorParts → List Item → Type 0
StandsFor parts items = IsOfItems parts items

-- the ids of the running sessions, in rising order
abbrev pub running_in : AttributorParts → List ℕ
running_in parts = running parts.book

-- whatever items the old one has taken, the new one has taken those and this event next
abbrev pub TakesEvent : AttributorParts → AttributorParts → CodeEvent → Type 0
TakesEvent old new event = (items : List Item) (e : EventRecord) → e.event ≡ event → StandsFor old items → StandsFor new (items ++ item.Event e ∷ [])

-- it changes the code, and is no mark of a session
abbrev pub ChangesCode : CodeEvent → Type 0
ChangesCode (Create start layout) = Unit {0}
ChangesCode (Move from to) = Unit {0}
ChangesCode (NoOpt start reason) = Unit {0}
ChangesCode (Deopt start reason) = Unit {0}
ChangesCode (Delete start) = Unit {0}
ChangesCode (Start session options time) = ⊥
ChangesCode (Stop session time) = ⊥
ChangesCode (Finish time files) = ⊥

-- nothing among these items ends the session
abbrev pub HasNotEnded : ℕ → List Item → Type 0
HasNotEnded number items = AllByRecursion (λ mark. closes number mark ≡ false) (seen_items items)

-- the text of the file of a profile, whose nodes get the map's reasons; all deltas must fit
abbrev pub IsFileOf : AttributorParts → Finished → List ℕ → Type 0
IsFileOf parts finished text = (why : DeoptReasons) → HasReasons parts.map why → DeltasFit finished → text ≡ file_text (with_reasons why finished)
