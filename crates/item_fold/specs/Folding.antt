-- A fold after some items.
use Rattle.std.specs.Prelude.{◌≡◌, ℕ, List, ◌∷◌, [], ◌++◌, Contains, Option, Result, Ok}
use Rattle.std.specs.List.{AllByRecursion}
use Rattle.attribution.specs.Attribution.{AttributorParts, StandsFor, HasNotEnded}
use Rattle.code_event.specs.FileLaws.{IsOpenItem, running_after}
use Rattle.code_event.specs.ItemFile.{item_files}
use Rattle.code_event.specs.ItemList.{IsLegalItems}
use Rattle.code_event.specs.declared.event.CodeEvent.{CodeEvent}
use Rattle.code_event.specs.declared.event.CodeEvent.TheVariants.{Stop}
use Rattle.code_event.specs.declared.event.EventRecord.{EventRecord}
use Rattle.code_event.specs.declared.tick.Item.{Item}
use Rattle.code_event.specs.declared.tick.Item.TheVariants as item
use Rattle.out_stream.specs.Parts.{Parts}
use Rattle.out_stream.specs.declared.stream.Undelivered.{Undelivered}
use Rattle.prof_base.specs.declared.ids.SessionId.{SessionId}
use Rattle.item_fold.specs.Delivered.{Delivers}
use Rattle.item_fold.specs.declared.delivery.FileNote.{FileNote}

-- what a fold consists of
pub record FoldingParts : Type 0 where
  pub attributor : AttributorParts
  pub notes : List FileNote

-- The files of these items have been delivered, as far as the answer says, since the stream had the parts `before`. Where nothing went wrong and no finish is among the items, the attributor has taken them.
pub record HasFolded (base : ℕ) (items : List Item) (answer : Result (Unit {0}) Undelivered) (folding : FoldingParts) (before now : Option Parts) : Type 0 where
  pub base_is : folding.attributor.book.base ≡ base
  pub delivers : Delivers (item_files base items) answer folding.notes before now
  pub stands : answer ≡ Ok tt → AllByRecursion IsOpenItem items → StandsFor folding.attributor items

-- From the one fold to the other, this item was taken. Whatever legal list it is an item of, where the files of the items before it had been delivered, so are now those of the items with it.
abbrev pub Folds : FoldingParts → Option Parts → Item → Result (Unit {0}) Undelivered → FoldingParts → Option Parts → Type 0
Folds old parts next answer new parts' =
    (base : ℕ) (items rest : List Item) (before : Option Parts) → IsLegalItems (items ++ next ∷ rest) → HasFolded base items (Ok tt) old before parts
    → HasFolded base (items ++ next ∷ []) answer new before parts'

-- the same for an item that is this event
abbrev pub FoldsEvent : FoldingParts → Option Parts → CodeEvent → Result (Unit {0}) Undelivered → FoldingParts → Option Parts → Type 0
FoldsEvent old parts event answer new parts' = (e : EventRecord) → e.event ≡ event → Folds old parts (item.Event e) answer new parts'

-- the same for a stop of a session that runs and has not ended, whatever list it is an item of
abbrev pub FoldsStop : FoldingParts → Option Parts → SessionId → ℕ → Result (Unit {0}) Undelivered → FoldingParts → Option Parts → Type 0
FoldsStop old parts session time answer new parts' =
    (base : ℕ) (items : List Item) (e : EventRecord) (before : Option Parts) → e.event ≡ Stop session time → AllByRecursion IsOpenItem items → HasNotEnded session.0 items
    → Contains (running_after items) session.0 → HasFolded base items (Ok tt) old before parts
    → HasFolded base (items ++ item.Event e ∷ []) answer new before parts'
