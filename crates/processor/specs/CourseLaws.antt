-- Which files a processor has delivered.
use Rattle.std.specs.Prelude.{◌≡◌, ℕ, List, [], ◌++◌, map, Option}
use Rattle.code_event.specs.ItemFile.{SessionFile, item_files}
use Rattle.code_event.specs.ItemList.{IsLegalItems}
use Rattle.code_event.specs.declared.tick.Item.{Item}
use Rattle.out_stream.specs.Parts.{Parts}
use Rattle.processor.specs.Course.{CourseParts, StandsFor}
use Rattle.processor.specs.Filing.{FilingParts, HasDelivered}
use Rattle.processor.specs.Running.{sessions_of}
use Rattle.processor.specs.declared.running.SessionPort.{SessionPort}
use Rattle.processor.specs.declared.turn.Phase.{Phase}
use Rattle.processor.specs.declared.turn.Phase.TheVariants as phase

-- the sessions that wait for their files, which a finish has ended
abbrev pub waiting_in : Phase → List SessionPort → List ℕ
waiting_in phase.Open running = []
waiting_in (phase.Finishing time) running = sessions_of running
waiting_in phase.Closed running = []

-- The first of the files of these items are finished, and were delivered as far as the filing says. Those that follow are the files of the sessions that wait, one each, in order; so where none waits, all are finished.
pub record AreDelivered (base : ℕ) (items : List Item) (waiting : List ℕ) (filing : FilingParts) (before now : Option Parts) : Type 0 where
  pub finished : List SessionFile
  pub later : List SessionFile
  pub all : item_files base items ≡ finished ++ later
  pub whose : map (λ file. file.session) later ≡ waiting
  pub delivered : HasDelivered finished filing.delivery filing.is_spent filing.notes before now

-- a processor has delivered the files of the legal items that it has taken, but for those of the sessions that wait
abbrev pub FilesAreDelivered : Type 0
FilesAreDelivered =
    (base : ℕ) (items : List Item) (applied ticked : ℕ) (course : CourseParts) (before now : Option Parts) → StandsFor base items applied ticked course before now → IsLegalItems items
    → AreDelivered base items (waiting_in course.phase course.filing.running) course.filing before now

-- where a processor waits for no item, a finish was its last, and in a legal list nothing follows
abbrev pub NothingFollowsTheEnd : Type 0
NothingFollowsTheEnd =
    (base : ℕ) (items rest : List Item) (applied ticked : ℕ) (course : CourseParts) (before now : Option Parts) → StandsFor base items applied ticked course before now → IsLegalItems (items ++ rest)
    → ¬ (course.phase ≡ phase.Open) → rest ≡ []
