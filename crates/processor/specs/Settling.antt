-- What turns leave of a processor over three queues of one thread, until nothing is left.
use Rattle.std.specs.Prelude.{◌≡◌, ◌≤◌, ℕ, List, [], true, Option}
use Rattle.prof_base.specs.Causes.{Rose}
use Rattle.code_event.specs.ItemList.{IsLegalItems}
use Rattle.code_event.specs.declared.event.EventRecord.{EventRecord}
use Rattle.code_event.specs.declared.tick.Item.{Item}
use Rattle.code_event.specs.declared.tick.Tick.{Tick}
use Rattle.out_stream.specs.Parts.{Parts}
use Rattle.processor.specs.Course.{CourseParts, StandsFor}
use Rattle.processor.specs.CourseLaws.{AreDelivered}
use Rattle.processor.specs.Filing.{FilingParts}
use Rattle.processor.specs.Plain.{GoesOn}
use Rattle.processor.specs.TakingLaws.{HoldRest}
use Rattle.processor.specs.declared.turn.Delivery.TheVariants.{Fine, Aborted, Failed}

-- What any number of turns leave of refusals, where the stream had counted these aborts and faults before, and has counted these now. After a refusal the delivery stays as it went. Where the delivery was refused in these turns, the stream has counted the abort or the fault. No count falls, and memory that had run out stays so.
pub record GoesOnTo (old new : FilingParts) (aborts_before faults_before aborts_now faults_now : ℕ) : Type 0 where
  pub kept : (old.delivery ≡ Fine → ⊥) → new.delivery ≡ old.delivery
  pub aborted : old.delivery ≡ Fine → new.delivery ≡ Aborted → Rose aborts_before aborts_now
  pub failed : old.delivery ≡ Fine → new.delivery ≡ Failed → Rose faults_before faults_now
  pub aborts : aborts_before ≤ aborts_now
  pub faults : faults_before ≤ faults_now
  pub spent : old.is_spent ≡ true → new.is_spent ≡ true

-- A processor is at work on a legal list: it has taken the first items of it, since the stream had some parts, and the queues hold the others.
pub record IsAmid (base applied ticked : ℕ) (course : CourseParts) (now : Option Parts) (events : List EventRecord) (vm_ticks ring : List Tick) : Type 0 where
  pub whole : List Item
  pub before : Option Parts
  pub legal : IsLegalItems whole
  pub on : GoesOn base whole applied ticked course before now events vm_ticks ring

-- All items of the list are taken, and the queues hold nothing of it. All their files were delivered, as far as the delivery and the memory say, so that no session waits for its file.
pub record IsSettled (base : ℕ) (whole : List Item) (applied ticked : ℕ) (course : CourseParts) (before now : Option Parts) (events : List EventRecord) (vm_ticks ring : List Tick) : Type 0 where
  pub stands : StandsFor base whole applied ticked course before now
  pub hold : HoldRest whole [] events vm_ticks ring
  pub delivered : AreDelivered base whole [] course.filing before now
