-- A processor, and what a turn does.
use Rattle.std.specs.Prelude.{◌≡◌, ℕ, List, ◌++◌, true, Option}
use Rattle.std.specs.Option.{option_to_list}
use Rattle.code_event.specs.ItemList.{IsLegalItems}
use Rattle.code_event.specs.declared.event.EventRecord.{EventRecord}
use Rattle.code_event.specs.declared.tick.Item.{Item}
use Rattle.code_event.specs.declared.tick.Tick.{Tick}
use Rattle.out_stream.specs.Parts.{Parts}
use Rattle.pipe_core.specs.Observed.{IfThere}
use Rattle.processor.specs.Course.{CourseParts, StandsFor, EndsWaiting, GivesTurn, turn_answer}
use Rattle.processor.specs.Taking.{is_next, events_with, HavePassed, LosesEvent, LosesTick}
use Rattle.processor.specs.declared.ports.PortCall.{PortCall}
use Rattle.processor.specs.declared.turn.Phase.TheVariants as phase
use Rattle.processor.specs.declared.turn.ProcTurn.{ProcTurn}

-- the three ends, the numbers of events and of ticks taken, what was filed and is waited for, and the stream
pub record ProcessorParts (E V F S : Type 0) : Type 0 where
  pub events : E
  pub vm_ticks : V
  pub ring : F
  pub applied : ℕ
  pub ticked : ℕ
  pub course : CourseParts
  pub stream : S

-- what has passed through three ends, and what their queues hold, where it can be observed
pub record Ends : Type 0 where
  pub events : Option (List EventRecord)
  pub vm_ticks : Option (List Tick)
  pub ring : Option (List Tick)
  pub held_events : Option (List EventRecord)
  pub held_vm_ticks : Option (List Tick)
  pub held_samples : Option (List Tick)

-- an item has passed through one of the ends and is held no more, or none has
pub record PassesThrough (old new : Ends) (taken : Option Item) : Type 0 where
  pub events : IfThere taken (new.events ≡ old.events) (λ x. new.events ≡ events_with old.events x)
  pub ticks : IfThere taken ((new.vm_ticks ≡ old.vm_ticks) × (new.ring ≡ old.ring)) (λ x. HavePassed old.vm_ticks new.vm_ticks old.ring new.ring x)
  pub held_events : IfThere taken (new.held_events ≡ old.held_events) (λ x. LosesEvent old.held_events new.held_events x)
  pub held_ticks : IfThere taken ((new.held_vm_ticks ≡ old.held_vm_ticks) × (new.held_samples ≡ old.held_samples)) (λ x. LosesTick old.held_vm_ticks new.held_vm_ticks old.held_samples new.held_samples x)

-- What a turn does, but for its answer where memory runs out. It takes an item only where it waits for one, and only the next one. Where it takes none, it ends the first session that waits, if one does. Whatever items the processor has taken, it has afterwards taken them and the item.
pub record IsTurn (ends ends' : Ends) (applied ticked applied' ticked' : ℕ) (old new : CourseParts) (parts parts' : Option Parts) (given given' : Option (List PortCall)) (answer : ProcTurn) : Type 0 where
  pub taken : Option Item
  pub going : IfThere taken (Unit {0}) (λ _. old.phase ≡ phase.Open)
  pub next : IfThere taken (Unit {0}) (λ x. is_next applied ticked x ≡ true)
  pub passes : PassesThrough ends ends' taken
  pub answers : answer ≡ turn_answer old taken
  pub stays : IfThere taken (new.phase ≡ old.phase) (λ _. Unit {0})
  pub waiting : IfThere taken (EndsWaiting old.phase old.filing new.filing) (λ _. Unit {0})
  pub stands : (base : ℕ) (items : List Item) (before : Option Parts) → StandsFor base items applied ticked old before parts
      → StandsFor base (items ++ option_to_list taken) applied' ticked' new before parts'
  pub gives : (base : ℕ) (items : List Item) (before : Option Parts) → StandsFor base items applied ticked old before parts → IsLegalItems (items ++ option_to_list taken)
      → GivesTurn taken base (items ++ option_to_list taken) old new.filing.is_spent given given'
