-- A processor over three queues that hold what follows the items taken.
use Rattle.std.specs.Prelude.{◌≡◌, ℕ, List, [], ◌∷◌, ◌++◌, Option, None}
use Rattle.std.specs.Option.{option_to_list}
use Rattle.code_event.specs.declared.event.EventRecord.{EventRecord}
use Rattle.code_event.specs.declared.tick.Item.{Item}
use Rattle.code_event.specs.declared.tick.Tick.{Tick}
use Rattle.out_stream.specs.Parts.{Parts}
use Rattle.pipe_core.specs.Observed.{IfThere, first_of}
use Rattle.processor.specs.Course.{CourseParts, StandsFor, EndsWaiting, answer_with, turn_answer}
use Rattle.processor.specs.TakingLaws.{HoldRest}
use Rattle.processor.specs.declared.turn.Phase.{Phase}
use Rattle.processor.specs.declared.turn.Phase.TheVariants as phase
use Rattle.processor.specs.declared.turn.ProcTurn.{ProcTurn}

-- of the whole list, the processor has taken the first items, and the queues hold the others
pub record GoesOn (base : ℕ) (whole : List Item) (applied ticked : ℕ) (course : CourseParts) (before now : Option Parts) (events : List EventRecord) (vm_ticks ring : List Tick) : Type 0 where
  pub items : List Item
  pub rest : List Item
  pub all : items ++ rest ≡ whole
  pub stands : StandsFor base items applied ticked course before now
  pub hold : HoldRest items rest events vm_ticks ring

-- the item that a turn takes, by what it waits for, where the queues hold this rest: the first of it, where it waits for one
abbrev pub next_in : Phase → List Item → Option Item
next_in phase.Open rest = first_of rest
next_in (phase.Finishing time) rest = None
next_in phase.Closed rest = None

-- what the queues hold of the rest then
abbrev pub left_in : Phase → List Item → List Item
left_in phase.Open [] = []
left_in phase.Open (x ∷ rest) = rest
left_in (phase.Finishing time) rest = rest
left_in phase.Closed rest = rest

-- A turn of a processor that had taken these items, where the queues held this rest. It takes the first of the rest, where it waits for one and there is one. Else it ends the first session that waits, if one does. Its answer says so, but where memory runs out.
pub record IsPlainTurn (base : ℕ) (items rest : List Item) (old new : CourseParts) (answer : ProcTurn) (applied ticked : ℕ) (before now : Option Parts) (events : List EventRecord) (vm_ticks ring : List Tick) : Type 0 where
  pub stands : StandsFor base (items ++ option_to_list (next_in old.phase rest)) applied ticked new before now
  pub hold : HoldRest (items ++ option_to_list (next_in old.phase rest)) (left_in old.phase rest) events vm_ticks ring
  pub answers : answer ≡ answer_with old.filing.is_spent new.filing.is_spent (turn_answer old (next_in old.phase rest))
  pub stays : IfThere (next_in old.phase rest) (new.phase ≡ old.phase) (λ _. Unit {0})
  pub waiting : IfThere (next_in old.phase rest) (EndsWaiting old.phase old.filing new.filing) (λ _. Unit {0})
