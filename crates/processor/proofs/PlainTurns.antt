-- What a processor over three queues of one thread has done where it answers Nothing or Over.
use Rattle.std.proofs.Common.{◌≡◌, ℕ, List, [], ◌++◌, sym, ap, subst, ◌∙◌, append-nil}
use Rattle.std.specs.Option.{option_to_list}
use Rattle.std.specs.Prelude.{Bool, true, false, Option, Some, None}
use Rattle.code_event.specs.ItemList.{IsLegalItems}
use Rattle.code_event.specs.declared.event.CodeEvent.{CodeEvent}
use Rattle.code_event.specs.declared.event.CodeEvent.TheVariants.{Create, Move, NoOpt, Deopt, Delete, Start, Stop, Finish}
use Rattle.code_event.specs.declared.event.EventRecord.{EventRecord}
use Rattle.code_event.specs.declared.tick.Item.{Item}
use Rattle.code_event.specs.declared.tick.Item.TheVariants as item
use Rattle.code_event.specs.declared.tick.Tick.{Tick}
use Rattle.out_stream.specs.Parts.{Parts}
use Rattle.processor.specs.Course.{CourseParts, StandsFor, answer_with, event_answer, item_answer, turn_answer}
use Rattle.processor.specs.CourseLaws.{AreDelivered, waiting_in}
use Rattle.processor.specs.Plain.{GoesOn}
use Rattle.processor.specs.declared.turn.Phase.TheVariants as phase
use Rattle.processor.specs.declared.turn.ProcTurn.{ProcTurn}
use Rattle.processor.specs.declared.turn.ProcTurn.TheVariants as turn
use Rattle.processor.proofs.DeliveredFiles.{files_are_delivered, nothing_follows_the_end}

event_is_something : (event : CodeEvent) → event_answer event ≡ turn.Nothing → ⊥
event_is_something (Create start layout) e = absurd (cc e)
event_is_something (Move from to) e = absurd (cc e)
event_is_something (NoOpt start reason) e = absurd (cc e)
event_is_something (Deopt start reason) e = absurd (cc e)
event_is_something (Delete start) e = absurd (cc e)
event_is_something (Start s options time) e = absurd (cc e)
event_is_something (Stop s time) e = absurd (cc e)
event_is_something (Finish time files) e = absurd (cc e)

item_is_something : (x : Item) → item_answer x ≡ turn.Nothing → ⊥
item_is_something (item.Event e) same = event_is_something e.event same
item_is_something (item.Tick t) same = absurd (cc same)

event_is_not_over : (event : CodeEvent) → event_answer event ≡ turn.Over → ⊥
event_is_not_over (Create start layout) e = absurd (cc e)
event_is_not_over (Move from to) e = absurd (cc e)
event_is_not_over (NoOpt start reason) e = absurd (cc e)
event_is_not_over (Deopt start reason) e = absurd (cc e)
event_is_not_over (Delete start) e = absurd (cc e)
event_is_not_over (Start s options time) e = absurd (cc e)
event_is_not_over (Stop s time) e = absurd (cc e)
event_is_not_over (Finish time files) e = absurd (cc e)

-- a turn that takes an item does not answer Over
pub item_is_not_over : (x : Item) → item_answer x ≡ turn.Over → ⊥
item_is_not_over (item.Event e) same = event_is_not_over e.event same
item_is_not_over (item.Tick t) same = absurd (cc same)

-- where Nothing is answered, no memory has run out
pub answered_nothing : (was is : Bool) (answer : ProcTurn) → answer_with was is answer ≡ turn.Nothing → answer ≡ turn.Nothing
answered_nothing true true answer same = same
answered_nothing false true answer same = absurd (cc same)
answered_nothing was false answer same = same

-- the same of Over
pub answered_over : (was is : Bool) (answer : ProcTurn) → answer_with was is answer ≡ turn.Over → answer ≡ turn.Over
answered_over true true answer same = same
answered_over false true answer same = absurd (cc same)
answered_over was false answer same = same

pub nothing_taken : (taken : Option Item) (old : CourseParts) (was is : Bool) (answer : ProcTurn) (base : ℕ) (items : List Item) (applied ticked : ℕ) (new : CourseParts) (before now : Option Parts)
    → answer_with was is answer ≡ turn.Nothing → answer ≡ turn_answer old taken → StandsFor base (items ++ option_to_list taken) applied ticked new before now → StandsFor base items applied ticked new before now
nothing_taken None old was is answer base items applied ticked new before now none answers stands = subst (λ (l : List Item). StandsFor base l applied ticked new before now) (append-nil items) stands
nothing_taken (Some x) old was is answer base items applied ticked new before now none answers stands =
    absurd (item_is_something x (sym answers ∙ answered_nothing was is answer none))

pub over_delivers : (base : ℕ) (whole : List Item) (applied ticked : ℕ) (course : CourseParts) (before now : Option Parts) (events : List EventRecord) (vm_ticks ring : List Tick)
    → GoesOn base whole applied ticked course before now events vm_ticks ring → IsLegalItems whole → (course.phase ≡ phase.Open → ⊥) → waiting_in course.phase course.filing.running ≡ []
    → AreDelivered base whole [] course.filing before now
over_delivers base whole applied ticked course before now events vm_ticks ring g legal ended none =
    let last : g.rest ≡ [] = nothing_follows_the_end base g.items g.rest applied ticked course before now g.stands (subst IsLegalItems (sym g.all) legal) ended in
    let all : g.items ≡ whole = sym (append-nil g.items) ∙ ap (λ (l : List Item). g.items ++ l) (sym last) ∙ g.all in
    subst (λ (ns : List ℕ). AreDelivered base whole ns course.filing before now) none
    (files_are_delivered base whole applied ticked course before now (subst (λ (l : List Item). StandsFor base l applied ticked course before now) all g.stands) legal)
