-- What a processor over three queues has done where all is taken, and what any number of turns leave of refusals.
use Rattle.std.proofs.Common.{◌≡◌, ◌≤◌, ℕ, List, [], ◌∷◌, ◌++◌, refl, sym, ap, subst, ◌∙◌, append-nil, arith}
use Rattle.std.specs.Option.{option_to_list}
use Rattle.std.specs.Prelude.{Option}
use Rattle.prof_base.specs.Causes.{Rose}
use Rattle.code_event.specs.ItemList.{IsLegalItems}
use Rattle.code_event.specs.declared.event.EventRecord.{EventRecord}
use Rattle.code_event.specs.declared.tick.Item.{Item}
use Rattle.code_event.specs.declared.tick.Tick.{Tick}
use Rattle.out_stream.specs.Parts.{Parts}
use Rattle.pipe_core.specs.Observed.{IfThere}
use Rattle.processor.specs.Course.{CourseParts, StandsFor, turn_answer, waiting_answer}
use Rattle.processor.specs.CourseLaws.{AreDelivered, waiting_in}
use Rattle.processor.specs.Filing.{FilingParts}
use Rattle.processor.specs.Plain.{GoesOn, IsPlainTurn, next_in, left_in}
use Rattle.processor.specs.Running.{sessions_of}
use Rattle.processor.specs.Settling.{GoesOnTo, IsSettled}
use Rattle.processor.specs.TakingLaws.{HoldRest}
use Rattle.processor.specs.declared.turn.Delivery.{Delivery}
use Rattle.processor.specs.declared.turn.Delivery.TheVariants.{Fine, Aborted, Failed}
use Rattle.processor.specs.declared.turn.Phase.{Phase}
use Rattle.processor.specs.declared.turn.Phase.TheVariants as phase
use Rattle.processor.specs.declared.turn.ProcTurn.{ProcTurn}
use Rattle.processor.specs.declared.turn.ProcTurn.TheVariants as turn
use Rattle.processor.proofs.DeliveredFiles.{files_are_delivered, nothing_follows_the_end}
use Rattle.processor.proofs.PlainTurns.{answered_nothing, answered_over, item_is_not_over}
use Rattle.processor.proofs.TurnsLeft.{taken_and_left}

-- no turn
pub goes_on_to-same : (filing : FilingParts) (aborts faults : ℕ) → GoesOnTo filing filing aborts faults aborts faults
goes_on_to-same filing aborts faults = record {
  kept = λ refused. refl;
  aborted = λ fine aborted. absurd (cc (sym fine ∙ aborted));
  failed = λ fine failed. absurd (cc (sym fine ∙ failed));
  aborts = omega arith;
  faults = omega arith;
  spent = λ spent. spent;
}

-- where a delivery was refused in two stretches of turns, one of them has counted it
rose_in_either : (refusal mid now : Delivery) (before between after : ℕ) → before ≤ between → between ≤ after → now ≡ refusal
    → (mid ≡ refusal → Rose before between) → (mid ≡ Fine → Rose between after) → ((mid ≡ Fine → ⊥) → now ≡ mid) → Rose before after
rose_in_either refusal Fine now before between after up more refused first second kept =
    let rose = second refl in
    omega (arith, rose, up)
rose_in_either refusal Aborted now before between after up more refused first second kept =
    let rose = first (sym (kept (λ same. absurd (cc same))) ∙ refused) in
    omega (arith, rose, more)
rose_in_either refusal Failed now before between after up more refused first second kept =
    let rose = first (sym (kept (λ same. absurd (cc same))) ∙ refused) in
    omega (arith, rose, more)

-- turns after turns
pub goes_on_to-then : (old mid new : FilingParts) (aborts faults aborts' faults' aborts'' faults'' : ℕ) → GoesOnTo old mid aborts faults aborts' faults' → GoesOnTo mid new aborts' faults' aborts'' faults''
    → GoesOnTo old new aborts faults aborts'' faults''
goes_on_to-then old mid new aborts faults aborts' faults' aborts'' faults'' first second = record {
  kept = λ refused.
      let same = first.kept refused in
      second.kept (λ fine. refused (sym same ∙ fine)) ∙ same;
  aborted = λ fine aborted.
      rose_in_either Aborted mid.delivery new.delivery aborts aborts' aborts'' first.aborts second.aborts aborted
      (λ is. first.aborted fine is) (λ is. second.aborted is aborted) second.kept;
  failed = λ fine failed.
      rose_in_either Failed mid.delivery new.delivery faults faults' faults'' first.faults second.faults failed
      (λ is. first.failed fine is) (λ is. second.failed is failed) second.kept;
  aborts = omega (arith, first.aborts, second.aborts);
  faults = omega (arith, first.faults, second.faults);
  spent = λ spent. second.spent (first.spent spent);
}

finishing_is_something : (time : ℕ) (waiting : List ℕ) → waiting_answer (phase.Finishing time) waiting ≡ turn.Nothing → ⊥
finishing_is_something time [] same = absurd (cc same)
finishing_is_something time (number ∷ waiting) same = absurd (cc same)

-- where Nothing is answered, the next item is waited for
open_at_nothing : (p q : Phase) (rest : List Item) (old : FilingParts) → turn_answer (record { phase = p; filing = old }) (next_in p rest) ≡ turn.Nothing → IfThere (next_in p rest) (q ≡ p) (λ _. Unit {0}) → rest ≡ []
    → q ≡ phase.Open
open_at_nothing phase.Open q [] old answers stays none = stays
open_at_nothing phase.Open q (x ∷ rest) old answers stays none = absurd (cc none)
open_at_nothing (phase.Finishing time) q rest old answers stays none = absurd (finishing_is_something time (sessions_of old.running) answers)
open_at_nothing phase.Closed q rest old answers stays none = absurd (cc answers)

-- where Over is answered, it is not
ended_at_over : (p q : Phase) (rest : List Item) (old : FilingParts) → turn_answer (record { phase = p; filing = old }) (next_in p rest) ≡ turn.Over → IfThere (next_in p rest) (q ≡ p) (λ _. Unit {0}) → q ≡ phase.Open → ⊥
ended_at_over phase.Open q [] old answers stays opened = absurd (cc answers)
ended_at_over phase.Open q (x ∷ rest) old answers stays opened = item_is_not_over x answers
ended_at_over (phase.Finishing time) q rest old answers stays opened = absurd (cc (sym stays ∙ opened))
ended_at_over phase.Closed q rest old answers stays opened = absurd (cc (sym stays ∙ opened))

left_of_nothing : (p : Phase) (rest : List Item) → rest ≡ [] → left_in p rest ≡ []
left_of_nothing phase.Open [] none = refl
left_of_nothing phase.Open (x ∷ rest) none = absurd (cc none)
left_of_nothing (phase.Finishing time) rest none = none
left_of_nothing phase.Closed rest none = none

hold_nothing : (items rest whole : List Item) (events : List EventRecord) (vm_ticks ring : List Tick) → items ++ rest ≡ whole → rest ≡ [] → HoldRest items rest events vm_ticks ring → HoldRest whole [] events vm_ticks ring
hold_nothing items rest whole events vm_ticks ring all none hold =
    let is : items ≡ whole = sym (append-nil items) ∙ ap (λ (l : List Item). items ++ l) (sym none) ∙ all in
    subst (λ (l : List Item). HoldRest l [] events vm_ticks ring) is (subst (λ (l : List Item). HoldRest items l events vm_ticks ring) none hold)

-- after a turn that answers Nothing
pub settled_at_nothing : (base : ℕ) (whole : List Item) (applied ticked applied' ticked' : ℕ) (old new : CourseParts) (answer : ProcTurn) (before parts parts' : Option Parts)
    (events events' : List EventRecord) (vm_ticks vm_ticks' ring ring' : List Tick) → IsLegalItems whole → (g : GoesOn base whole applied ticked old before parts events vm_ticks ring)
    → IsPlainTurn base g.items g.rest old new answer applied' ticked' before parts' events' vm_ticks' ring' → answer ≡ turn.Nothing → g.rest ≡ []
    → StandsFor base (g.items ++ g.rest) applied' ticked' new before parts' → IsSettled base whole applied' ticked' new before parts' events' vm_ticks' ring'
settled_at_nothing base whole applied ticked applied' ticked' old new answer before parts parts' events events' vm_ticks vm_ticks' ring ring' legal g t nothing none stands =
    let all : StandsFor base whole applied' ticked' new before parts' = subst (λ (l : List Item). StandsFor base l applied' ticked' new before parts') g.all stands in
    let opened : new.phase ≡ phase.Open =
    open_at_nothing old.phase new.phase g.rest old.filing (answered_nothing old.filing.is_spent new.filing.is_spent (turn_answer old (next_in old.phase g.rest)) (sym t.answers ∙ nothing)) t.stays none in
    record {
      stands = all;
      hold = hold_nothing _ (left_in old.phase g.rest) whole events' vm_ticks' ring' (taken_and_left old.phase g.items g.rest ∙ g.all) (left_of_nothing old.phase g.rest none) t.hold;
      delivered =
          subst (λ (p : Phase). AreDelivered base whole (waiting_in p new.filing.running) new.filing before parts') opened
          (files_are_delivered base whole applied' ticked' new before parts' all legal);
    }

-- after a turn that answers Over
pub settled_at_over : (base : ℕ) (whole : List Item) (applied ticked applied' ticked' : ℕ) (old new : CourseParts) (answer : ProcTurn) (before parts parts' : Option Parts)
    (events events' : List EventRecord) (vm_ticks vm_ticks' ring ring' : List Tick) → IsLegalItems whole → (g : GoesOn base whole applied ticked old before parts events vm_ticks ring)
    → IsPlainTurn base g.items g.rest old new answer applied' ticked' before parts' events' vm_ticks' ring' → answer ≡ turn.Over
    → AreDelivered base (g.items ++ g.rest) [] new.filing before parts' → IsSettled base whole applied' ticked' new before parts' events' vm_ticks' ring'
settled_at_over base whole applied ticked applied' ticked' old new answer before parts parts' events events' vm_ticks vm_ticks' ring ring' legal g t over delivered =
    let taken : List Item = g.items ++ option_to_list (next_in old.phase g.rest) in
    let all : taken ++ left_in old.phase g.rest ≡ whole = taken_and_left old.phase g.items g.rest ∙ g.all in
    let ended : new.phase ≡ phase.Open → ⊥ = ended_at_over old.phase new.phase g.rest old.filing
    (answered_over old.filing.is_spent new.filing.is_spent (turn_answer old (next_in old.phase g.rest)) (sym t.answers ∙ over)) t.stays in
    let none : left_in old.phase g.rest ≡ [] = nothing_follows_the_end base taken (left_in old.phase g.rest) applied' ticked' new before parts' t.stands (subst IsLegalItems (sym all) legal) ended in
    let is : taken ≡ whole = sym (append-nil taken) ∙ ap (λ (l : List Item). taken ++ l) (sym none) ∙ all in
    record {
      stands = subst (λ (l : List Item). StandsFor base l applied' ticked' new before parts') is t.stands;
      hold = hold_nothing taken (left_in old.phase g.rest) whole events' vm_ticks' ring' all none t.hold;
      delivered = subst (λ (l : List Item). AreDelivered base l [] new.filing before parts') g.all delivered;
    }
