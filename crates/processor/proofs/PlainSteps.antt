-- Which item a turn takes from queues that hold what follows, and what it has done.
use Rattle.std.proofs.Common.{◌≡◌, ℕ, List, [], ◌∷◌, ◌++◌, refl, sym, ap, subst, ◌∙◌, append-nil}
use Rattle.std.specs.Option.{option_to_list}
use Rattle.std.specs.Prelude.{Bool, true, false, Option, Some, None}
use Rattle.code_event.specs.declared.event.EventRecord.{EventRecord}
use Rattle.code_event.specs.declared.tick.Item.{Item}
use Rattle.code_event.specs.declared.tick.Tick.{Tick}
use Rattle.pipe_core.specs.Observed.{IfThere, first_of}
use Rattle.out_stream.specs.Parts.{Parts}
use Rattle.processor.specs.Course.{CourseParts, StandsFor, EndsWaiting, answer_with, turn_answer, waiting_answer}
use Rattle.processor.specs.Filing.{FilingParts}
use Rattle.processor.specs.Plain.{IsPlainTurn, next_in, left_in}
use Rattle.processor.specs.Running.{sessions_of}
use Rattle.processor.specs.Taking.{HasTaken, is_next, LosesEvent, LosesTick}
use Rattle.processor.specs.TakingLaws.{HoldRest}
use Rattle.processor.specs.declared.turn.Phase.{Phase}
use Rattle.processor.specs.declared.turn.Phase.TheVariants as phase
use Rattle.processor.specs.declared.turn.ProcTurn.{ProcTurn}
use Rattle.processor.specs.declared.turn.ProcTurn.TheVariants as turn
use Rattle.processor.proofs.Taking.{the_next_is_the_first_of_the_rest}

-- where memory has not run out in the turn, what it did is its answer
pub answer_unspent : (spent : Bool) (answer : ProcTurn) → answer_with spent spent answer ≡ answer
answer_unspent true answer = refl
answer_unspent false answer = refl

-- where it has changed nothing
pub answer_same : (old new : FilingParts) (answer : ProcTurn) → new ≡ old → answer_with old.is_spent new.is_spent answer ≡ answer
answer_same old new answer same = ap (λ (f : FilingParts). answer_with old.is_spent f.is_spent answer) same ∙ answer_unspent old.is_spent answer

none_is : (p : Phase) (rest : List Item) → (p ≡ phase.Open → rest ≡ []) → None ≡ next_in p rest
none_is phase.Open rest none = sym (ap (λ (l : List Item). first_of l) (none refl))
none_is (phase.Finishing time) rest none = refl
none_is phase.Closed rest none = refl

left_of_none : (p : Phase) (rest : List Item) → None ≡ next_in p rest → left_in p rest ≡ rest
left_of_none phase.Open [] none = refl
left_of_none phase.Open (x ∷ rest) none = absurd (cc none)
left_of_none (phase.Finishing time) rest none = refl
left_of_none phase.Closed rest none = refl

idle_answer : (old new : CourseParts) (answer : ProcTurn) → old.phase ≡ phase.Open → answer ≡ waiting_answer old.phase (sessions_of old.filing.running) → EndsWaiting old.phase old.filing new.filing
    → answer_with old.filing.is_spent new.filing.is_spent answer ≡ turn.Nothing
idle_answer old new answer opened answers waiting =
    let same : new.filing ≡ old.filing = subst (λ p. EndsWaiting p old.filing new.filing) opened waiting in
    answer_same old.filing new.filing answer same ∙ answers ∙ ap (λ p. waiting_answer p (sessions_of old.filing.running)) opened

-- what a turn has done, of which item it took
pub plain_turn : (taken : Option Item) (base : ℕ) (items rest : List Item) (applied ticked applied' ticked' : ℕ) (old new : CourseParts) (answer result : ProcTurn) (before now : Option Parts)
    (events events' : List EventRecord) (vm_ticks vm_ticks' ring ring' : List Tick) → HasTaken applied ticked items → HoldRest items rest events vm_ticks ring
    → IfThere taken (Unit {0}) (λ _. old.phase ≡ phase.Open) → IfThere taken (Unit {0}) (λ x. is_next applied ticked x ≡ true) → IfThere taken (Some events' ≡ Some events) (λ x. LosesEvent (Some events) (Some events') x)
    → IfThere taken ((Some vm_ticks' ≡ Some vm_ticks) × (Some ring' ≡ Some ring)) (λ x. LosesTick (Some vm_ticks) (Some vm_ticks') (Some ring) (Some ring') x)
    → IfThere taken (new.phase ≡ old.phase) (λ _. Unit {0}) → IfThere taken (EndsWaiting old.phase old.filing new.filing) (λ _. Unit {0})
    → StandsFor base (items ++ option_to_list taken) applied' ticked' new before now → answer ≡ turn_answer old taken → result ≡ answer_with old.filing.is_spent new.filing.is_spent answer
    → (result ≡ turn.Nothing → rest ≡ []) → IsPlainTurn base items rest old new result applied' ticked' before now events' vm_ticks' ring'
plain_turn None base items rest applied ticked applied' ticked' old new answer result before now events events' vm_ticks vm_ticks' ring ring' has hold going next lost kept stays waiting stands answers result_is nothing =
    let is : None ≡ next_in old.phase rest = none_is old.phase rest (λ opened. nothing (result_is ∙ idle_answer old new answer opened answers waiting)) in
    let same_events : events' ≡ events = cc lost in
    let same_vm_ticks : vm_ticks' ≡ vm_ticks = cc (kept.0) in
    let same_ring : ring' ≡ ring = cc (kept.1) in
    let held : HoldRest items rest events' vm_ticks' ring' =
    subst (λ e. HoldRest items rest e vm_ticks' ring') (sym same_events)
    (subst (λ v. HoldRest items rest events v ring') (sym same_vm_ticks) (subst (λ r. HoldRest items rest events vm_ticks r) (sym same_ring) hold)) in
    record {
      stands = subst (λ (t : Option Item). StandsFor base (items ++ option_to_list t) applied' ticked' new before now) is stands;
      hold = subst (λ (t : Option Item). HoldRest (items ++ option_to_list t) (left_in old.phase rest) events' vm_ticks' ring') is
          (subst (λ (l : List Item). HoldRest (items ++ []) l events' vm_ticks' ring') (sym (left_of_none old.phase rest is))
          (subst (λ (l : List Item). HoldRest l rest events' vm_ticks' ring') (sym (append-nil items)) held));
      answers = result_is ∙ ap (answer_with old.filing.is_spent new.filing.is_spent) (answers ∙ ap (turn_answer old) is);
      stays = subst (λ (t : Option Item). IfThere t (new.phase ≡ old.phase) (λ _. Unit {0})) is stays;
      waiting = subst (λ (t : Option Item). IfThere t (EndsWaiting old.phase old.filing new.filing) (λ _. Unit {0})) is waiting;
    }
plain_turn (Some x) base items rest applied ticked applied' ticked' old new answer result before now events events' vm_ticks vm_ticks' ring ring' has hold going next lost kept stays waiting stands answers result_is nothing =
    let first = the_next_is_the_first_of_the_rest applied ticked items rest x events events' vm_ticks vm_ticks' ring ring' has next hold lost kept in
    let is : Some x ≡ next_in old.phase rest = sym (ap (λ p. next_in p rest) going ∙ ap (λ (l : List Item). first_of l) first.1) in
    let left : left_in old.phase rest ≡ first.0 = ap (λ p. left_in p rest) going ∙ ap (left_in phase.Open) first.1 in
    record {
      stands = subst (λ (t : Option Item). StandsFor base (items ++ option_to_list t) applied' ticked' new before now) is stands;
      hold = subst (λ (t : Option Item). HoldRest (items ++ option_to_list t) (left_in old.phase rest) events' vm_ticks' ring') is
          (subst (λ (l : List Item). HoldRest (items ++ x ∷ []) l events' vm_ticks' ring') (sym left) first.2);
      answers = result_is ∙ ap (answer_with old.filing.is_spent new.filing.is_spent) (answers ∙ ap (turn_answer old) is);
      stays = subst (λ (t : Option Item). IfThere t (new.phase ≡ old.phase) (λ _. Unit {0})) is tt;
      waiting = subst (λ (t : Option Item). IfThere t (EndsWaiting old.phase old.filing new.filing) (λ _. Unit {0})) is tt;
    }
