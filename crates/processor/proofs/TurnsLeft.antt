-- How many turns are left, until one answers Nothing or Over.
use Rattle.std.proofs.Common.{◌≡◌, ℕ, ◌+◌, ◌≤◌, List, [], ◌∷◌, ◌++◌, length, true, refl, sym, ap, subst, ◌∙◌, append-nil, append_assoc, length-append, arith}
use Rattle.std.proofs.lemmas.List.{length-map}
use Rattle.std.proofs.lemmas.List.Sums.{length-filter, count_by-le-length}
use Rattle.std.specs.Option.{option_to_list}
use Rattle.std.specs.Prelude.{Option, not, ◌==◌}
use Rattle.attribution.proofs.Without.{without_first}
use Rattle.code_event.specs.ItemList.{IsLegalItems, without}
use Rattle.code_event.specs.declared.event.EventRecord.{EventRecord}
use Rattle.code_event.specs.declared.tick.Item.{Item}
use Rattle.code_event.specs.declared.tick.Item.TheVariants as item
use Rattle.code_event.specs.declared.tick.Tick.{Tick}
use Rattle.pipe_core.specs.Observed.{IfThere}
use Rattle.out_stream.specs.Parts.{Parts}
use Rattle.processor.specs.Course.{CourseParts, EndsFirst, EndsWaiting, IsFiledAt, IsFinishing, StandsFor, answer_with, waiting_answer, turn_answer}
use Rattle.processor.specs.Filing.{FilingParts}
use Rattle.processor.specs.Plain.{GoesOn, IsPlainTurn, next_in, left_in}
use Rattle.processor.specs.Running.{running_ports, running_with, sessions_of, without_session}
use Rattle.processor.specs.TakingLaws.{HoldRest}
use Rattle.processor.specs.declared.running.SessionPort.{SessionPort}
use Rattle.processor.specs.declared.turn.Phase.{Phase}
use Rattle.processor.specs.declared.turn.Phase.TheVariants as phase
use Rattle.processor.specs.declared.turn.ProcTurn.{ProcTurn}
use Rattle.processor.specs.declared.turn.ProcTurn.TheVariants as turn
use Rattle.processor.proofs.DeliveredFiles.{last_item}
use Rattle.processor.proofs.FiledItems.{sessions_after}
use Rattle.processor.proofs.PlainSteps.{answer_same}
use Rattle.processor.proofs.RunningSessions.{running_on-append, sessions_without}
use Rattle.processor.proofs.Turns.{legal_before}

-- the turns that are left at most, where the queues hold this rest of the whole list
abbrev pub turns_left : Phase → List Item → List SessionPort → List Item → ℕ
turns_left phase.Open rest running whole = length rest + length (running_ports whole)
turns_left (phase.Finishing time) rest running whole = length running
turns_left phase.Closed rest running whole = 0

-- no more sessions wait than run after the list
pub waits_at_most : (base : ℕ) (items rest : List Item) (time : ℕ) (filing : FilingParts) (before now : Option Parts) → IsLegalItems (items ++ rest) → IsFinishing base items time filing before now
    → length filing.running ≤ length (running_ports (items ++ rest))
waits_at_most base items rest time filing before now legal h =
    let last : rest ≡ [] = last_item items h.earlier rest h.event time true h.all h.is_finish legal in
    let whole : running_ports (items ++ rest) ≡ running_ports h.earlier =
    ap running_ports (ap (λ (l : List Item). items ++ l) last ∙ append-nil items ∙ h.all) ∙ running_on-append h.earlier (item.Event h.event ∷ []) [] ∙ ap (running_with (running_ports h.earlier)) h.is_finish in
    let among : length (running_ports h.earlier) ≡ length h.ended + length filing.running =
    sym (length-map (running_ports h.earlier) (λ r. r.session.0)) ∙ ap length (sessions_after h.earlier ∙ h.running) ∙ length-append h.ended (sessions_of filing.running)
    ∙ ap (λ n. length h.ended + n) (length-map filing.running (λ r. r.session.0)) in
    let runs : length (running_ports (items ++ rest)) ≡ length h.ended + length filing.running = ap length whole ∙ among in
    omega (arith, runs)

-- one that has ended waits no more
fewer_wait : (r : SessionPort) (running now : List SessionPort) → now ≡ without_session r.session.0 (r ∷ running) → length now + 1 ≤ length (r ∷ running)
fewer_wait r running now ended =
    let number : ℕ = r.session.0 in
    let same : length now ≡ length (without number (sessions_of running)) =
    sym (length-map now (λ x. x.session.0)) ∙ ap length (ap sessions_of ended ∙ sessions_without number (r ∷ running) ∙ without_first number (sessions_of running)) in
    let at_most : length (without number (sessions_of running)) ≤ length (sessions_of running) =
    subst (λ n. n ≤ length (sessions_of running)) (sym (length-filter (λ m. not (m == number)) (sessions_of running))) (count_by-le-length (λ m. not (m == number)) (sessions_of running)) in
    let all : length (sessions_of running) ≡ length running = length-map running (λ x. x.session.0) in
    omega (arith, same, at_most, all)

-- a turn that ends a session leaves fewer that wait
pub ends_one : (running : List SessionPort) (time : ℕ) (old new : FilingParts) (answer : ProcTurn)
    → EndsFirst running old new → answer ≡ answer_with old.is_spent new.is_spent (waiting_answer (phase.Finishing time) (sessions_of running)) → (answer ≡ turn.Over → ⊥)
    → length new.running + 1 ≤ length running
ends_one [] time old new answer ends answers more = absurd (more (answers ∙ answer_same old new turn.Over ends))
ends_one (r ∷ running) time old new answer ends answers more = fewer_wait r running new.running ends

takes_one : (p : Phase) (base : ℕ) (items : List Item) (x : Item) (rest : List Item) (new : FilingParts) (before now : Option Parts) → IsLegalItems (items ++ x ∷ rest)
    → IsFiledAt p base (items ++ x ∷ []) new before now → turns_left p rest new.running (items ++ x ∷ rest) + 1 ≤ length (x ∷ rest) + length (running_ports (items ++ x ∷ rest))
takes_one phase.Open base items x rest new before now legal h = omega arith
takes_one (phase.Finishing time) base items x rest new before now legal h =
    let all : (items ++ x ∷ []) ++ rest ≡ items ++ x ∷ rest = append_assoc items (x ∷ []) rest in
    let waits = waits_at_most base (items ++ x ∷ []) rest time new before now (subst IsLegalItems (sym all) legal) h in
    let same : length (running_ports ((items ++ x ∷ []) ++ rest)) ≡ length (running_ports (items ++ x ∷ rest)) = ap (λ (l : List Item). length (running_ports l)) all in
    omega (arith, waits, same)
takes_one phase.Closed base items x rest new before now legal h = omega arith

one_fewer : (p q : Phase) (base : ℕ) (items rest : List Item) (old new : FilingParts) (answer : ProcTurn) (before now : Option Parts) → IsLegalItems (items ++ rest)
    → (IsLegalItems (items ++ option_to_list (next_in p rest)) → IsFiledAt q base (items ++ option_to_list (next_in p rest)) new before now)
    → answer ≡ answer_with old.is_spent new.is_spent (turn_answer (record { phase = p; filing = old }) (next_in p rest)) → IfThere (next_in p rest) (q ≡ p) (λ _. Unit {0}) → IfThere (next_in p rest) (EndsWaiting p old new) (λ _. Unit {0})
    → (answer ≡ turn.Nothing → ⊥) → (answer ≡ turn.Over → ⊥) → turns_left q (left_in p rest) new.running (items ++ rest) + 1 ≤ turns_left p rest old.running (items ++ rest)
one_fewer phase.Open q base items [] old new answer before now legal filed answers stays waiting some more = absurd (some (answers ∙ answer_same old new turn.Nothing waiting))
one_fewer phase.Open q base items (x ∷ rest) old new answer before now legal filed answers stays waiting some more =
    takes_one q base items x rest new before now legal (filed (legal_before (items ++ x ∷ []) rest (subst IsLegalItems (sym (append_assoc items (x ∷ []) rest)) legal)))
one_fewer (phase.Finishing time) q base items rest old new answer before now legal filed answers stays waiting some more =
    subst (λ p. turns_left p rest new.running (items ++ rest) + 1 ≤ length old.running) (sym stays) (ends_one old.running time old new answer waiting answers more)
one_fewer phase.Closed q base items rest old new answer before now legal filed answers stays waiting some more = absurd (more (answers ∙ answer_same old new turn.Over waiting))

-- what is left of a run over queues, of which this many turns were made
pub record IsLeft (base : ℕ) (whole : List Item) (turns most : ℕ) (applied ticked : ℕ) (course : CourseParts) (before now : Option Parts) (events : List EventRecord) (vm_ticks ring : List Tick) : Type 0 where
  pub on : GoesOn base whole applied ticked course before now events vm_ticks ring
  pub left : IsLegalItems whole → turns_left course.phase on.rest course.filing.running whole + turns ≤ most

left_at_first : (p : Phase) (base : ℕ) (items rest : List Item) (filing : FilingParts) (before now : Option Parts) → IsLegalItems (items ++ rest) → IsFiledAt p base items filing before now
    → turns_left p rest filing.running (items ++ rest) ≤ length rest + length (running_ports (items ++ rest))
left_at_first phase.Open base items rest filing before now legal h = omega arith
left_at_first (phase.Finishing time) base items rest filing before now legal h =
    let waits = waits_at_most base items rest time filing before now legal h in
    omega (arith, waits)
left_at_first phase.Closed base items rest filing before now legal h = omega arith

-- before the first turn
pub all_left : (base : ℕ) (items rest : List Item) (applied ticked : ℕ) (course : CourseParts) (before now : Option Parts) (events : List EventRecord) (vm_ticks ring : List Tick)
    → StandsFor base items applied ticked course before now → HoldRest items rest events vm_ticks ring
    → IsLeft base (items ++ rest) 0 (length rest + length (running_ports (items ++ rest))) applied ticked course before now events vm_ticks ring
all_left base items rest applied ticked course before now events vm_ticks ring stands hold = record {
  on = record { items = items; rest = rest; all = refl; stands = stands; hold = hold };
  left = λ legal.
      let at_first = left_at_first course.phase base items rest course.filing before now legal (stands.filed (legal_before items rest legal)) in
      omega (arith, at_first);
}

pub taken_and_left : (p : Phase) (items rest : List Item) → (items ++ option_to_list (next_in p rest)) ++ left_in p rest ≡ items ++ rest
taken_and_left phase.Open items [] = ap (λ (l : List Item). l ++ []) (append-nil items)
taken_and_left phase.Open items (x ∷ rest) = append_assoc items (x ∷ []) rest
taken_and_left (phase.Finishing time) items rest = ap (λ (l : List Item). l ++ rest) (append-nil items)
taken_and_left phase.Closed items rest = ap (λ (l : List Item). l ++ rest) (append-nil items)

-- after one more turn
pub one_more : (base : ℕ) (whole : List Item) (turns most : ℕ) (applied ticked applied' ticked' : ℕ) (old new : CourseParts) (answer : ProcTurn) (before parts parts' : Option Parts)
    (events events' : List EventRecord) (vm_ticks vm_ticks' ring ring' : List Tick) → (h : IsLeft base whole turns most applied ticked old before parts events vm_ticks ring)
    → IsPlainTurn base h.on.items h.on.rest old new answer applied' ticked' before parts' events' vm_ticks' ring' → (answer ≡ turn.Nothing → ⊥) → (answer ≡ turn.Over → ⊥)
    → IsLeft base whole (turns + 1) most applied' ticked' new before parts' events' vm_ticks' ring'
one_more base whole turns most applied ticked applied' ticked' old new answer before parts parts' events events' vm_ticks vm_ticks' ring ring' h t some more = record {
  on = record {
    items = h.on.items ++ option_to_list (next_in old.phase h.on.rest);
    rest = left_in old.phase h.on.rest;
    all = taken_and_left old.phase h.on.items h.on.rest ∙ h.on.all;
    stands = t.stands;
    hold = t.hold;
  };
  left = λ legal.
      let had = h.left legal in
      let fewer : turns_left new.phase (left_in old.phase h.on.rest) new.filing.running whole + 1 ≤ turns_left old.phase h.on.rest old.filing.running whole =
      subst (λ (w : List Item). turns_left new.phase (left_in old.phase h.on.rest) new.filing.running w + 1 ≤ turns_left old.phase h.on.rest old.filing.running w) h.on.all
      (one_fewer old.phase new.phase base h.on.items h.on.rest old.filing new.filing answer before parts' (subst IsLegalItems (sym h.on.all) legal) t.stands.filed t.answers t.stays t.waiting some more) in
      omega (arith, had, fewer);
}
