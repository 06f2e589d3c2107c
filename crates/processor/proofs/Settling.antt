-- How many turns are left until a processor over three queues is settled.
use Rattle.std.proofs.Common.{◌≡◌, ℕ, ◌+◌, ◌≤◌, List, [], ◌∷◌, ◌++◌, length, sym, ap, subst, ◌∙◌, ⊎_elim, append-nil, append_assoc, arith}
use Rattle.std.proofs.lemmas.List.{length-map}
use Rattle.std.proofs.lemmas.List.Sums.{length-filter, count_by-le-length}
use Rattle.std.specs.Option.{option_to_list}
use Rattle.std.specs.Ordering.{nat_cmp}
use Rattle.std.specs.Prelude.{Option, not, ◌==◌}
use Rattle.attribution.proofs.Without.{length_put}
use Rattle.prof_base.specs.Ordered.{insert_sorted}
use Rattle.code_event.specs.ItemList.{IsLegalItems}
use Rattle.code_event.specs.declared.event.CodeEvent.{CodeEvent}
use Rattle.code_event.specs.declared.event.CodeEvent.TheVariants.{Create, Move, NoOpt, Deopt, Delete, Start, Stop, Finish}
use Rattle.code_event.specs.declared.event.EventRecord.{EventRecord}
use Rattle.code_event.specs.declared.tick.Item.{Item}
use Rattle.code_event.specs.declared.tick.Item.TheVariants as item
use Rattle.code_event.specs.declared.tick.Tick.{Tick}
use Rattle.out_stream.specs.Parts.{Parts}
use Rattle.pipe_core.specs.CoreOrder.{IsJoined}
use Rattle.pipe_core.specs.Observed.{IfThere}
use Rattle.pipe_core.specs.Stamps.{events_of, ticks_of}
use Rattle.processor.specs.Course.{CourseParts, EndsWaiting, IsFiledAt, answer_with, turn_answer}
use Rattle.processor.specs.Filing.{FilingParts}
use Rattle.processor.specs.Plain.{GoesOn, IsPlainTurn, next_in, left_in}
use Rattle.processor.specs.Running.{by_session, running_ports, running_with, sessions_of, without_session}
use Rattle.processor.specs.TakingLaws.{HoldRest}
use Rattle.processor.specs.declared.running.SessionPort.{SessionPort}
use Rattle.processor.specs.declared.turn.Phase.{Phase}
use Rattle.processor.specs.declared.turn.Phase.TheVariants as phase
use Rattle.processor.specs.declared.turn.ProcTurn.{ProcTurn}
use Rattle.processor.specs.declared.turn.ProcTurn.TheVariants as turn
use Rattle.processor.proofs.PlainSteps.{answer_same}
use Rattle.processor.proofs.RunningSessions.{running_on-append, sessions_put}
use Rattle.processor.proofs.Turns.{legal_before}
use Rattle.processor.proofs.TurnsLeft.{ends_one, waits_at_most}

-- how many turns at most still answer neither Nothing nor Over, where the queues hold this many items: an item takes one turn, and so does each session that runs, of which an item starts at most one
abbrev pub turns_to_settle : Phase → ℕ → List SessionPort → ℕ
turns_to_settle phase.Open held running = held + held + length running
turns_to_settle (phase.Finishing time) held running = length running
turns_to_settle phase.Closed held running = 0

length_joined : {A : Type 0} (one other all : List A) → IsJoined one other all → length one + length other ≡ length all
length_joined one other [] joined =
    let none : length one ≡ 0 = ap length joined.0 in
    let no_other : length other ≡ 0 = ap length joined.1 in
    omega (arith, none, no_other)
length_joined {A} one other (x ∷ all) joined =
    ⊎_elim
    (λ (l : (rest : List A) × (one ≡ x ∷ rest) × IsJoined rest other all).
    let is : length one ≡ length (x ∷ l.0) = ap length l.1 in
    let rest = length_joined l.0 other all l.2 in
    omega (arith, is, rest))
    (λ (r : (rest : List A) × (other ≡ x ∷ rest) × IsJoined one rest all).
    let is : length other ≡ length (x ∷ r.0) = ap length r.1 in
    let rest = length_joined one r.0 all r.2 in
    omega (arith, is, rest)) joined

length_both : (items : List Item) → length (events_of items) + length (ticks_of items) ≡ length items
length_both [] = omega arith
length_both (item.Event e ∷ items) = let rest = length_both items in omega (arith, rest)
length_both (item.Tick t ∷ items) = let rest = length_both items in omega (arith, rest)

-- three queues hold as many items as the rest has
length_held : (items rest : List Item) (events : List EventRecord) (vm_ticks ring : List Tick) → HoldRest items rest events vm_ticks ring → length events + length vm_ticks + length ring ≡ length rest
length_held items rest events vm_ticks ring hold =
    let of_events : length events ≡ length (events_of rest) = ap length hold.events_are in
    let of_ticks = length_joined vm_ticks ring (ticks_of rest) hold.ticks_are in
    let both = length_both rest in
    omega (arith, of_events, of_ticks, both)

length_sessions : (running : List SessionPort) → length (sessions_of running) ≡ length running
length_sessions running = length-map running (λ r. r.session.0)

length_started : (r : SessionPort) (running : List SessionPort) → length (insert_sorted by_session r running) ≤ length running + 1
length_started r running =
    let same : length (insert_sorted by_session r running) ≡ length (insert_sorted nat_cmp r.session.0 (sessions_of running)) =
    sym (length_sessions (insert_sorted by_session r running)) ∙ ap length (sessions_put r running) in
    let put = length_put r.session.0 (sessions_of running) in
    let all = length_sessions running in
    omega (arith, same, put, all)

length_without : (number : ℕ) (running : List SessionPort) → length (without_session number running) ≤ length running
length_without number running =
    subst (λ n. n ≤ length running) (sym (length-filter (λ (r : SessionPort). not (r.session.0 == number)) running)) (count_by-le-length (λ (r : SessionPort). not (r.session.0 == number)) running)

length_with : (event : CodeEvent) (running : List SessionPort) → length (running_with running event) ≤ length running + 1
length_with (Create start layout) running = omega arith
length_with (Move from to) running = omega arith
length_with (NoOpt start reason) running = omega arith
length_with (Deopt start reason) running = omega arith
length_with (Delete start) running = omega arith
length_with (Start s options time) running = length_started (record { session = s; port = options.port }) running
length_with (Stop s time) running = let less = length_without s.0 running in omega (arith, less)
length_with (Finish time files) running = omega arith

-- an item starts one session at most
starts_at_most_one : (items : List Item) (x : Item) → length (running_ports (items ++ x ∷ [])) ≤ length (running_ports items) + 1
starts_at_most_one items (item.Event e) =
    subst (λ (l : List SessionPort). length l ≤ length (running_ports items) + 1) (sym (running_on-append items (item.Event e ∷ []) [])) (length_with e.event (running_ports items))
starts_at_most_one items (item.Tick t) =
    subst (λ (l : List SessionPort). length l ≤ length (running_ports items) + 1) (sym (running_on-append items (item.Tick t ∷ []) [])) (omega arith)

took_one : (q : Phase) (base : ℕ) (items : List Item) (x : Item) (rest : List Item) (old new : FilingParts) (held held' : ℕ) (before now : Option Parts) → IsLegalItems (items ++ x ∷ [])
    → old.running ≡ running_ports items → IsFiledAt q base (items ++ x ∷ []) new before now → held ≡ length (x ∷ rest) → held' ≡ length rest
    → turns_to_settle q held' new.running + 1 ≤ held + held + length old.running
took_one phase.Open base items x rest old new held held' before now legal was h all less =
    let ran : length old.running ≡ length (running_ports items) = ap (λ (l : List SessionPort). length l) was in
    let run : length new.running ≡ length (running_ports (items ++ x ∷ [])) = ap (λ (l : List SessionPort). length l) h.1.running_is in
    let one = starts_at_most_one items x in
    omega (arith, ran, run, one, all, less)
took_one (phase.Finishing time) base items x rest old new held held' before now legal was h all less =
    let ran : length old.running ≡ length (running_ports items) = ap (λ (l : List SessionPort). length l) was in
    let same : (items ++ x ∷ []) ++ [] ≡ items ++ x ∷ [] = append-nil (items ++ x ∷ []) in
    let waits = subst (λ (l : List Item). length new.running ≤ length (running_ports l)) same (waits_at_most base (items ++ x ∷ []) [] time new before now (subst IsLegalItems (sym same) legal) h) in
    let one = starts_at_most_one items x in
    omega (arith, ran, waits, one, all)
took_one phase.Closed base items x rest old new held held' before now legal was h all less = omega (arith, all)

turns_fewer : (p q : Phase) (base : ℕ) (items rest : List Item) (old new : FilingParts) (answer : ProcTurn) (held held' : ℕ) (before now now' : Option Parts) → IsLegalItems (items ++ rest)
    → (IsLegalItems items → IsFiledAt p base items old before now)
    → (IsLegalItems (items ++ option_to_list (next_in p rest)) → IsFiledAt q base (items ++ option_to_list (next_in p rest)) new before now')
    → answer ≡ answer_with old.is_spent new.is_spent (turn_answer (record { phase = p; filing = old }) (next_in p rest)) → IfThere (next_in p rest) (q ≡ p) (λ _. Unit {0}) → IfThere (next_in p rest) (EndsWaiting p old new) (λ _. Unit {0})
    → held ≡ length rest → held' ≡ length (left_in p rest) → (answer ≡ turn.Nothing → ⊥) → (answer ≡ turn.Over → ⊥)
    → turns_to_settle q held' new.running + 1 ≤ turns_to_settle p held old.running
turns_fewer phase.Open q base items [] old new answer held held' before now now' legal was filed answers stays waiting all less some more = absurd (some (answers ∙ answer_same old new turn.Nothing waiting))
turns_fewer phase.Open q base items (x ∷ rest) old new answer held held' before now now' legal was filed answers stays waiting all less some more =
    let one : IsLegalItems (items ++ x ∷ []) = legal_before (items ++ x ∷ []) rest (subst IsLegalItems (sym (append_assoc items (x ∷ []) rest)) legal) in
    took_one q base items x rest old new held held' before now' one (was (legal_before items (x ∷ rest) legal)).1.running_is (filed one) all less
turns_fewer (phase.Finishing time) q base items rest old new answer held held' before now now' legal was filed answers stays waiting all less some more =
    subst (λ p. turns_to_settle p held' new.running + 1 ≤ length old.running) (sym stays) (ends_one old.running time old new answer waiting answers more)
turns_fewer phase.Closed q base items rest old new answer held held' before now now' legal was filed answers stays waiting all less some more = absurd (more (answers ∙ answer_same old new turn.Over waiting))

-- a turn that answers neither Nothing nor Over leaves fewer
pub fewer_to_settle : (base : ℕ) (whole : List Item) (applied ticked applied' ticked' : ℕ) (old new : CourseParts) (answer : ProcTurn) (before parts parts' : Option Parts)
    (events events' : List EventRecord) (vm_ticks vm_ticks' ring ring' : List Tick) → IsLegalItems whole → (g : GoesOn base whole applied ticked old before parts events vm_ticks ring)
    → IsPlainTurn base g.items g.rest old new answer applied' ticked' before parts' events' vm_ticks' ring' → (answer ≡ turn.Nothing → ⊥) → (answer ≡ turn.Over → ⊥)
    → turns_to_settle new.phase (length events' + length vm_ticks' + length ring') new.filing.running + 1 ≤ turns_to_settle old.phase (length events + length vm_ticks + length ring) old.filing.running
fewer_to_settle base whole applied ticked applied' ticked' old new answer before parts parts' events events' vm_ticks vm_ticks' ring ring' legal g t some more =
    turns_fewer old.phase new.phase base g.items g.rest old.filing new.filing answer (length events + length vm_ticks + length ring) (length events' + length vm_ticks' + length ring') before parts parts'
    (subst IsLegalItems (sym g.all) legal) g.stands.filed t.stands.filed t.answers t.stays t.waiting
    (length_held g.items g.rest events vm_ticks ring g.hold) (length_held (g.items ++ option_to_list (next_in old.phase g.rest)) (left_in old.phase g.rest) events' vm_ticks' ring' t.hold) some more
