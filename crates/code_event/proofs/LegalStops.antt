-- That in a legal list a session is stopped only while it runs, and so each that ends has its file.
use Rattle.std.proofs.Common.{ℕ, List, ◌∷◌, [], ◌++◌, inl, inr, subst}
use Rattle.std.proofs.lemmas.Map.Lookups.{exact_unsigned}
use Rattle.std.specs.Prelude.{not, ◌==◌}
use Rattle.std.specs.Ordering.{nat_cmp}
use Rattle.prof_base.proofs.Ordered.{Has, has_from_contains, contains_from_has, put_has, put_keeps}
use Rattle.prof_base.specs.Ordered.{insert_sorted}
use Rattle.code_event.proofs.EndsHaveFiles.{stopped_sessions_have_files}
use Rattle.code_event.proofs.Members.{IsWithin, filter_within}
use Rattle.code_event.specs.CodeMap.{after_event}
use Rattle.code_event.specs.DeoptReasons.{DeoptReasons, no_reasons, reasons_after_event}
use Rattle.code_event.specs.FileLaws.{AreStoppedWhileRunning, EachEndHasAFile}
use Rattle.code_event.specs.ItemList.{ListSoFar, MayCome, IsLegalAfter, without}
use Rattle.code_event.specs.Seen.{Seen, mark, seen_behind, seen_items}
use Rattle.code_event.specs.declared.code_map.Range.{Range}
use Rattle.code_event.specs.declared.event.CodeEvent.{CodeEvent}
use Rattle.code_event.specs.declared.event.CodeEvent.TheVariants.{Create, Move, NoOpt, Deopt, Delete, Start, Stop, Finish}
use Rattle.code_event.specs.declared.tick.Item.{Item}
use Rattle.code_event.specs.declared.tick.Item.TheVariants as item

-- one more session runs
within_put : (number : ℕ) (xs ys : List ℕ) → IsWithin xs ys → IsWithin (number ∷ xs) (insert_sorted nat_cmp number ys)
within_put number xs ys within n (inl same) = subst (Has (insert_sorted nat_cmp number ys)) same (put_has nat_cmp exact_unsigned number ys)
within_put number xs ys within n (inr h) = put_keeps nat_cmp number n ys (within n h)

-- an event stops only a session that runs, where what follows stops only such sessions too
event_stops : (course : ListSoFar) (running : List ℕ) (reasons : DeoptReasons) (event : CodeEvent) (items : List Item) (seen : List Seen) (Then : ListSoFar → Type 0)
    → IsWithin course.running running → MayCome course event items Then
    → ((next : ListSoFar) (still : List ℕ) → IsWithin next.running still → Then next → AreStoppedWhileRunning still seen)
    → AreStoppedWhileRunning running (mark reasons event ++ seen)
event_stops course running reasons (Create start layout) items seen Then within may rest = rest course running within may
event_stops course running reasons (Move from to) items seen Then within may rest = rest course running within may
event_stops course running reasons (NoOpt start reason) items seen Then within may rest = rest course running within may
event_stops course running reasons (Deopt start reason) items seen Then within may rest = rest course running within may
event_stops course running reasons (Delete start) items seen Then within may rest = rest course running within may
event_stops course running reasons (Start session options time) items seen Then within may rest =
    rest (record { time = time; started = session.0 ∷ course.started; running = session.0 ∷ course.running }) (insert_sorted nat_cmp session.0 running)
    (within_put session.0 course.running running within) may.3
event_stops course running reasons (Stop session time) items seen Then within may rest = (
  contains_from_has running session.0 (within session.0 (has_from_contains course.running session.0 may.1)),
  rest (record { time = time; started = course.started; running = without session.0 course.running }) (without session.0 running)
      (filter_within (λ m. not (m == session.0)) course.running running within) may.2,
)
event_stops course running reasons (Finish time files) items seen Then within may rest = tt

-- the sessions that run are among those that run in the definition of legal lists
legal_stops : (ranges : List Range) (reasons : DeoptReasons) (course : ListSoFar) (running : List ℕ) (items : List Item)
    → IsWithin course.running running → IsLegalAfter course items → AreStoppedWhileRunning running (seen_behind ranges reasons items)
legal_stops ranges reasons course running [] within legal = tt
legal_stops ranges reasons course running (item.Event e ∷ items) within legal =
    let after = after_event ranges e.event in
    let why = reasons_after_event ranges reasons e.event in
    event_stops course running reasons e.event items (seen_behind after why items) (λ next. IsLegalAfter next items) within legal
    (λ next still fits may. legal_stops after why next still items fits may)
legal_stops ranges reasons course running (item.Tick t ∷ items) within legal =
    legal_stops ranges reasons (record { time = t.time; started = course.started; running = course.running }) running items within legal.1

pub legal_ends_have_files : EachEndHasAFile
legal_ends_have_files base items legal =
    stopped_sessions_have_files base (seen_items items)
    (legal_stops [] no_reasons (record { time = 0; started = []; running = [] }) [] items (λ n h. h) legal)
