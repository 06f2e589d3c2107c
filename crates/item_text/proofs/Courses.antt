-- What lines say, as it is kept: with one more line, and what the rules make of it.
use Rattle.std.proofs.Common.{◌≡◌, ◌∙◌, ℕ, List, [], ◌∷◌, ◌++◌, Bool, ◌||◌, ◌==◌, Option, refl, sym, ap, subst}
use Rattle.std.proofs.lemmas.List.{map-append}
use Rattle.code_event.specs.ItemList.{ListSoFar, without}
use Rattle.code_event.specs.declared.tick.Item.{Item}
use Rattle.item_text.specs.declared.item_line.LineEvent.{LineEvent}
use Rattle.item_text.specs.declared.item_line.LineEvent.TheVariants.{Move, NoOpt, Deopt, Delete, Start, Stop, Finish}
use Rattle.item_text.specs.declared.item_line.ItemLine.{ItemLine}
use Rattle.item_text.specs.declared.item_line.ItemLine.TheVariants as line
use Rattle.item_text.specs.declared.item_line.TextLine.{TextLine}
use Rattle.item_text.specs.declared.item_line.TextLine.TheVariants.{Head, Body}
use Rattle.item_text.specs.ItemRules.{BegunCode, Course, no_course, list_after_event, list_after, is_finish, begun_after, item_after, course_after, course_on, course_of}
use Rattle.item_text.specs.ItemRules.{breaks_order, event_breaks_session, breaks_session, item_fault}
use Rattle.item_text.specs.Items.{with_head}
use Rattle.item_text.specs.ItemDraft.{Agree, Reflects, draft_lines}

pub agree_itself : (list : ListSoFar) → Agree list list
agree_itself list = record { time = refl; running = refl; started = λ n. refl }

pub agree_further : (one two three : ListSoFar) → Agree one two → Agree two three → Agree one three
agree_further one two three first second = record { time = first.time ∙ second.time; running = first.running ∙ second.running; started = λ n. first.started n ∙ second.started n }

agree_after_event : (one other : ListSoFar) (event : LineEvent) → Agree one other → Agree (list_after_event one event) (list_after_event other event)
agree_after_event one other (Move from to) same = same
agree_after_event one other (NoOpt start reason) same = same
agree_after_event one other (Deopt start reason) same = same
agree_after_event one other (Delete start) same = same
agree_after_event one other (Start session port interval mode max time) same = record {
  time = refl;
  running = ap (λ (z : List ℕ). session.0 ∷ z) same.running;
  started = λ n. ap (λ (z : Bool). (session.0 == n) || z) (same.started n);
}
agree_after_event one other (Stop session time) same = record { time = refl; running = ap (without session.0) same.running; started = same.started }
agree_after_event one other (Finish time files) same = record { time = refl; running = same.running; started = same.started }

agree_after : (one other : ListSoFar) (line : ItemLine) → Agree one other → Agree (list_after one line) (list_after other line)
agree_after one other (line.Create start) same = same
agree_after one other (line.Unit u) same = same
agree_after one other (line.Slot slot) same = same
agree_after one other (line.Event event) same = agree_after_event one other event same
agree_after one other (line.Tick tick) same = record { time = refl; running = same.running; started = same.started }

pub reflects_further : (one two three : Course) → Reflects one two → Reflects two three → Reflects one three
reflects_further one two three first second =
    record { list = agree_further one.list two.list three.list first.list second.list; finished = first.finished ∙ second.finished; begun = first.begun ∙ second.begun }

reflects_after : (one other : Course) (line : ItemLine) → Reflects one other → Reflects (item_after one line) (item_after other line)
reflects_after one other line same = record {
  list = agree_after one.list other.list line same.list;
  finished = ap (λ (z : Bool). z || is_finish line) same.finished;
  begun = ap (λ (z : Option BegunCode). begun_after z line) same.begun;
}

event_session_same : (one other : ListSoFar) (event : LineEvent) → Agree one other → event_breaks_session one event ≡ event_breaks_session other event
event_session_same one other (Move from to) same = refl
event_session_same one other (NoOpt start reason) same = refl
event_session_same one other (Deopt start reason) same = refl
event_session_same one other (Delete start) same = refl
event_session_same one other (Start session port interval mode max time) same = rw (same.started session.0, same.running) refl
event_session_same one other (Stop session time) same = rw same.running refl
event_session_same one other (Finish time files) same = refl

session_same : (one other : ListSoFar) (line : ItemLine) → Agree one other → breaks_session one line ≡ breaks_session other line
session_same one other (line.Create start) same = refl
session_same one other (line.Unit u) same = refl
session_same one other (line.Slot slot) same = refl
session_same one other (line.Event event) same = event_session_same one other event same
session_same one other (line.Tick tick) same = refl

order_same : (one other : Course) (line : ItemLine) → Reflects one other → breaks_order one line ≡ breaks_order other line
order_same one other line same = rw (same.finished, same.begun, same.list.time) refl

-- what is kept breaks the rules just as the lines do
pub fault_same : (one other : Course) (line : ItemLine) → Reflects one other → item_fault one line ≡ item_fault other line
fault_same one other line same = rw (order_same one other line same, session_same one.list other.list line same.list, same.begun) refl

course_more : (course : Course) (lines : List TextLine) (line : TextLine) → course_on course (lines ++ line ∷ []) ≡ course_after (course_on course lines) line
course_more course [] line = refl
course_more course (first ∷ lines) line = course_more (course_after course first) lines line

head_more : (base : ℕ) (lines more : List ItemLine) (line : ItemLine) → more ≡ lines ++ line ∷ [] → with_head base more ≡ with_head base lines ++ Body line ∷ []
head_more base lines more line is = ap (λ (z : List ItemLine). with_head base z) is ∙ ap (λ (z : List TextLine). Head base ∷ z) (map-append (λ l. Body l) lines (line ∷ []))

-- what is kept with one more line
pub draft_more : (base : ℕ) (items more : List Item) (before after : Course) (line : ItemLine)
    → Reflects before (course_of (with_head base (draft_lines items before.begun))) → Reflects after (item_after before line)
    → draft_lines more after.begun ≡ draft_lines items before.begun ++ line ∷ []
    → (with_head base (draft_lines more after.begun) ≡ with_head base (draft_lines items before.begun) ++ Body line ∷ []) × Reflects after (course_of (with_head base (draft_lines more after.begun)))
draft_more base items more before after line kept next is =
    let old = with_head base (draft_lines items before.begun) in
    let lines : with_head base (draft_lines more after.begun) ≡ old ++ Body line ∷ [] = head_more base (draft_lines items before.begun) (draft_lines more after.begun) line is in
    let further : Reflects after (item_after (course_of old) line) = reflects_further after (item_after before line) (item_after (course_of old) line) next (reflects_after before (course_of old) line kept) in
    (lines, subst (λ (z : List TextLine). Reflects after (course_of z)) (sym lines) (rw (course_more no_course old (Body line)) further))
