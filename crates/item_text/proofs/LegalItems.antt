-- That a list whose lines keep the rules is legal.
use Rattle.std.proofs.Common.{◌≡◌, ◌∙◌, ℕ, ◌≤◌, List, [], ◌∷◌, ◌++◌, map, length, Bool, true, false, cond, ◌||◌, ◌==◌, not, nat_lt, Some, None, refl, sym, ap, subst, append_assoc, append-nil, arith, inl, inr}
use Rattle.std.specs.List.{Contains}
use Rattle.std.proofs.lemmas.Bool.{or_parts, or_cases, eqb-true, ltb-true, not-false}
use Rattle.std.proofs.lemmas.Bool.Decides.{nat_tests}
use Rattle.std.proofs.lemmas.List.{map-append}
use Rattle.prof_base.proofs.Ordered.{Has, has_from_contains, contains_from_has}
use Rattle.prof_lines.specs.declared.fault.Cause.{Cause}
use Rattle.prof_lines.specs.Values.{Keeps}
use Rattle.code_event.specs.declared.event.TheConstants.{MAX_SESSIONS}
use Rattle.code_event.specs.ItemList.{ListSoFar, MayCome, IsLegalAfter}
use Rattle.code_event.specs.declared.event.CodeEvent.{CodeEvent}
use Rattle.code_event.specs.declared.event.CodeEvent.TheVariants as event
use Rattle.code_event.specs.declared.layout.Slot.{Slot}
use Rattle.code_event.specs.declared.layout.Unit.{Unit as CodeUnit}
use Rattle.code_event.specs.declared.tick.Item.{Item}
use Rattle.code_event.specs.declared.tick.Item.TheVariants as item
use Rattle.record_text.specs.declared.rule.Rule.{Rule}
use Rattle.item_text.specs.declared.item_line.LineEvent.TheVariants.{Start, Stop, Finish}
use Rattle.item_text.specs.declared.item_line.ItemLine.{ItemLine}
use Rattle.item_text.specs.declared.item_line.ItemLine.TheVariants as line
use Rattle.item_text.specs.declared.item_line.TextLine.{TextLine}
use Rattle.item_text.specs.declared.item_line.TextLine.TheVariants.{Head, Body}
use Rattle.item_text.specs.ItemLaws.{KeptListsAreLegal}
use Rattle.item_text.specs.ItemRules.{Course, no_course, list_after, item_after, course_after, course_on, course_of, is_among, is_in_place, is_earlier, item_time, breaks_order, breaks_session, breaks_limit, item_fault, fault_after}
use Rattle.item_text.specs.Items.{Fits, event_lines, tick_line, lines_of_item, lines_of_items}

-- lines after the first, as lines of the text
abbrev bodies : List ItemLine → List TextLine
bodies lines = map (λ line. Body line) lines

-- these lines keep the rules after those before them
abbrev AreKept : List TextLine → List ItemLine → Type 0
AreKept before lines = Keeps Fits fault_after before (bodies lines)

course_further : (course : Course) (lines more : List TextLine) → course_on course (lines ++ more) ≡ course_on (course_on course lines) more
course_further course [] more = refl
course_further course (line ∷ lines) more = course_further (course_after course line) lines more

keeps_further : (before lines more : List TextLine) → Keeps Fits fault_after before (lines ++ more) → Keeps Fits fault_after (before ++ lines) more
keeps_further before [] more h = subst (λ (z : List TextLine). Keeps Fits fault_after z more) (sym (append-nil before)) h
keeps_further before (line ∷ lines) more h =
    subst (λ (z : List TextLine). Keeps Fits fault_after z more) (append_assoc before (line ∷ []) lines) (keeps_further (before ++ line ∷ []) lines more h.2)

kept_further : (before : List TextLine) (lines more : List ItemLine) → AreKept before (lines ++ more) → AreKept (before ++ bodies lines) more
kept_further before lines more h = keeps_further before (bodies lines) (bodies more) (subst (Keeps Fits fault_after before) (map-append (λ l. Body l) lines more) h)

units_pass : (course : Course) (units : List CodeUnit) → (course_on course (bodies (map (λ u. line.Unit u) units))).list ≡ course.list
units_pass course [] = refl
units_pass course (u ∷ units) = units_pass (item_after course (line.Unit u)) units

slots_pass : (course : Course) (slots : List Slot) → (course_on course (bodies (map (λ s. line.Slot s) slots))).list ≡ course.list
slots_pass course [] = refl
slots_pass course (slot ∷ slots) = slots_pass (item_after course (line.Slot slot)) slots

code_passes : (course : Course) (start : ℕ) (units : List CodeUnit) (slots : List Slot)
    → (course_on course (bodies (line.Create start ∷ (map (λ u. line.Unit u) units ++ map (λ s. line.Slot s) slots)))).list ≡ course.list
code_passes course start units slots =
    let begun = item_after course (line.Create start) in
    ap (λ (z : List TextLine). (course_on begun z).list) (map-append (λ l. Body l) (map (λ u. line.Unit u) units) (map (λ s. line.Slot s) slots))
    ∙ ap (λ (z : Course). z.list) (course_further begun (bodies (map (λ u. line.Unit u) units)) (bodies (map (λ s. line.Slot s) slots)))
    ∙ slots_pass (course_on begun (bodies (map (λ u. line.Unit u) units))) slots
    ∙ units_pass begun units

-- what the rules Order and Session say of a line that keeps them
record IsKeptLine (course : Course) (line : ItemLine) : Type 0 where
  going_on : course.finished ≡ false
  in_time : is_earlier course.list.time (item_time line) ≡ false
  session : breaks_session course.list line ≡ false

kept_by : (order session limit : Bool) (a b c : Cause Rule) → cond order (Some a) (cond session (Some b) (cond limit (Some c) None)) ≡ None → (order ≡ false) × (session ≡ false)
kept_by true session limit a b c h = absurd cc
kept_by false true limit a b c h = absurd cc
kept_by false false limit a b c h = (refl, refl)

kept_line : (course : Course) (line : ItemLine) → item_fault course line ≡ None → IsKeptLine course line
kept_line course line h =
    let k = kept_by (breaks_order course line) (breaks_session course.list line) (breaks_limit course.begun line) _ _ _ h in
    let a = or_parts (course.finished || not (is_in_place course.begun line)) (is_earlier course.list.time (item_time line)) k.0 in
    let b = or_parts course.finished (not (is_in_place course.begun line)) a.0 in
    record { going_on = b.0; in_time = a.1; session = k.1 }

not_earlier : (latest time : ℕ) → nat_lt time latest ≡ false → latest ≤ time
not_earlier latest time h = grind (arith, nat_tests)

has_among : (numbers : List ℕ) (n : ℕ) → is_among numbers n ≡ true → Has numbers n
has_among [] n h = absurd cc
has_among (m ∷ numbers) n h = elim (or_cases (m == n) (is_among numbers n) h) [ inl e ↦ inl (eqb-true m n e) | inr later ↦ inr (has_among numbers n later) ]

or_right : (x : Bool) → (x || true) ≡ true
or_right true = refl
or_right false = refl

among_has : (numbers : List ℕ) (n : ℕ) → Has numbers n → is_among numbers n ≡ true
among_has [] n h = absurd h
among_has (m ∷ numbers) n (inl e) = let same : (m == n) ≡ true = grind (arith, nat_tests, e) in rw same refl
among_has (m ∷ numbers) n (inr h) = rw (among_has numbers n h) (or_right (m == n))

true_false : (b : Bool) → b ≡ true → b ≡ false → ⊥
true_false true h e = absurd cc
true_false false h e = absurd cc

not_contained : (numbers : List ℕ) (n : ℕ) → is_among numbers n ≡ false → ¬ Contains numbers n
not_contained numbers n none there = true_false (is_among numbers n) (among_has numbers n (has_from_contains numbers n there)) none

abbrev HasFirst : List ItemLine → Type 0
HasFirst all = (line : ItemLine) × (lines : List ItemLine) × (all ≡ line ∷ lines)

event_first : (e : CodeEvent) → HasFirst (event_lines e)
event_first (event.Create start layout) = (_, _, refl)
event_first (event.Move from to) = (_, _, refl)
event_first (event.NoOpt start reason) = (_, _, refl)
event_first (event.Deopt start reason) = (_, _, refl)
event_first (event.Delete start) = (_, _, refl)
event_first (event.Start session options time) = (_, _, refl)
event_first (event.Stop session time) = (_, _, refl)
event_first (event.Finish time files) = (_, _, refl)

-- an item has a line
item_first : (one : Item) → HasFirst (lines_of_item one)
item_first (item.Event e) = event_first e.event
item_first (item.Tick tick) = (_, _, refl)

first_is_kept : (before : List TextLine) (all rest : List ItemLine) → HasFirst all → AreKept before (all ++ rest) → (course_of before).finished ≡ false
first_is_kept before all rest has kept =
    let h : AreKept before ((has.0 ∷ has.1) ++ rest) = subst (λ (z : List ItemLine). AreKept before (z ++ rest)) has.2 kept in
    (kept_line (course_of before) has.0 h.1).going_on

-- nothing follows a finish
none_follow : (before : List TextLine) (items : List Item) → (course_of before).finished ≡ true → AreKept before (lines_of_items items) → items ≡ []
none_follow before [] over h = refl
none_follow before (one ∷ items) over h = absurd (true_false (course_of before).finished over (first_is_kept before (lines_of_item one) (lines_of_items items) (item_first one) h))

-- one line, and what comes after it
record IsStep (before : List TextLine) (line : ItemLine) (rest : List ItemLine) : Type 0 where
  this : IsKeptLine (course_of before) line
  kept : AreKept (before ++ Body line ∷ []) rest
  course : course_of (before ++ Body line ∷ []) ≡ item_after (course_of before) line

one_step : (before : List TextLine) (line : ItemLine) (rest : List ItemLine) → AreKept before (line ∷ rest) → IsStep before line rest
one_step before line rest h = record { this = kept_line (course_of before) line h.1; kept = h.2; course = course_further no_course before (Body line ∷ []) }

-- what is legal after a line
on_from : (before : List TextLine) (line : ItemLine) (items : List Item) → IsStep before line (lines_of_items items) → ((next : List TextLine) → AreKept next (lines_of_items items) → IsLegalAfter (course_of next).list items)
    → IsLegalAfter (list_after (course_of before).list line) items
on_from before line items step later = subst (λ (z : Course). IsLegalAfter z.list items) step.course (later (before ++ Body line ∷ []) step.kept)

event_legal : (before : List TextLine) (e : CodeEvent) (items : List Item) → AreKept before (event_lines e ++ lines_of_items items)
    → ((next : List TextLine) → AreKept next (lines_of_items items) → IsLegalAfter (course_of next).list items) → MayCome (course_of before).list e items (λ next. IsLegalAfter next items)
event_legal before (event.Create start layout) items kept later =
    let lines = event_lines (event.Create start layout) in
    let same : (course_of (before ++ bodies lines)).list ≡ (course_of before).list =
    ap (λ (z : Course). z.list) (course_further no_course before (bodies lines)) ∙ code_passes (course_of before) start layout.units layout.slots in
    subst (λ (z : ListSoFar). IsLegalAfter z items) same (later (before ++ bodies lines) (kept_further before lines (lines_of_items items) kept))
event_legal before (event.Move from to) items kept later = on_from before _ items (one_step before _ _ kept) later
event_legal before (event.NoOpt start reason) items kept later = on_from before _ items (one_step before _ _ kept) later
event_legal before (event.Deopt start reason) items kept later = on_from before _ items (one_step before _ _ kept) later
event_legal before (event.Delete start) items kept later = on_from before _ items (one_step before _ _ kept) later
event_legal before (event.Start session options time) items kept later =
    let line = line.Event (Start session options.port options.interval options.mode options.max_samples time) in
    let list = (course_of before).list in
    let step = one_step before line (lines_of_items items) kept in
    let free = or_parts (is_among list.started session.0) (not (nat_lt (length list.running) MAX_SESSIONS)) step.this.session in (
      not_earlier list.time time step.this.in_time,
      not_contained list.started session.0 free.0,
      ltb-true (length list.running) MAX_SESSIONS (not-false (nat_lt (length list.running) MAX_SESSIONS) free.1),
      on_from before line items step later,
    )
event_legal before (event.Stop session time) items kept later =
    let line = line.Event (Stop session time) in
    let list = (course_of before).list in
    let step = one_step before line (lines_of_items items) kept in (
      not_earlier list.time time step.this.in_time,
      contains_from_has list.running session.0 (has_among list.running session.0 (not-false (is_among list.running session.0) step.this.session)),
      on_from before line items step later,
    )
event_legal before (event.Finish time files) items kept later =
    let line = line.Event (Finish time files) in
    let step = one_step before line (lines_of_items items) kept in
    let over : (course_of (before ++ Body line ∷ [])).finished ≡ true = ap (λ (z : Course). z.finished) step.course ∙ or_right (course_of before).finished in
    (not_earlier (course_of before).list.time time step.this.in_time, none_follow (before ++ Body line ∷ []) items over step.kept)

legal_after : (before : List TextLine) (items : List Item) → AreKept before (lines_of_items items) → IsLegalAfter (course_of before).list items
legal_after before [] kept = tt
legal_after before (item.Event e ∷ items) kept = event_legal before e.event items kept (λ next h. legal_after next items h)
legal_after before (item.Tick tick ∷ items) kept =
    let line = line.Tick (tick_line tick) in
    let step = one_step before line (lines_of_items items) kept in
    (not_earlier (course_of before).list.time tick.time step.this.in_time, on_from before line items step (λ next h. legal_after next items h))

pub kept_lists_are_legal : KeptListsAreLegal
kept_lists_are_legal list rules = legal_after (Head list.base ∷ []) list.items rules.each.2
