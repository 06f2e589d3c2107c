-- What is kept of an item list after one more line, for each kind of line.
use Rattle.std.proofs.Common.{◌≡◌, ◌∙◌, ℕ, List, [], ◌∷◌, ◌++◌, map, length, Bool, true, false, cond, ◌||◌, not, Option, Some, None, refl, sym, ap, subst, append_assoc, append-nil}
use Rattle.std.proofs.lemmas.Bool.{or_parts, eqb-true, not-false}
use Rattle.std.proofs.lemmas.List.{map-append}
use Rattle.prof_lines.specs.declared.fault.Cause.{Cause}
use Rattle.code_event.specs.ItemList.{ListSoFar}
use Rattle.code_event.specs.declared.layout.Slot.{Slot}
use Rattle.code_event.specs.declared.layout.Unit.{Unit as CodeUnit}
use Rattle.code_event.specs.declared.event.CodeEvent.{CodeEvent}
use Rattle.code_event.specs.declared.tick.Item.{Item}
use Rattle.record_text.specs.declared.rule.Rule.{Rule}
use Rattle.item_text.specs.declared.item_line.LineEvent.{LineEvent}
use Rattle.item_text.specs.declared.item_line.TickLine.{TickLine}
use Rattle.item_text.specs.declared.item_line.ItemLine.{ItemLine}
use Rattle.item_text.specs.declared.item_line.ItemLine.TheVariants as line
use Rattle.item_text.specs.declared.item_line.TextLine.{TextLine}
use Rattle.item_text.specs.declared.item_line.TextLine.TheVariants.{Body}
use Rattle.item_text.specs.ItemRules.{BegunCode, Course, list_after_event, is_finish_event, with_unit, with_slot, item_after, course_of, is_none, is_in_place, is_earlier, item_time, breaks_order, item_fault}
use Rattle.item_text.specs.Items.{code_lines, event_lines, lines_of_items, with_head}
use Rattle.item_text.specs.ItemDraft.{Agree, Reflects, draft_lines}
use Rattle.item_text.proofs.Courses.{agree_itself, fault_same, draft_more}

abbrev draft_view : ℕ → List Item → Option BegunCode → List TextLine
draft_view base items begun = with_head base (draft_lines items begun)

-- what is kept says what the lines of its view say
abbrev IsKept : ℕ → List Item → Course → Type 0
IsKept base items state = Reflects state (course_of (draft_view base items state.begun))

-- what is kept after these lines and one more
abbrev IsNext : ℕ → List Item → Course → List TextLine → ItemLine → Type 0
IsNext base items state lines line = (draft_view base items state.begun ≡ lines ++ Body line ∷ []) × IsKept base items state

draft_next : (base : ℕ) (items more : List Item) (state before after : Course) (line : ItemLine) (lines : List TextLine) → before ≡ state → draft_view base items state.begun ≡ lines → IsKept base items state
    → Reflects after (item_after before line) → draft_lines more after.begun ≡ draft_lines items before.begun ++ line ∷ [] → IsNext base more after lines line
draft_next base items more state before after line lines is view kept next same =
    let kept_before : IsKept base items before = subst (λ (s : Course). IsKept base items s) (sym is) kept in
    let d = draft_more base items more before after line kept_before next same in
    let view_before : draft_view base items before.begun ≡ lines = ap (λ (s : Course). draft_view base items s.begun) is ∙ view in
    (d.0 ∙ ap (λ (z : List TextLine). z ++ Body line ∷ []) view_before, d.1)

order_kept : (order : Bool) (cause : Cause Rule) (others : Option (Cause Rule)) → cond order (Some cause) others ≡ None → order ≡ false
order_kept true cause others h = absurd cc
order_kept false cause others h = refl

pub in_place : (course : Course) (line : ItemLine) → item_fault course line ≡ None → is_in_place course.begun line ≡ true
in_place course line h =
    let kept = order_kept (breaks_order course line) _ _ h in
    let a = or_parts (course.finished || not (is_in_place course.begun line)) (is_earlier course.list.time (item_time line)) kept in
    not-false (is_in_place course.begun line) (or_parts course.finished (not (is_in_place course.begun line)) a.0).1

or_none : (b : Bool) → b ≡ (b || false)
or_none true = refl
or_none false = refl

none_from : {X : Type 0} (xs : List X) → is_none xs ≡ true → xs ≡ []
none_from [] h = refl
none_from (x ∷ xs) h = let e : length (x ∷ xs) ≡ 0 = eqb-true (length (x ∷ xs)) 0 h in absurd cc

-- the lines of code that was begun, with one more unit where there are no slots yet
code_with_unit : (code : BegunCode) (u : CodeUnit) → code.slots ≡ [] → code_lines (with_unit code u) ≡ code_lines code ++ line.Unit u ∷ []
code_with_unit code u empty =
    let units = map (λ x. line.Unit x) code.units in
    ap (λ (z : List ItemLine). line.Create code.start ∷ z)
    (ap (λ (s : List Slot). map (λ x. line.Unit x) (code.units ++ u ∷ []) ++ map (λ x. line.Slot x) s) empty
    ∙ append-nil (map (λ x. line.Unit x) (code.units ++ u ∷ []))
    ∙ map-append (λ x. line.Unit x) code.units (u ∷ [])
    ∙ ap (λ (z : List ItemLine). z ++ line.Unit u ∷ []) (sym (append-nil units))
    ∙ ap (λ (s : List Slot). (units ++ map (λ x. line.Slot x) s) ++ line.Unit u ∷ []) (sym empty))

code_with_slot : (code : BegunCode) (slot : Slot) → code_lines (with_slot code slot) ≡ code_lines code ++ line.Slot slot ∷ []
code_with_slot code slot =
    let units = map (λ x. line.Unit x) code.units in
    let slots = map (λ x. line.Slot x) code.slots in
    ap (λ (z : List ItemLine). line.Create code.start ∷ z)
    (ap (λ (z : List ItemLine). units ++ z) (map-append (λ x. line.Slot x) code.slots (slot ∷ [])) ∙ sym (append_assoc units slots (line.Slot slot ∷ [])))

-- the lines of items and of begun code with one more line
lines_more : (items : List Item) (code next : BegunCode) (line : ItemLine) → code_lines next ≡ code_lines code ++ line ∷ [] → draft_lines items (Some next) ≡ draft_lines items (Some code) ++ line ∷ []
lines_more items code next line is = ap (λ (z : List ItemLine). lines_of_items items ++ z) is ∙ sym (append_assoc (lines_of_items items) (code_lines code) (line ∷ []))

no_slots : (begun : Option BegunCode) (code : BegunCode) (u : CodeUnit) → begun ≡ Some code → is_in_place begun (line.Unit u) ≡ true → code.slots ≡ []
no_slots None code u is h = absurd cc
no_slots (Some other) code u is h = let same : other ≡ code = cc in subst (λ (z : BegunCode). z.slots ≡ []) same (none_from other.slots h)

pub unit_draft : (base : ℕ) (items : List Item) (state : Course) (list : ListSoFar) (finished : Bool) (begun : Option BegunCode) (code next : BegunCode) (u : CodeUnit) (lines : List TextLine)
    → record { list = list; finished = finished; begun = begun } ≡ state → draft_view base items state.begun ≡ lines → IsKept base items state → item_fault (course_of lines) (line.Unit u) ≡ None
    → begun ≡ Some code → next ≡ with_unit code u → IsNext base items (record { list = list; finished = finished; begun = Some next }) lines (line.Unit u)
unit_draft base items state list finished begun code next u lines is view kept fault some same =
    let before : Course = record { list = list; finished = finished; begun = begun } in
    let agrees : Reflects before (course_of lines) = subst (λ (z : List TextLine). Reflects before (course_of z)) view (subst (λ (s : Course). Reflects s (course_of (draft_view base items state.begun))) (sym is) kept) in
    let empty : code.slots ≡ [] = no_slots begun code u some (in_place before (line.Unit u) (fault_same before (course_of lines) (line.Unit u) agrees ∙ fault)) in
    draft_next base items items state before (record { list = list; finished = finished; begun = Some next }) (line.Unit u) lines is view kept
    (record { list = agree_itself list; finished = or_none finished; begun = rw (some, same) refl })
    (lines_more items code next (line.Unit u) (ap code_lines same ∙ code_with_unit code u empty) ∙ ap (λ (z : Option BegunCode). draft_lines items z ++ line.Unit u ∷ []) (sym some))

pub slot_draft : (base : ℕ) (items : List Item) (state : Course) (list : ListSoFar) (finished : Bool) (begun : Option BegunCode) (code next : BegunCode) (slot : Slot) (lines : List TextLine)
    → record { list = list; finished = finished; begun = begun } ≡ state → draft_view base items state.begun ≡ lines → IsKept base items state
    → begun ≡ Some code → next ≡ with_slot code slot → IsNext base items (record { list = list; finished = finished; begun = Some next }) lines (line.Slot slot)
slot_draft base items state list finished begun code next slot lines is view kept some same =
    draft_next base items items state (record { list = list; finished = finished; begun = begun }) (record { list = list; finished = finished; begun = Some next }) (line.Slot slot) lines is view kept
    (record { list = agree_itself list; finished = or_none finished; begun = rw (some, same) refl })
    (lines_more items code next (line.Slot slot) (ap code_lines same ∙ code_with_slot code slot) ∙ ap (λ (z : Option BegunCode). draft_lines items z ++ line.Slot slot ∷ []) (sym some))

pub create_draft : (base : ℕ) (items closed : List Item) (state : Course) (list : ListSoFar) (finished : Bool) (begun : Option BegunCode) (start : ℕ) (new : BegunCode) (lines : List TextLine)
    → record { list = list; finished = finished; begun = begun } ≡ state → draft_view base items state.begun ≡ lines → IsKept base items state → lines_of_items closed ≡ draft_lines items begun
    → new ≡ record { start = start; units = []; slots = [] } → IsNext base closed (record { list = list; finished = finished; begun = Some new }) lines (line.Create start)
create_draft base items closed state list finished begun start new lines is view kept all empty =
    draft_next base items closed state (record { list = list; finished = finished; begun = begun }) (record { list = list; finished = finished; begun = Some new }) (line.Create start) lines is view kept
    (record { list = agree_itself list; finished = or_none finished; begun = ap (λ (z : BegunCode). Some z) empty })
    (ap (λ (z : BegunCode). lines_of_items closed ++ code_lines z) empty ∙ ap (λ (z : List ItemLine). z ++ line.Create start ∷ []) all)

pub event_draft : (base : ℕ) (items closed more : List Item) (state : Course) (list next : ListSoFar) (finished over : Bool) (begun : Option BegunCode) (event : LineEvent) (raised : CodeEvent) (lines : List TextLine)
    → record { list = list; finished = finished; begun = begun } ≡ state → draft_view base items state.begun ≡ lines → IsKept base items state → lines_of_items closed ≡ draft_lines items begun
    → Agree next (list_after_event list event) → over ≡ (finished || is_finish_event event) → event_lines raised ≡ line.Event event ∷ [] → lines_of_items more ≡ lines_of_items closed ++ event_lines raised
    → IsNext base more (record { list = next; finished = over; begun = None }) lines (line.Event event)
event_draft base items closed more state list next finished over begun event raised lines is view kept all agree ends one added =
    draft_next base items more state (record { list = list; finished = finished; begun = begun }) (record { list = next; finished = over; begun = None }) (line.Event event) lines is view kept
    (record { list = agree; finished = ends; begun = refl })
    (append-nil (lines_of_items more) ∙ added ∙ ap (λ (z : List ItemLine). lines_of_items closed ++ z) one ∙ ap (λ (z : List ItemLine). z ++ line.Event event ∷ []) all)

pub tick_draft : (base : ℕ) (items closed more : List Item) (state : Course) (list next : ListSoFar) (finished : Bool) (begun : Option BegunCode) (tick : TickLine) (lines : List TextLine)
    → record { list = list; finished = finished; begun = begun } ≡ state → draft_view base items state.begun ≡ lines → IsKept base items state → lines_of_items closed ≡ draft_lines items begun
    → next ≡ record { time = tick.time; started = list.started; running = list.running } → lines_of_items more ≡ lines_of_items closed ++ line.Tick tick ∷ []
    → IsNext base more (record { list = next; finished = finished; begun = None }) lines (line.Tick tick)
tick_draft base items closed more state list next finished begun tick lines is view kept all later added =
    draft_next base items more state (record { list = list; finished = finished; begun = begun }) (record { list = next; finished = finished; begun = None }) (line.Tick tick) lines is view kept
    (record { list = subst (λ (z : ListSoFar). Agree next z) later (agree_itself next); finished = or_none finished; begun = refl })
    (append-nil (lines_of_items more) ∙ added ∙ ap (λ (z : List ItemLine). z ++ line.Tick tick ∷ []) all)
