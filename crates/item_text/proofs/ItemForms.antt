-- The forms of the lines of item lists: what is read is spelled so, and what is spelled so is read.
use Rattle.std.proofs.Common.{◌≡◌, ℕ, List, [], ◌∷◌, Bool, true, false, Option, Some, None, Result, Ok, Err, IfOk, refl, sym, ◌∙◌, subst, codes, decimal, inl, inr, lit<}
use Rattle.prof_base.specs.declared.interval.TheConstants.{MAX_INTERVAL}
use Rattle.prof_lines.specs.declared.fault.LineFault.{LineFault}
use Rattle.prof_lines.specs.Answers.{Front, Gives, ◌>>=◌}
use Rattle.prof_lines.specs.Words.{InRange, numbers_at}
use Rattle.prof_lines.specs.Spelled.{BeginsWith, HasWords, IsWord}
use Rattle.prof_lines.specs.Forms.{IsForm}
use Rattle.prof_lines.proofs.Steps.{ok_same, bind_ok, chosen}
use Rattle.prof_lines.proofs.PlainWords.{word_place, word_again, fixed_again}
use Rattle.prof_lines.proofs.Places.{place_step, fixed_step, end_step}
use Rattle.prof_lines.proofs.Ends.{end_again}
use Rattle.code_event.specs.declared.entry.Entry.{Entry}
use Rattle.code_event.specs.declared.layout.Site.{Site}
use Rattle.code_event.specs.declared.layout.Slot.{Slot}
use Rattle.code_event.specs.declared.layout.Unit.{Unit as CodeUnit}
use Rattle.code_event.specs.declared.tick.TheConstants.Frames.{MAX_LEN}
use Rattle.record_text.specs.declared.rule.Rule.{Rule}
use Rattle.item_text.specs.declared.item_line.LineEvent.{LineEvent}
use Rattle.item_text.specs.declared.item_line.LineEvent.TheVariants.{Move, NoOpt, Deopt, Delete, Start, Stop, Finish}
use Rattle.item_text.specs.declared.item_line.ItemLine.{ItemLine}
use Rattle.item_text.specs.declared.item_line.ItemLine.TheVariants as line
use Rattle.item_text.specs.declared.item_line.TickLine.{TickLine}
use Rattle.item_text.specs.declared.item_line.TextLine.{TextLine}
use Rattle.item_text.specs.declared.item_line.TextLine.TheVariants.{Head, Body}
use Rattle.item_text.specs.ItemLine.{MAX_ADDRESS, parent_words, entry_words, event_name, event_operands, item_name, item_operands, item_words, IsAddress, IsParent, IsEntry, IsUnit, IsSlot, IsEvent, IsTick, IsItemLine}
use Rattle.item_text.specs.ItemForms.{head_at, create_at, entry_at, no_parent_at, site_at, parent_at, unit_at, slot_at, tick_at, event_of, item_of, item_at}
use Rattle.item_text.specs.ItemRules.{course_of, is_first}
use Rattle.item_text.specs.Items.{Fits, line_after}
use Rattle.record_text.proofs.RecordWords.{interval_place, time_place}
use Rattle.item_text.proofs.ItemWords.{address_place, line_place, index_place, func_place, script_place, rounded_place, text_place, state_place, hit_place, only_place, frames_form}
use Rattle.item_text.proofs.EventForms.{event_takes, event_again, event_is_word}

dash : IsWord (codes "-")
dash = record { some = lit< tt; plain = refl }

head_takes : (bytes : List ℕ) (base : ℕ) → head_at bytes ≡ Ok base → InRange 1 MAX_INTERVAL base × HasWords (item_words (Head base)) bytes
unfolding head_at
head_takes bytes base h =
    let a = fixed_step (codes "items") bytes _ base h in
    let b = fixed_step (codes "1") a.0 _ base a.2 in
    let c = place_step _ _ _ interval_place b.0 _ base b.2 in
    let e = end_step c.0.1 _ base c.3 in
    subst (λ (z : ℕ). InRange 1 MAX_INTERVAL z × HasWords (item_words (Head z)) bytes) (ok_same _ _ e.1) (c.1, (a.0, a.1, (b.0, b.1, (c.0.1, c.2, e.0))))

head_again : (bytes : List ℕ) (base : ℕ) → InRange 1 MAX_INTERVAL base → HasWords (item_words (Head base)) bytes → head_at bytes ≡ Ok base
unfolding head_at
head_again bytes base fits s =
    rw (
      fixed_again {C = Rule} (codes "items") bytes s.0 (record { some = lit< tt; plain = refl }) s.1,
      fixed_again {C = Rule} (codes "1") s.0 s.2.0 (record { some = lit< tt; plain = refl }) s.2.1,
      interval_place.again s.2.0 s.2.2.0 base fits s.2.2.1,
      end_again {C = Rule} s.2.2.0 s.2.2.2,
    )
    refl

-- a line after the first in its ranges, with its name and the words after it
abbrev IsItemSpelled : Bool → ItemLine → List ℕ → List ℕ → Type 0
IsItemSpelled first line text bytes = IsItemLine first line × (item_name line ≡ text) × HasWords (item_operands line) bytes

create_takes : (first : Bool) (bytes : List ℕ) (value : ItemLine) → create_at bytes ≡ Ok value → IsItemSpelled first value (codes "create") bytes
unfolding create_at
create_takes first bytes value h =
    let a = place_step _ _ _ address_place bytes _ value h in
    let e = end_step a.0.1 _ value a.3 in
    subst (λ (v : ItemLine). IsItemSpelled first v (codes "create") bytes) (ok_same _ _ e.1) (a.1, refl, (a.0.1, a.2, e.0))

create_again : (bytes : List ℕ) (start : ℕ) → IsAddress start → HasWords (decimal start ∷ []) bytes → create_at bytes ≡ Ok (line.Create start)
unfolding create_at
create_again bytes start fits s = rw (address_place.again bytes s.0 start fits s.1, end_again {C = Rule} s.0 s.2) refl

-- an entry in its ranges, whose words come before those of the rest
abbrev IsEntrySpelled : List ℕ → Front Entry → Type 0
IsEntrySpelled bytes x = IsEntry x.0 × ((words : List (List ℕ)) → HasWords words x.1 → HasWords (entry_words x.0 words) bytes)

entry_takes : (bytes : List ℕ) (x : Front Entry) → entry_at bytes ≡ Ok x → IsEntrySpelled bytes x
unfolding entry_at
entry_takes bytes x h =
    let a = place_step _ _ _ text_place bytes _ x h in
    let b = place_step _ _ _ text_place a.0.1 _ x a.3 in
    let c = place_step _ _ _ script_place b.0.1 _ x b.3 in
    let d = place_step _ _ _ line_place c.0.1 _ x c.3 in
    let e = place_step _ _ _ line_place d.0.1 _ x d.3 in
    subst (IsEntrySpelled bytes) (ok_same _ _ e.3)
    ((a.1, b.1, c.1, d.1, e.1), λ words s. (a.0.1, a.2, (b.0.1, b.2, (c.0.1, c.2, (d.0.1, d.2, (e.0.1, e.2, s))))))

entry_again : (bytes : List ℕ) (entry : Entry) (words : List (List ℕ)) → IsEntry entry → HasWords (entry_words entry words) bytes
    → (rest : List ℕ) × (entry_at bytes ≡ Ok (entry, rest)) × HasWords words rest
unfolding entry_at
entry_again bytes entry words fits s = (
  s.2.2.2.2.0,
  rw (
    text_place.again bytes s.0 entry.name fits.0 s.1,
    text_place.again s.0 s.2.0 entry.url fits.1 s.2.1,
    script_place.again s.2.0 s.2.2.0 entry.script fits.2 s.2.2.1,
    line_place.again s.2.2.0 s.2.2.2.0 entry.line fits.3 s.2.2.2.1,
    line_place.again s.2.2.2.0 s.2.2.2.2.0 entry.column fits.4 s.2.2.2.2.1,
  )
      refl,
  s.2.2.2.2.2,
)

abbrev IsParentSpelled : Bool → List ℕ → Option Site → Type 0
IsParentSpelled first bytes parent = IsParent first parent × HasWords (parent_words parent) bytes

no_parent_takes : (bytes : List ℕ) (value : Option Site) → no_parent_at bytes ≡ Ok value → IsParentSpelled true bytes value
unfolding no_parent_at
no_parent_takes bytes value h =
    let a = fixed_step (codes "-") bytes _ value h in
    let b = fixed_step (codes "-") a.0 _ value a.2 in
    let c = fixed_step (codes "-") b.0 _ value b.2 in
    let e = end_step c.0 _ value c.2 in
    subst (IsParentSpelled true bytes) (ok_same _ _ e.1) (tt, (a.0, a.1, (b.0, b.1, (c.0, c.1, e.0))))

site_takes : (bytes : List ℕ) (value : Option Site) → site_at bytes ≡ Ok value → IsParentSpelled false bytes value
unfolding site_at
site_takes bytes value h =
    let a = place_step _ _ _ index_place bytes _ value h in
    let b = place_step _ _ _ index_place a.0.1 _ value a.3 in
    let c = place_step _ _ _ line_place b.0.1 _ value b.3 in
    let e = end_step c.0.1 _ value c.3 in
    subst (IsParentSpelled false bytes) (ok_same _ _ e.1) ((a.1, b.1, c.1), (a.0.1, a.2, (b.0.1, b.2, (c.0.1, c.2, e.0))))

parent_takes : (first : Bool) (bytes : List ℕ) (value : Option Site) → parent_at first bytes ≡ Ok value → IsParentSpelled first bytes value
parent_takes true bytes value h = no_parent_takes bytes value h
parent_takes false bytes value h = site_takes bytes value h

no_parent_again : (bytes : List ℕ) → HasWords (parent_words None) bytes → no_parent_at bytes ≡ Ok None
unfolding no_parent_at
no_parent_again bytes s =
    rw (
      fixed_again {C = Rule} (codes "-") bytes s.0 dash s.1,
      fixed_again {C = Rule} (codes "-") s.0 s.2.0 dash s.2.1,
      fixed_again {C = Rule} (codes "-") s.2.0 s.2.2.0 dash s.2.2.1,
      end_again {C = Rule} s.2.2.0 s.2.2.2,
    )
    refl

site_again : (bytes : List ℕ) (site : Site) → IsParent false (Some site) → HasWords (parent_words (Some site)) bytes → site_at bytes ≡ Ok (Some site)
unfolding site_at
site_again bytes site fits s =
    rw (
      index_place.again bytes s.0 site.unit fits.0 s.1,
      index_place.again s.0 s.2.0 site.index fits.1 s.2.1,
      line_place.again s.2.0 s.2.2.0 site.line fits.2 s.2.2.1,
      end_again {C = Rule} s.2.2.0 s.2.2.2,
    )
    refl

parent_again : (first : Bool) (bytes : List ℕ) (value : Option Site) → IsParent first value → HasWords (parent_words value) bytes → parent_at first bytes ≡ Ok value
parent_again true bytes None fits s = no_parent_again bytes s
parent_again true bytes (Some site) fits s = absurd fits
parent_again false bytes None fits s = absurd fits
parent_again false bytes (Some site) fits s = site_again bytes site fits s

unit_takes : (first : Bool) (bytes : List ℕ) (value : ItemLine) → unit_at first bytes ≡ Ok value → IsItemSpelled first value (codes "unit") bytes
unfolding unit_at
unit_takes first bytes value h =
    let a = place_step _ _ _ func_place bytes _ value h in
    let b = bind_ok (entry_at a.0.1) _ value a.3 in
    let c = bind_ok (parent_at first b.0.1) _ value b.2 in
    let entry = entry_takes a.0.1 b.0 b.1 in
    let parent = parent_takes first b.0.1 c.0 c.1 in
    subst (λ (v : ItemLine). IsItemSpelled first v (codes "unit") bytes) (ok_same _ _ c.2)
    ((a.1, entry.0, parent.0), refl, (a.0.1, a.2, entry.1 (parent_words c.0) parent.1))

unit_again : (first : Bool) (bytes : List ℕ) (u : CodeUnit) → IsUnit first u → HasWords (item_operands (line.Unit u)) bytes → unit_at first bytes ≡ Ok (line.Unit u)
unfolding unit_at
unit_again first bytes u fits s =
    let entry = entry_again s.0 u.entry (parent_words u.parent) fits.1 s.2 in
    rw (func_place.again bytes s.0 u.func.0 fits.0 s.1, entry.1, parent_again first entry.0 u.parent fits.2 entry.2) refl

slot_takes : (first : Bool) (bytes : List ℕ) (value : ItemLine) → slot_at bytes ≡ Ok value → IsItemSpelled first value (codes "slot") bytes
unfolding slot_at
slot_takes first bytes value h =
    let a = place_step _ _ _ index_place bytes _ value h in
    let b = place_step _ _ _ index_place a.0.1 _ value a.3 in
    let c = place_step _ _ _ line_place b.0.1 _ value b.3 in
    let e = end_step c.0.1 _ value c.3 in
    subst (λ (v : ItemLine). IsItemSpelled first v (codes "slot") bytes) (ok_same _ _ e.1) ((a.1, b.1, c.1), refl, (a.0.1, a.2, (b.0.1, b.2, (c.0.1, c.2, e.0))))

slot_again : (bytes : List ℕ) (slot : Slot) → IsSlot slot → HasWords (item_operands (line.Slot slot)) bytes → slot_at bytes ≡ Ok (line.Slot slot)
unfolding slot_at
slot_again bytes slot fits s =
    rw (
      index_place.again bytes s.0 slot.unit fits.0 s.1,
      index_place.again s.0 s.2.0 slot.index fits.1 s.2.1,
      line_place.again s.2.0 s.2.2.0 slot.line fits.2 s.2.2.1,
      end_again {C = Rule} s.2.2.0 s.2.2.2,
    )
    refl

tick_takes : (first : Bool) (bytes : List ℕ) (value : ItemLine) → tick_at bytes ≡ Ok value → IsItemSpelled first value (codes "tick") bytes
unfolding tick_at
tick_takes first bytes value h =
    let a = place_step _ _ _ time_place bytes _ value h in
    let b = place_step _ _ _ rounded_place a.0.1 _ value a.3 in
    let c = place_step _ _ _ state_place b.0.1 _ value b.3 in
    let d = place_step _ _ _ hit_place c.0.1 _ value c.3 in
    let o = place_step _ _ _ only_place d.0.1 _ value d.3 in
    let f = bind_ok (numbers_at 0 MAX_ADDRESS MAX_LEN o.0.1) _ value o.3 in
    let t = frames_form.takes o.0.1 f.0 f.1 in
    subst (λ (v : ItemLine). IsItemSpelled first v (codes "tick") bytes) (ok_same _ _ f.2)
    ((a.1, b.1, o.1, t.0), refl, (a.0.1, a.2, (b.0.1, b.2, (c.0.1, c.2, (d.0.1, d.2, (o.0.1, o.2, t.1))))))

tick_again : (bytes : List ℕ) (tick : TickLine) → IsTick tick → HasWords (item_operands (line.Tick tick)) bytes → tick_at bytes ≡ Ok (line.Tick tick)
unfolding tick_at
tick_again bytes tick fits s =
    rw (
      time_place.again bytes s.0 tick.time fits.0 s.1,
      rounded_place.again s.0 s.2.0 tick.interval fits.1 s.2.1,
      state_place.again s.2.0 s.2.2.0 tick.state tt s.2.2.1,
      hit_place.again s.2.2.0 s.2.2.2.0 tick.hit tt s.2.2.2.1,
      only_place.again s.2.2.2.0 s.2.2.2.2.0 tick.only fits.2 s.2.2.2.2.1,
      frames_form.again s.2.2.2.2.0 tick.frames fits.3 s.2.2.2.2.2,
    )
    refl

named_takes : (first : Bool) (text bytes : List ℕ) (value : ItemLine) → item_of first text bytes ≡ Ok value → IsItemSpelled first value text bytes
named_takes first text bytes value h = elim (chosen text (codes "tick") (tick_at bytes) _ value h) [
  | inl p ↦ subst (λ (z : List ℕ). IsItemSpelled first value z bytes) p.0 (tick_takes first bytes value p.1)
  | inr h2 ↦ elim (chosen text (codes "create") (create_at bytes) _ value h2) [
    | inl p ↦ subst (λ (z : List ℕ). IsItemSpelled first value z bytes) p.0 (create_takes first bytes value p.1)
    | inr h3 ↦ elim (chosen text (codes "unit") (unit_at first bytes) _ value h3) [
      | inl p ↦ subst (λ (z : List ℕ). IsItemSpelled first value z bytes) p.0 (unit_takes first bytes value p.1)
      | inr h4 ↦ elim (chosen text (codes "slot") (slot_at bytes) _ value h4) [
        | inl p ↦ subst (λ (z : List ℕ). IsItemSpelled first value z bytes) p.0 (slot_takes first bytes value p.1)
        | inr h5 ↦
            let a = bind_ok (event_of text bytes) _ value h5 in
            let t = event_takes text bytes a.0 a.1 in
            subst (λ (v : ItemLine). IsItemSpelled first v text bytes) (ok_same _ _ a.2) t
      ]
    ]
  ]
]

-- an event's name is none of the other names
event_is_other : (first : Bool) (bytes : List ℕ) (event : LineEvent) → item_of first (event_name event) bytes ≡ (event_of (event_name event) bytes >>= λ x. Ok (line.Event x))
event_is_other first bytes (Move from to) = refl
event_is_other first bytes (NoOpt start reason) = refl
event_is_other first bytes (Deopt start reason) = refl
event_is_other first bytes (Delete start) = refl
event_is_other first bytes (Start session port interval mode max time) = refl
event_is_other first bytes (Stop session time) = refl
event_is_other first bytes (Finish time files) = refl

named_event : (first : Bool) (bytes : List ℕ) (event : LineEvent) → IsEvent event → HasWords (event_operands event) bytes → item_of first (event_name event) bytes ≡ Ok (line.Event event)
named_event first bytes event fits s = event_is_other first bytes event ∙ rw (event_again bytes event fits s) refl

named_again : (first : Bool) (bytes : List ℕ) (value : ItemLine) → IsItemLine first value → HasWords (item_operands value) bytes → item_of first (item_name value) bytes ≡ Ok value
named_again first bytes (line.Create start) fits s = create_again bytes start fits s
named_again first bytes (line.Unit u) fits s = unit_again first bytes u fits s
named_again first bytes (line.Slot slot) fits s = slot_again bytes slot fits s
named_again first bytes (line.Event event) fits s = named_event first bytes event fits s
named_again first bytes (line.Tick tick) fits s = tick_again bytes tick fits s

pub item_is_word : (value : ItemLine) → IsWord (item_name value)
item_is_word (line.Create start) = record { some = lit< tt; plain = refl }
item_is_word (line.Unit u) = record { some = lit< tt; plain = refl }
item_is_word (line.Slot slot) = record { some = lit< tt; plain = refl }
item_is_word (line.Event event) = event_is_word event
item_is_word (line.Tick tick) = record { some = lit< tt; plain = refl }

item_takes : (first : Bool) (bytes : List ℕ) (value : ItemLine) → item_at first bytes ≡ Ok value → IsItemLine first value × HasWords (item_words (Body value)) bytes
unfolding item_at
item_takes first bytes value h =
    let a = place_step _ _ _ (word_place {C = Rule}) bytes _ value h in
    let t = named_takes first a.0.0 a.0.1 value a.3 in
    let begins : BeginsWith (item_name value) a.0.1 bytes = subst (λ (z : List ℕ). BeginsWith z a.0.1 bytes) (sym t.1) a.2 in
    (t.0, (a.0.1, begins, t.2))

-- a line that was read is in its ranges
pub item_fits : (first : Bool) (text bytes : List ℕ) (result : Result ItemLine (LineFault Rule)) → Gives (λ line. line) result (item_of first text bytes) → IfOk result (λ line. IsItemLine first line)
item_fits first text bytes (Ok line) h = (named_takes first text bytes line h).0
item_fits first text bytes (Err fault) h = tt

item_again : (first : Bool) (bytes : List ℕ) (value : ItemLine) → IsItemLine first value → HasWords (item_words (Body value)) bytes → item_at first bytes ≡ Ok value
unfolding item_at
item_again first bytes value fits s = rw (word_again {C = Rule} (item_name value) s.0 bytes (item_is_word value) s.1, named_again first s.0 value fits s.2) refl

abbrev IsTextLineSpelled : List TextLine → List ℕ → TextLine → Type 0
IsTextLineSpelled before bytes line = Fits before line × HasWords (item_words line) bytes

line_takes : (before : List TextLine) (bytes : List ℕ) (value : TextLine) → line_after before bytes ≡ Ok value → IsTextLineSpelled before bytes value
line_takes [] bytes value h =
    let a = bind_ok (head_at bytes) _ value h in
    subst (IsTextLineSpelled [] bytes) (ok_same _ _ a.2) (head_takes bytes a.0 a.1)
line_takes (first ∷ lines) bytes value h =
    let is = is_first (course_of (first ∷ lines)).begun in
    let a = bind_ok (item_at is bytes) _ value h in
    subst (IsTextLineSpelled (first ∷ lines) bytes) (ok_same _ _ a.2) (item_takes is bytes a.0 a.1)

line_again : (before : List TextLine) (bytes : List ℕ) (value : TextLine) → Fits before value → HasWords (item_words value) bytes → line_after before bytes ≡ Ok value
line_again [] bytes (Head base) fits s = rw (head_again bytes base fits s) refl
line_again [] bytes (Body value) fits s = absurd fits
line_again (first ∷ lines) bytes (Head base) fits s = absurd fits
line_again (first ∷ lines) bytes (Body value) fits s = rw (item_again (is_first (course_of (first ∷ lines)).begun) bytes value fits s) refl

-- each line of a text has its form after those before it
pub line_form : (before : List TextLine) → IsForm (line_after before) (Fits before) item_words
line_form before = record { takes = λ bytes value h. line_takes before bytes value h; again = λ bytes value fits s. line_again before bytes value fits s }
