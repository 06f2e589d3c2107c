-- The forms of the lines of schedules: what is read is spelled so, and what is spelled so is read.
use Rattle.std.proofs.Common.{◌≡◌, ◌∙◌, ℕ, ◌≤◌, ◌<◌, List, [], ◌∷◌, Ok, refl, sym, subst, arith, codes, inl, inr, ◌⊎◌, lit<}
use Rattle.std.proofs.Math.Bridge.{le_prop}
use Rattle.std.proofs.lemmas.Bool.{cases_lt}
use Rattle.prof_base.specs.declared.interval.TheConstants.{MAX_INTERVAL}
use Rattle.prof_base.specs.declared.ids.SessionId.{SessionId}
use Rattle.prof_lines.specs.Words.{of_word}
use Rattle.prof_lines.specs.Spelled.{BeginsWith, HasWords, IsWord}
use Rattle.prof_lines.specs.Forms.{IsPlace, IsForm}
use Rattle.prof_lines.proofs.Steps.{ok_same, bind_ok, chosen}
use Rattle.prof_lines.proofs.PlainWords.{word_place, word_again, fixed_again}
use Rattle.prof_lines.proofs.Places.{naming_place, place_step, fixed_step, end_step}
use Rattle.prof_lines.proofs.Ends.{end_again}
use Rattle.prof_lines.proofs.Numbers.{number_place}
use Rattle.code_event.specs.declared.event.Options.{Options}
use Rattle.run_schedule.specs.declared.limits.TheConstants.{MAX_RING, MAX_BUDGET, MIN_ENTRIES, MAX_ENTRIES}
use Rattle.run_schedule.specs.declared.schedule.EndCause.{EndCause}
use Rattle.run_schedule.specs.declared.schedule.EndCause.TheVariants as cause
use Rattle.run_schedule.specs.declared.schedule.What.{What}
use Rattle.run_schedule.specs.declared.schedule.What.TheVariants.{Sampled, Dropped, Start, Stop, End}
use Rattle.run_schedule.specs.declared.schedule.ScheduleEntry.{ScheduleEntry}
use Rattle.record_text.specs.declared.rule.Rule.{Rule}
use Rattle.record_text.specs.declared.schedule_line.ScheduleHead.{ScheduleHead}
use Rattle.record_text.specs.declared.schedule_line.ScheduleLine.{ScheduleLine}
use Rattle.record_text.specs.declared.schedule_line.ScheduleLine.TheVariants.{Head, Entry}
use Rattle.record_text.specs.ScheduleLine.{cause_word, what_name, what_operands, head_words, entry_words, schedule_words, IsHead, IsWhat, IsEntry}
use Rattle.record_text.specs.ScheduleForms.{cause_of, head_at, start_by, start_of, start_at, stop_at, ending_at, alone_at, what_of, entry_at}
use Rattle.record_text.specs.ScheduleTexts.{Fits, line_after}
use Rattle.record_text.proofs.RecordWords.{IsAny, IsNamed, IsNumberPlace, session_place, port_place, interval_place, time_place, mode_place, max_place}

cause_takes : (text : List ℕ) (value : EndCause) → cause_of text ≡ Ok value → IsNamed cause_word value text
cause_takes text value h = elim (chosen text (codes "halt") (Ok cause.Halt) _ value h) [
  | inl p ↦ subst (λ (m : EndCause). IsNamed cause_word m text) (ok_same _ _ p.1) (tt, p.0)
  | inr h2 ↦ elim (chosen text (codes "overflow") (Ok cause.Overflow) _ value h2) [
    | inl p ↦ subst (λ (m : EndCause). IsNamed cause_word m text) (ok_same _ _ p.1) (tt, p.0)
    | inr h3 ↦ elim (chosen text (codes "offend") (Ok cause.OffEnd) _ value h3) [
      | inl p ↦ subst (λ (m : EndCause). IsNamed cause_word m text) (ok_same _ _ p.1) (tt, p.0)
      | inr h4 ↦ elim (chosen text (codes "budget") (Ok cause.Budget) _ value h4) [
        | inl p ↦ subst (λ (m : EndCause). IsNamed cause_word m text) (ok_same _ _ p.1) (tt, p.0)
        | inr h5 ↦ elim (chosen text (codes "full") (Ok cause.Full) _ value h5) [
          | inl p ↦ subst (λ (m : EndCause). IsNamed cause_word m text) (ok_same _ _ p.1) (tt, p.0)
          | inr h6 ↦ elim (chosen text (codes "memory") (Ok cause.Memory) _ value h6) [
            | inl p ↦ subst (λ (m : EndCause). IsNamed cause_word m text) (ok_same _ _ p.1) (tt, p.0)
            | inr h7 ↦ absurd cc
          ]
        ]
      ]
    ]
  ]
]

cause_again : (value : EndCause) → cause_of (cause_word value) ≡ Ok value
cause_again cause.Halt = refl
cause_again cause.Overflow = refl
cause_again cause.OffEnd = refl
cause_again cause.Budget = refl
cause_again cause.Full = refl
cause_again cause.Memory = refl

pub cause_is_word : (value : EndCause) → IsWord (cause_word value)
cause_is_word cause.Halt = record { some = lit< tt; plain = refl }
cause_is_word cause.Overflow = record { some = lit< tt; plain = refl }
cause_is_word cause.OffEnd = record { some = lit< tt; plain = refl }
cause_is_word cause.Budget = record { some = lit< tt; plain = refl }
cause_is_word cause.Full = record { some = lit< tt; plain = refl }
cause_is_word cause.Memory = record { some = lit< tt; plain = refl }

cause_place : IsPlace (of_word cause_of) IsAny cause_word
cause_place = naming_place cause_of IsAny cause_word (record {
  takes = λ text value h. cause_takes text value h;
  again = λ value fits. cause_again value;
  plain = λ value fits. cause_is_word value;
})

ring_place : IsNumberPlace 1 MAX_RING
ring_place = number_place 1 MAX_RING (lit< tt)

budget_place : IsNumberPlace 1 MAX_BUDGET
budget_place = number_place 1 MAX_BUDGET (lit< tt)

limit_place : IsNumberPlace MIN_ENTRIES MAX_ENTRIES
limit_place = number_place MIN_ENTRIES MAX_ENTRIES (lit< tt)

step_place : IsNumberPlace 0 MAX_BUDGET
step_place = number_place 0 MAX_BUDGET (lit< tt)

abbrev IsHeadSpelled : List ℕ → ScheduleHead → Type 0
IsHeadSpelled bytes head = IsHead head × HasWords (head_words head) bytes

head_takes : (bytes : List ℕ) (head : ScheduleHead) → head_at bytes ≡ Ok head → IsHeadSpelled bytes head
unfolding head_at
head_takes bytes head h =
    let a = fixed_step (codes "schedule") bytes _ head h in
    let b = fixed_step (codes "1") a.0 _ head a.2 in
    let c = place_step _ _ _ interval_place b.0 _ head b.2 in
    let d = place_step _ _ _ ring_place c.0.1 _ head c.3 in
    let m = place_step _ _ _ budget_place d.0.1 _ head d.3 in
    let n = place_step _ _ _ limit_place m.0.1 _ head m.3 in
    let e = end_step n.0.1 _ head n.3 in
    subst (IsHeadSpelled bytes) (ok_same _ _ e.1)
    (record { base = c.1; ring = d.1; budget = m.1; limit = n.1 }, (a.0, a.1, (b.0, b.1, (c.0.1, c.2, (d.0.1, d.2, (m.0.1, m.2, (n.0.1, n.2, e.0)))))))

head_again : (bytes : List ℕ) (head : ScheduleHead) → IsHead head → HasWords (head_words head) bytes → head_at bytes ≡ Ok head
unfolding head_at
head_again bytes head fits s =
    rw (
      fixed_again {C = Rule} (codes "schedule") bytes s.0 (record { some = lit< tt; plain = refl }) s.1,
      fixed_again {C = Rule} (codes "1") s.0 s.2.0 (record { some = lit< tt; plain = refl }) s.2.1,
      interval_place.again s.2.0 s.2.2.0 head.base fits.base s.2.2.1,
      ring_place.again s.2.2.0 s.2.2.2.0 head.ring fits.ring s.2.2.2.1,
      budget_place.again s.2.2.2.0 s.2.2.2.2.0 head.budget fits.budget s.2.2.2.2.1,
      limit_place.again s.2.2.2.2.0 s.2.2.2.2.2.0 head.limit fits.limit s.2.2.2.2.2.1,
      end_again {C = Rule} s.2.2.2.2.2.0 s.2.2.2.2.2.2,
    )
    refl

-- a first line that was read is in its ranges
pub head_fits : (bytes : List ℕ) (head : ScheduleHead) → head_at bytes ≡ Ok head → IsHead head
head_fits bytes head h = (head_takes bytes head h).0

start_is_by : (options : Options) (low : (options.interval < 1) ⊎ (1 ≤ options.interval)) (high : (MAX_INTERVAL < options.interval) ⊎ (options.interval ≤ MAX_INTERVAL))
    → start_by options.port options.interval options.mode options.max_samples low high ≡ Ok (Start options)
start_is_by options (inr low) (inr high) =
    λ i. Ok (Start (record { port = options.port; interval = options.interval; mode = options.mode; max_samples = options.max_samples; low = le_prop low options.low i; high = le_prop high options.high i }))
start_is_by options (inr low) (inl over) = absurd (omega (arith, over, options.high))
start_is_by options (inl under) high = absurd (omega (arith, under, options.low))

-- options are a start's with their interval
pub start_is : (options : Options) → start_of options.port options.interval options.mode options.max_samples ≡ Ok (Start options)
start_is options = start_is_by options (cases_lt options.interval 1) (cases_lt MAX_INTERVAL options.interval)

-- what happened, in its ranges, with its name and the words after it
abbrev IsWhatSpelled : What → List ℕ → List ℕ → Type 0
IsWhatSpelled what text bytes = IsWhat what × (what_name what ≡ text) × HasWords (what_operands what) bytes

start_takes : (bytes : List ℕ) (value : What) → start_at bytes ≡ Ok value → IsWhatSpelled value (codes "start") bytes
unfolding start_at
start_takes bytes value h =
    let a = place_step _ _ _ port_place bytes _ value h in
    let b = place_step _ _ _ interval_place a.0.1 _ value a.3 in
    let c = place_step _ _ _ mode_place b.0.1 _ value b.3 in
    let m = place_step _ _ _ max_place c.0.1 _ value c.3 in
    let e = end_step m.0.1 _ value m.3 in
    let options : Options = record { port = a.0.0; interval = b.0.0; mode = c.0.0; max_samples = m.0.0; low = b.1.0; high = b.1.1 } in
    subst (λ (v : What). IsWhatSpelled v (codes "start") bytes) (ok_same _ _ (sym (start_is options) ∙ e.1))
    ((a.1, m.1), refl, (a.0.1, a.2, (b.0.1, b.2, (c.0.1, c.2, (m.0.1, m.2, e.0)))))

start_again : (bytes : List ℕ) (options : Options) → IsWhat (Start options) → HasWords (what_operands (Start options)) bytes → start_at bytes ≡ Ok (Start options)
unfolding start_at
start_again bytes options fits s =
    rw (
      port_place.again bytes s.0 options.port fits.0 s.1,
      interval_place.again s.0 s.2.0 options.interval (options.low, options.high) s.2.1,
      mode_place.again s.2.0 s.2.2.0 options.mode tt s.2.2.1,
      max_place.again s.2.2.0 s.2.2.2.0 options.max_samples fits.1 s.2.2.2.1,
      end_again {C = Rule} s.2.2.2.0 s.2.2.2.2,
    )
    (start_is options)

stop_takes : (bytes : List ℕ) (value : What) → stop_at bytes ≡ Ok value → IsWhatSpelled value (codes "stop") bytes
unfolding stop_at
stop_takes bytes value h =
    let a = place_step _ _ _ port_place bytes _ value h in
    let b = place_step _ _ _ session_place a.0.1 _ value a.3 in
    let e = end_step b.0.1 _ value b.3 in
    subst (λ (v : What). IsWhatSpelled v (codes "stop") bytes) (ok_same _ _ e.1) ((a.1, b.1), refl, (a.0.1, a.2, (b.0.1, b.2, e.0)))

stop_again : (bytes : List ℕ) (port : ℕ) (session : SessionId) → IsWhat (Stop port session) → HasWords (what_operands (Stop port session)) bytes → stop_at bytes ≡ Ok (Stop port session)
unfolding stop_at
stop_again bytes port session fits s =
    rw (port_place.again bytes s.0 port fits.0 s.1, session_place.again s.0 s.2.0 session.0 fits.1 s.2.1, end_again {C = Rule} s.2.0 s.2.2) refl

ending_takes : (bytes : List ℕ) (value : What) → ending_at bytes ≡ Ok value → IsWhatSpelled value (codes "end") bytes
unfolding ending_at
ending_takes bytes value h =
    let a = place_step _ _ _ cause_place bytes _ value h in
    let e = end_step a.0.1 _ value a.3 in
    subst (λ (v : What). IsWhatSpelled v (codes "end") bytes) (ok_same _ _ e.1) (tt, refl, (a.0.1, a.2, e.0))

ending_again : (bytes : List ℕ) (why : EndCause) → HasWords (what_operands (End why)) bytes → ending_at bytes ≡ Ok (End why)
unfolding ending_at
ending_again bytes why s = rw (cause_place.again bytes s.0 why tt s.1, end_again {C = Rule} s.0 s.2) refl

alone_takes : (what : What) (text bytes : List ℕ) (value : What) → IsWhat what → what_name what ≡ text → what_operands what ≡ [] → alone_at what bytes ≡ Ok value → IsWhatSpelled value text bytes
alone_takes what text bytes value fits name none h =
    let e = end_step bytes _ value h in
    subst (λ (v : What). IsWhatSpelled v text bytes) (ok_same _ _ e.1) (fits, name, subst (λ (words : List (List ℕ)). HasWords words bytes) (sym none) e.0)

named_takes : (text bytes : List ℕ) (value : What) → what_of text bytes ≡ Ok value → IsWhatSpelled value text bytes
named_takes text bytes value h = elim (chosen text (codes "sampled") (alone_at Sampled bytes) _ value h) [
  | inl p ↦ alone_takes Sampled text bytes value tt p.0 refl p.1
  | inr h2 ↦ elim (chosen text (codes "dropped") (alone_at Dropped bytes) _ value h2) [
    | inl p ↦ alone_takes Dropped text bytes value tt p.0 refl p.1
    | inr h3 ↦ elim (chosen text (codes "start") (start_at bytes) _ value h3) [
      | inl p ↦ subst (λ (z : List ℕ). IsWhatSpelled value z bytes) p.0 (start_takes bytes value p.1)
      | inr h4 ↦ elim (chosen text (codes "stop") (stop_at bytes) _ value h4) [
        | inl p ↦ subst (λ (z : List ℕ). IsWhatSpelled value z bytes) p.0 (stop_takes bytes value p.1)
        | inr h5 ↦ elim (chosen text (codes "end") (ending_at bytes) _ value h5) [
          | inl p ↦ subst (λ (z : List ℕ). IsWhatSpelled value z bytes) p.0 (ending_takes bytes value p.1)
          | inr h6 ↦ absurd cc
        ]
      ]
    ]
  ]
]

named_again : (bytes : List ℕ) (value : What) → IsWhat value → HasWords (what_operands value) bytes → what_of (what_name value) bytes ≡ Ok value
named_again bytes Sampled fits s = rw (end_again {C = Rule} bytes s) refl
named_again bytes Dropped fits s = rw (end_again {C = Rule} bytes s) refl
named_again bytes (Start options) fits s = start_again bytes options fits s
named_again bytes (Stop port session) fits s = stop_again bytes port session fits s
named_again bytes (End why) fits s = ending_again bytes why s

pub what_is_word : (value : What) → IsWord (what_name value)
what_is_word Sampled = record { some = lit< tt; plain = refl }
what_is_word Dropped = record { some = lit< tt; plain = refl }
what_is_word (Start options) = record { some = lit< tt; plain = refl }
what_is_word (Stop port session) = record { some = lit< tt; plain = refl }
what_is_word (End why) = record { some = lit< tt; plain = refl }

abbrev IsEntrySpelled : List ℕ → ScheduleEntry → Type 0
IsEntrySpelled bytes entry = IsEntry entry × HasWords (entry_words entry) bytes

entry_takes : (bytes : List ℕ) (value : ScheduleEntry) → entry_at bytes ≡ Ok value → IsEntrySpelled bytes value
unfolding entry_at
entry_takes bytes value h =
    let a = place_step _ _ _ step_place bytes _ value h in
    let b = place_step _ _ _ time_place a.0.1 _ value a.3 in
    let c = place_step _ _ _ (word_place {C = Rule}) b.0.1 _ value b.3 in
    let w = bind_ok (what_of c.0.0 c.0.1) _ value c.3 in
    let t = named_takes c.0.0 c.0.1 w.0 w.1 in
    let begins : BeginsWith (what_name w.0) c.0.1 b.0.1 = subst (λ (z : List ℕ). BeginsWith z c.0.1 b.0.1) (sym t.1) c.2 in
    subst (IsEntrySpelled bytes) (ok_same _ _ w.2) (record { step = a.1; time = b.1; what = t.0 }, (a.0.1, a.2, (b.0.1, b.2, (c.0.1, begins, t.2))))

entry_again : (bytes : List ℕ) (entry : ScheduleEntry) → IsEntry entry → HasWords (entry_words entry) bytes → entry_at bytes ≡ Ok entry
unfolding entry_at
entry_again bytes entry fits s =
    rw (
      step_place.again bytes s.0 entry.step fits.step s.1,
      time_place.again s.0 s.2.0 entry.time fits.time s.2.1,
      word_again {C = Rule} (what_name entry.what) s.2.2.0 s.2.0 (what_is_word entry.what) s.2.2.1,
      named_again s.2.2.0 entry.what fits.what s.2.2.2,
    )
    refl

-- an entry that was read is in its ranges
pub entry_fits : (bytes : List ℕ) (entry : ScheduleEntry) → entry_at bytes ≡ Ok entry → IsEntry entry
entry_fits bytes entry h = (entry_takes bytes entry h).0

abbrev IsLineSpelled : List ScheduleLine → List ℕ → ScheduleLine → Type 0
IsLineSpelled before bytes line = Fits before line × HasWords (schedule_words line) bytes

line_takes : (before : List ScheduleLine) (bytes : List ℕ) (value : ScheduleLine) → line_after before bytes ≡ Ok value → IsLineSpelled before bytes value
line_takes [] bytes value h = let a = bind_ok (head_at bytes) _ value h in subst (IsLineSpelled [] bytes) (ok_same _ _ a.2) (head_takes bytes a.0 a.1)
line_takes (first ∷ lines) bytes value h =
    let a = bind_ok (entry_at bytes) _ value h in
    subst (IsLineSpelled (first ∷ lines) bytes) (ok_same _ _ a.2) (entry_takes bytes a.0 a.1)

line_again : (before : List ScheduleLine) (bytes : List ℕ) (value : ScheduleLine) → Fits before value → HasWords (schedule_words value) bytes → line_after before bytes ≡ Ok value
line_again [] bytes (Head head) fits s = rw (head_again bytes head fits s) refl
line_again [] bytes (Entry entry) fits s = absurd fits
line_again (first ∷ lines) bytes (Head head) fits s = absurd fits
line_again (first ∷ lines) bytes (Entry entry) fits s = rw (entry_again bytes entry fits s) refl

-- each line of a text has its form after those before it
pub line_form : (before : List ScheduleLine) → IsForm (line_after before) (Fits before) schedule_words
line_form before = record { takes = λ bytes value h. line_takes before bytes value h; again = λ bytes value fits s. line_again before bytes value fits s }
