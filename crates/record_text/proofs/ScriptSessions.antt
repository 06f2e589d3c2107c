-- The sessions of a script and the latest step, with one more line.
use Rattle.std.proofs.Common.{◌≡◌, ◌∙◌, ℕ, suc, ◌<◌, ◌≤◌, ◌+◌, ◌==◌, List, [], ◌∷◌, ◌++◌, map, length, filter, Bool, true, false, cond, not, ◌||◌, nat_lt, Some, None, Ordering, Less, Equal, Greater, is_eq, refl, sym, ap, subst, arith, inl, inr}
use Rattle.std.specs.List.{AllByRecursion, list_any}
use Rattle.std.specs.List.Sorted.{IsStrictlySortedBy}
use Rattle.std.specs.Ordering.{nat_cmp}
use Rattle.std.specs.BTreeMap.{is_at}
use Rattle.std.specs.BTreeSet.{insert_key}
use Rattle.std.specs.Set.{remove_key}
use Rattle.std.proofs.lemmas.Bool.{lt-ltb, le-ltb, ne_eqb, eq-eqb, ltb-false, cases_lt, cond_both}
use Rattle.std.proofs.lemmas.Cmp.{ranked}
use Rattle.std.proofs.lemmas.List.{map-append}
use Rattle.std.proofs.lemmas.List.Folds.{list_any-append}
use Rattle.std.proofs.lemmas.Map.Keys.{sorted_head, sorted_tail}
use Rattle.std.proofs.lemmas.Map.Lookups.{exact_unsigned}
use Rattle.prof_lines.specs.declared.fault.Cause.{Cause}
use Rattle.code_event.specs.declared.event.Command.{Command}
use Rattle.code_event.specs.declared.event.Command.TheVariants.{Start, Stop}
use Rattle.run_schedule.specs.declared.schedule.ScheduleEntry.{ScheduleEntry}
use Rattle.run_schedule.specs.Schedule.{Running, Course, none_yet, course_after, course_on}
use Rattle.record_text.specs.declared.rule.Rule.{Rule}
use Rattle.record_text.specs.declared.script.ScriptLine.{ScriptLine}
use Rattle.record_text.specs.ScriptRules.{what_of, entry_of, script_entries, running_after_lines, is_passed_by, is_running, breaks_session, script_fault}
use Rattle.record_text.specs.ScriptDraft.{SessionNumbers, numbers_after, numbers_of, numbers_on, IsLatest, IsKept}

-- ---- the numbers as a set in order

is_above : (n k : ℕ) → k < n → nat_cmp n k ≡ Greater
is_above n k h = rw (le-ltb n k (omega (arith, h)), ne_eqb n k (λ e. omega (arith, h, e))) refl

-- a number above all others comes last
pub insert_last : (started : ℕ) (keys : List ℕ) → AllByRecursion (λ k. k ≤ started) keys → insert_key nat_cmp keys (suc started) ≡ keys ++ suc started ∷ []
insert_last started [] h = refl
insert_last started (k ∷ keys) h = rw (is_above (suc started) k (omega (arith, h.0))) (ap (λ (z : List ℕ). k ∷ z) (insert_last started keys h.1))

pub bound_more : (started : ℕ) (keys : List ℕ) → AllByRecursion (λ k. k ≤ started) keys → AllByRecursion (λ k. k ≤ suc started) (keys ++ suc started ∷ [])
bound_more started [] h = (omega arith, tt)
bound_more started (k ∷ keys) h = (omega (arith, h.0), bound_more started keys h.1)

abbrev all_but : ℕ → List ℕ → List ℕ
all_but n keys = filter (λ k. not (k == n)) keys

not_below : (n k : ℕ) → nat_cmp n k ≡ Less → (k == n) ≡ false
not_below n k h = let less : n < k = ranked n k Less (sym h) in ne_eqb k n (λ e. omega (arith, less, e))

others_stay : (n : ℕ) (keys : List ℕ) → AllByRecursion (λ k. nat_cmp n k ≡ Less) keys → all_but n keys ≡ keys
others_stay n [] h = refl
others_stay n (k ∷ keys) h = rw (not_below n k h.0) (ap (λ (z : List ℕ). k ∷ z) (others_stay n keys h.1))

not_this : (n k : ℕ) (r : Ordering) → nat_cmp n k ≡ r → is_eq r ≡ false → (k == n) ≡ false
not_this n k Less e h = not_below n k e
not_this n k Equal e h = absurd cc
not_this n k Greater e h = let less : k < n = ranked n k Greater (sym e) in ne_eqb k n (λ same. omega (arith, less, same))

remove_by : (n k : ℕ) (keys : List ℕ) (r : Ordering) → nat_cmp n k ≡ r → IsStrictlySortedBy nat_cmp (k ∷ keys) → remove_key (is_at (nat_cmp n)) keys ≡ all_but n keys
    → cond (is_eq r) keys (k ∷ remove_key (is_at (nat_cmp n)) keys) ≡ all_but n (k ∷ keys)
remove_by n k keys Less e rising later = rw (not_this n k Less e refl) (ap (λ (z : List ℕ). k ∷ z) later)
remove_by n k keys Greater e rising later = rw (not_this n k Greater e refl) (ap (λ (z : List ℕ). k ∷ z) later)
remove_by n k keys Equal e rising later =
    let same : n ≡ k = exact_unsigned n k e in
    let above : AllByRecursion (λ y. nat_cmp n y ≡ Less) keys = subst (λ (m : ℕ). AllByRecursion (λ y. nat_cmp m y ≡ Less) keys) (sym same) (sorted_head nat_cmp k keys rising) in
    rw (eq-eqb k n (sym same)) (sym (others_stay n keys above))

-- among numbers that rise, the one that is removed is the only one of its value
pub remove_filters : (n : ℕ) (keys : List ℕ) → IsStrictlySortedBy nat_cmp keys → remove_key (is_at (nat_cmp n)) keys ≡ all_but n keys
remove_filters n [] rising = refl
remove_filters n (k ∷ keys) rising = remove_by n k keys (nat_cmp n k) refl rising (remove_filters n keys (sorted_tail nat_cmp k keys rising))

pub bound_fewer : (P : ℕ → Type 0) (p : ℕ → Bool) (keys : List ℕ) → AllByRecursion P keys → AllByRecursion P (filter p keys)
bound_fewer P p [] h = tt
bound_fewer P p (k ∷ keys) h =
    cond_both (p k) (k ∷ filter p keys) (filter p keys) (λ (z : List ℕ). AllByRecursion P z) (λ e. (h.0, bound_fewer P p keys h.1)) (λ e. bound_fewer P p keys h.1)

-- ---- the sessions of lines

abbrev is_another : ℕ → Running → Bool
is_another n one = not (one.session == n)

numbers_by : (b : Bool) (one : Running) (fewer : List Running) (numbers : List ℕ) → map (λ x. x.session) fewer ≡ numbers
    → map (λ x. x.session) (cond b (one ∷ fewer) fewer) ≡ cond b (one.session ∷ numbers) numbers
numbers_by true one fewer numbers h = ap (λ (z : List ℕ). one.session ∷ z) h
numbers_by false one fewer numbers h = h

numbers-filter : (n : ℕ) (running : List Running) → map (λ one. one.session) (filter (is_another n) running) ≡ all_but n (map (λ one. one.session) running)
numbers-filter n [] = refl
numbers-filter n (one ∷ running) = numbers_by (is_another n one) one (filter (is_another n) running) (all_but n (map (λ x. x.session) running)) (numbers-filter n running)

numbers_more : (course : Course) (command : Command) → numbers_of (course_after course (what_of command)) ≡ numbers_after (numbers_of course) command
numbers_more course (Start options) =
    ap (λ (z : List ℕ). record { started = suc course.started; running = z })
    (map-append (λ one. one.session) course.running (record { session = suc course.started; port = options.port; interval = options.interval } ∷ []))
numbers_more course (Stop session) = ap (λ (z : List ℕ). record { started = course.started; running = z }) (numbers-filter session.0 course.running)

pub course_more : (course : Course) (entries : List ScheduleEntry) (entry : ScheduleEntry) → course_on course (entries ++ entry ∷ []) ≡ course_after (course_on course entries) entry.what
course_more course [] entry = refl
course_more course (first ∷ entries) entry = course_more (course_after course first.what) entries entry

pub entries_more : (lines : List ScriptLine) (line : ScriptLine) → script_entries (lines ++ line ∷ []) ≡ script_entries lines ++ entry_of line ∷ []
entries_more lines line = map-append entry_of lines (line ∷ [])

numbers_on_more : (lines : List ScriptLine) (line : ScriptLine) → numbers_on (lines ++ line ∷ []) ≡ numbers_after (numbers_on lines) line.command
numbers_on_more lines line =
    ap (λ (z : List ScheduleEntry). numbers_of (course_on none_yet z)) (entries_more lines line)
    ∙ ap numbers_of (course_more none_yet (script_entries lines) (entry_of line))
    ∙ numbers_more (course_on none_yet (script_entries lines)) line.command

started_by : (course : Course) (command : Command) → (course_after course (what_of command)).started ≤ suc course.started
started_by course (Start options) = omega arith
started_by course (Stop session) = omega arith

started_on : (course : Course) (lines : List ScriptLine) → (course_on course (script_entries lines)).started ≤ course.started + length lines
started_on course [] = omega arith
started_on course (line ∷ lines) = omega (arith, started_on (course_after course (what_of line.command)) lines, started_by course line.command)

-- no more sessions were started than there are lines
pub started_few : (lines : List ScriptLine) (latest : ℕ) (sessions : SessionNumbers) → IsKept lines latest sessions → sessions.started ≤ length lines
started_few lines latest sessions kept =
    subst (λ (z : SessionNumbers). z.started ≤ length lines) (sym kept.numbers) (omega (arith, started_on none_yet lines))

-- ---- what is kept after one more line

or_false : (b : Bool) → (b || false) ≡ b
or_false true = refl
or_false false = refl

last_decides : (step latest last : ℕ) → latest ≤ last → (nat_lt step latest || (nat_lt step last || false)) ≡ nat_lt step last
last_decides step latest last h = elim (cases_lt step latest) [
  | inl less ↦ rw (lt-ltb step latest less) (sym (lt-ltb step last (omega (arith, less, h))))
  | inr more ↦ rw (le-ltb step latest more) (or_false (nat_lt step last))
]

latest_more : (lines : List ScriptLine) (latest : ℕ) (line : ScriptLine) → IsLatest lines latest → latest ≤ line.step → IsLatest (lines ++ line ∷ []) line.step
latest_more lines latest line is h step =
    list_any-append (λ earlier. nat_lt step earlier.step) lines (line ∷ [])
    ∙ ap (λ (b : Bool). b || (nat_lt step line.step || false)) (is step)
    ∙ last_decides step latest line.step h

kept_by : (order session : Bool) (a b : Cause Rule) → cond order (Some a) (cond session (Some b) None) ≡ None → (order ≡ false) × (session ≡ false)
kept_by true session a b h = absurd cc
kept_by false true a b h = absurd cc
kept_by false false a b h = (refl, refl)

-- a line without a fault breaks neither rule
pub no_fault : (before : List ScriptLine) (line : ScriptLine) → script_fault before line ≡ None
    → (is_passed_by line.step before ≡ false) × (breaks_session (running_after_lines before) line.command ≡ false)
no_fault before line h = kept_by (is_passed_by line.step before) (breaks_session (running_after_lines before) line.command) _ _ h

pub kept_more : (lines : List ScriptLine) (latest : ℕ) (sessions after : SessionNumbers) (line : ScriptLine) → IsKept lines latest sessions → script_fault lines line ≡ None
    → after ≡ numbers_after sessions line.command → IsKept (lines ++ line ∷ []) line.step after
kept_more lines latest sessions after line kept fault is =
    let last : latest ≤ line.step = ltb-false line.step latest (sym (kept.is_latest line.step) ∙ (no_fault lines line fault).0) in
    record {
      is_latest = latest_more lines latest line kept.is_latest last;
      numbers = is ∙ ap (λ (z : SessionNumbers). numbers_after z line.command) kept.numbers ∙ sym (numbers_on_more lines line);
    }

-- whether a session runs, by the numbers
pub is_running-numbers : (running : List Running) (n : ℕ) → is_running running n ≡ list_any (λ number. number == n) (map (λ one. one.session) running)
is_running-numbers [] n = refl
is_running-numbers (one ∷ running) n = ap (λ (b : Bool). (one.session == n) || b) (is_running-numbers running n)
