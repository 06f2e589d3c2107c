-- What is kept of a schedule while its text is read.
use Rattle.std.proofs.Common.{◌≡◌, ◌∙◌, ℕ, ◌+◌, ◌<◌, ◌≤◌, ◌^◌, ◌-◌, List, [], ◌∷◌, ◌++◌, map, length, Bool, true, false, cond, not, Option, Some, None, refl, sym, ap, subst, arith}
use Rattle.std.proofs.lemmas.List.Sums.{sum_by_push}
use Rattle.prof_lines.specs.declared.fault.Cause.{Cause}
use Rattle.prof_lines.specs.declared.fault.Cause.TheVariants.{Own}
use Rattle.run_schedule.specs.declared.limits.TheConstants.{MAX_ENTRIES}
use Rattle.run_schedule.specs.declared.schedule.What.{What}
use Rattle.run_schedule.specs.declared.schedule.What.TheVariants.{Sampled, Dropped, Start, Stop, End}
use Rattle.run_schedule.specs.declared.schedule.ScheduleEntry.{ScheduleEntry}
use Rattle.run_schedule.specs.Schedule.{Course, none_yet, course_after, course_on, is_sampled, has_end}
use Rattle.run_schedule.specs.ScheduleParts.{ScheduleParts}
use Rattle.record_text.specs.declared.rule.Rule.{Rule}
use Rattle.record_text.specs.declared.rule.Rule.TheVariants as rule
use Rattle.record_text.specs.declared.schedule_line.ScheduleLine.{ScheduleLine}
use Rattle.record_text.specs.declared.schedule_line.ScheduleLine.TheVariants.{Entry}
use Rattle.record_text.specs.ScheduleRules.{is_in_order, has_session, is_within_limits, sampled_in, entry_fault}
use Rattle.record_text.specs.ScheduleDraft.{IsKept}
use Rattle.record_text.specs.ScheduleTexts.{head_of, schedule_lines, entries_of, schedule_of, fault_after}
use Rattle.record_text.proofs.ScheduleOrder.{order_from, in_order_more}
use Rattle.record_text.proofs.ScheduleRules.{passes, has_room}

-- the lines of entries are those of these entries
pub entries_are : (entries : List ScheduleEntry) → entries_of (map (λ entry. Entry entry) entries) ≡ entries
entries_are [] = refl
entries_are (entry ∷ entries) = ap (λ (z : List ScheduleEntry). entry ∷ z) (entries_are entries)

-- the first rule that an entry breaks after the lines of a schedule
pub fault_is : (s : ScheduleParts) (entry : ScheduleEntry) → entry_fault s entry ≡ fault_after (schedule_lines s) (Entry entry)
fault_is s entry = ap (λ (z : List ScheduleEntry). entry_fault (schedule_of (head_of s) z) entry) (sym (entries_are s.entries))

-- the fault that the code answers, by its tests
abbrev found_fault : Bool → Bool → Bool → Option (Cause Rule)
found_fault order session limit = cond (not order) (Some (Own rule.Order)) (cond (not session) (Some (Own rule.Session)) (cond (not limit) (Some (Own rule.Limit)) None))

pub fault_found : (s : ScheduleParts) (sampled : ℕ) (sessions : Course) (entry : ScheduleEntry) (lines : List ScheduleLine) → IsKept s sampled sessions → schedule_lines s ≡ lines
    → found_fault (is_in_order s.entries entry) (has_session sessions.running entry.what) (is_within_limits s entry.step entry.what) ≡ fault_after lines (Entry entry)
fault_found s sampled sessions entry lines kept is =
    ap (λ (z : Course). found_fault (is_in_order s.entries entry) (has_session z.running entry.what) (is_within_limits s entry.step entry.what)) kept.course
    ∙ fault_is s entry ∙ ap (λ (z : List ScheduleLine). fault_after z (Entry entry)) is

pub order_fault : (s : ScheduleParts) (sampled : ℕ) (sessions : Course) (entry : ScheduleEntry) (lines : List ScheduleLine) → IsKept s sampled sessions → schedule_lines s ≡ lines
    → is_in_order s.entries entry ≡ false → Some (Own rule.Order) ≡ fault_after lines (Entry entry)
order_fault s sampled sessions entry lines kept is h =
    let f : found_fault (is_in_order s.entries entry) (has_session sessions.running entry.what) (is_within_limits s entry.step entry.what) ≡ Some (Own rule.Order) = rw h refl in
    sym f ∙ fault_found s sampled sessions entry lines kept is

pub session_fault : (s : ScheduleParts) (sampled : ℕ) (sessions : Course) (entry : ScheduleEntry) (lines : List ScheduleLine) → IsKept s sampled sessions → schedule_lines s ≡ lines
    → is_in_order s.entries entry ≡ true → has_session sessions.running entry.what ≡ false → Some (Own rule.Session) ≡ fault_after lines (Entry entry)
session_fault s sampled sessions entry lines kept is h i =
    let f : found_fault (is_in_order s.entries entry) (has_session sessions.running entry.what) (is_within_limits s entry.step entry.what) ≡ Some (Own rule.Session) = rw (h, i) refl in
    sym f ∙ fault_found s sampled sessions entry lines kept is

pub limit_fault : (s : ScheduleParts) (sampled : ℕ) (sessions : Course) (entry : ScheduleEntry) (lines : List ScheduleLine) → IsKept s sampled sessions → schedule_lines s ≡ lines
    → is_in_order s.entries entry ≡ true → has_session sessions.running entry.what ≡ true → is_within_limits s entry.step entry.what ≡ false → Some (Own rule.Limit) ≡ fault_after lines (Entry entry)
limit_fault s sampled sessions entry lines kept is h i j =
    let f : found_fault (is_in_order s.entries entry) (has_session sessions.running entry.what) (is_within_limits s entry.step entry.what) ≡ Some (Own rule.Limit) = rw (h, i, j) refl in
    sym f ∙ fault_found s sampled sessions entry lines kept is

pub no_fault_found : (s : ScheduleParts) (sampled : ℕ) (sessions : Course) (entry : ScheduleEntry) (lines : List ScheduleLine) → IsKept s sampled sessions → schedule_lines s ≡ lines
    → is_in_order s.entries entry ≡ true → has_session sessions.running entry.what ≡ true → is_within_limits s entry.step entry.what ≡ true → None ≡ fault_after lines (Entry entry)
no_fault_found s sampled sessions entry lines kept is h i j =
    let f : found_fault (is_in_order s.entries entry) (has_session sessions.running entry.what) (is_within_limits s entry.step entry.what) ≡ None = rw (h, i, j) refl in
    sym f ∙ fault_found s sampled sessions entry lines kept is

pub ended_by : (s : ScheduleParts) (lines : List ScheduleLine) → schedule_lines s ≡ lines → has_end s.entries ≡ has_end (entries_of lines)
ended_by s lines is = ap has_end (sym (entries_are s.entries)) ∙ ap (λ (z : List ScheduleLine). has_end (entries_of z)) is

-- ---- one more entry

course_push : (course : Course) (entries : List ScheduleEntry) (entry : ScheduleEntry) → course_on course (entries ++ entry ∷ []) ≡ course_after (course_on course entries) entry.what
course_push course [] entry = refl
course_push course (first ∷ entries) entry = course_push (course_after course first.what) entries entry

-- no more sessions were started than there are entries
started_after : (course : Course) (what : What) → (course_after course what).started ≤ course.started + 1
started_after course (Start options) = omega arith
started_after course (Stop port session) = omega arith
started_after course Sampled = omega arith
started_after course Dropped = omega arith
started_after course (End why) = omega arith

pub started_few : (course : Course) (entries : List ScheduleEntry) → (course_on course entries).started ≤ course.started + length entries
started_few course [] = omega arith
started_few course (entry ∷ entries) = omega (arith, started_few (course_after course entry.what) entries, started_after course entry.what)

no_fault_in : (s : ScheduleParts) (entry : ScheduleEntry) (lines : List ScheduleLine) → schedule_lines s ≡ lines → fault_after lines (Entry entry) ≡ None → entry_fault s entry ≡ None
no_fault_in s entry lines is h = fault_is s entry ∙ ap (λ (z : List ScheduleLine). fault_after z (Entry entry)) is ∙ h

pub room_for : (s : ScheduleParts) (entry : ScheduleEntry) (lines : List ScheduleLine) → schedule_lines s ≡ lines → fault_after lines (Entry entry) ≡ None → length s.entries < s.limit
room_for s entry lines is h = has_room s entry (no_fault_in s entry lines is h)

pub few_started : (s : ScheduleParts) (sampled : ℕ) (sessions : Course) (entry : ScheduleEntry) (lines : List ScheduleLine) → IsKept s sampled sessions → schedule_lines s ≡ lines
    → fault_after lines (Entry entry) ≡ None → sessions.started < 2 ^ 32 - 1
few_started s sampled sessions entry lines kept is h =
    let few : (course_on none_yet s.entries).started ≤ 0 + length s.entries = started_few none_yet s.entries in
    let same : sessions.started ≡ (course_on none_yet s.entries).started = ap (λ (z : Course). z.started) kept.course in
    let room : length s.entries < s.limit = room_for s entry lines is h in
    let most : s.limit ≤ MAX_ENTRIES = kept.few in
    omega arith

sampled_more : (entries : List ScheduleEntry) (entry : ScheduleEntry) → sampled_in (entries ++ entry ∷ []) ≡ sampled_in entries + cond (is_sampled entry.what) 1 0
sampled_more entries entry = sum_by_push (λ e. cond (is_sampled e.what) 1 0) entries entry

pub kept_more : (s after : ScheduleParts) (sampled more : ℕ) (sessions next : Course) (entry : ScheduleEntry) (lines : List ScheduleLine) → IsKept s sampled sessions → schedule_lines s ≡ lines
    → fault_after lines (Entry entry) ≡ None → next ≡ course_after sessions entry.what → more ≡ sampled + cond (is_sampled entry.what) 1 0 → after ≡ record s { entries = s.entries ++ entry ∷ [] }
    → IsKept after more next
kept_more s after sampled more sessions next entry lines kept is h course count added =
    let tests = passes s entry (no_fault_in s entry lines is h) in
    subst (λ (z : ScheduleParts). IsKept z more next) (sym added)
    (record {
      few = kept.few;
      order = in_order_more s.entries entry kept.order (order_from s.entries entry tests.0);
      taken = count ∙ ap (λ (z : ℕ). z + cond (is_sampled entry.what) 1 0) kept.taken ∙ sym (sampled_more s.entries entry);
      course = course ∙ ap (λ (z : Course). course_after z entry.what) kept.course ∙ sym (course_push none_yet s.entries entry);
    })
