-- That the lines which keep the rules of a text are those of the legal schedules whose numbers are in their ranges.
use Rattle.std.proofs.Common.{◌≡◌, ◌∙◌, ℕ, suc, ◌+◌, ◌<◌, ◌≤◌, List, [], ◌∷◌, ◌++◌, map, length, not, ◌==◌, None, refl, sym, ap, subst, arith, length-append, inl, inr}
use Rattle.std.specs.List.{AllByRecursion}
use Rattle.std.proofs.lemmas.List.{map-append}
use Rattle.prof_base.proofs.Ordered.{Has, has_from_contains}
use Rattle.prof_lines.specs.Values.{Keeps}
use Rattle.code_event.proofs.EachElement.{all_filtered, all_mapped, all_pushed}
use Rattle.run_schedule.specs.declared.limits.TheConstants.{MAX_BUDGET, MAX_ENTRIES}
use Rattle.run_schedule.specs.declared.schedule.EndCause.{EndCause}
use Rattle.run_schedule.specs.declared.schedule.EndCause.TheVariants as cause
use Rattle.run_schedule.specs.declared.schedule.What.{What}
use Rattle.run_schedule.specs.declared.schedule.What.TheVariants.{Sampled, Dropped, Start, Stop, End}
use Rattle.run_schedule.specs.declared.schedule.ScheduleEntry.{ScheduleEntry}
use Rattle.run_schedule.specs.Schedule.{Running, Course, none_yet, course_after, course_on, running_after, has_end, HasSession, IsEndWithin, IsWithinLimits, MayFollow, EachMayFollow, IsLegalSchedule}
use Rattle.run_schedule.specs.ScheduleParts.{ScheduleParts, HasPort, IsInRange}
use Rattle.record_text.specs.declared.schedule_line.ScheduleHead.{ScheduleHead}
use Rattle.record_text.specs.declared.schedule_line.ScheduleLine.{ScheduleLine}
use Rattle.record_text.specs.declared.schedule_line.ScheduleLine.TheVariants.{Head, Entry}
use Rattle.record_text.specs.ScheduleLine.{IsHead, IsWhat, IsEntry}
use Rattle.record_text.specs.ScheduleSpelling.{FitsWhat, FitsTypes}
use Rattle.record_text.specs.ScheduleRules.{entry_fault}
use Rattle.record_text.specs.ScheduleTexts.{head_of, with_head, schedule_lines, schedule_of, Fits, fault_after, KeepRules, IsTextSchedule}
use Rattle.record_text.specs.ScheduleLaws.{LegalSchedulesKeepRules}
use Rattle.record_text.proofs.ScheduleRules.{follows, no_fault, limit_room}
use Rattle.record_text.proofs.ScheduleDrafts.{entries_are, fault_is, started_few}

-- ---- the rules of an entry do not depend on the entries after it

end_elsewhere : (h : ScheduleHead) (one other before : List ScheduleEntry) (number step : ℕ) (why : EndCause) → IsEndWithin (schedule_of h one) before number step why → IsEndWithin (schedule_of h other) before number step why
end_elsewhere h one other before number step cause.Full is = is
end_elsewhere h one other before number step cause.Budget is = is
end_elsewhere h one other before number step cause.Halt is = is
end_elsewhere h one other before number step cause.Overflow is = is
end_elsewhere h one other before number step cause.OffEnd is = is
end_elsewhere h one other before number step cause.Memory is = is

limit_elsewhere : (h : ScheduleHead) (one other before : List ScheduleEntry) (step : ℕ) (what : What) → IsWithinLimits (schedule_of h one) before step what → IsWithinLimits (schedule_of h other) before step what
limit_elsewhere h one other before step Sampled is = is
limit_elsewhere h one other before step Dropped is = is
limit_elsewhere h one other before step (Start options) is = is
limit_elsewhere h one other before step (Stop port session) is = is
limit_elsewhere h one other before step (End why) is = end_elsewhere h one other before (suc (length before)) step why is

elsewhere : (h : ScheduleHead) (one other before : List ScheduleEntry) (entry : ScheduleEntry) → MayFollow (schedule_of h one) before entry → MayFollow (schedule_of h other) before entry
elsewhere h one other before entry is = record { order = is.order; session = is.session; limit = limit_elsewhere h one other before entry.step entry.what is.limit }

-- ---- lines that keep the rules, and entries that may follow one another

-- the lines of these entries keep the rules after those of the first ones
abbrev AreKept : ScheduleHead → List ScheduleEntry → List ScheduleEntry → Type 0
AreKept h before entries = Keeps Fits fault_after (with_head h before) (map (λ entry. Entry entry) entries)

with_head_push : (h : ScheduleHead) (before : List ScheduleEntry) (entry : ScheduleEntry) → with_head h before ++ Entry entry ∷ [] ≡ with_head h (before ++ entry ∷ [])
with_head_push h before entry = ap (λ (z : List ScheduleLine). Head h ∷ z) (sym (map-append (λ e. Entry e) before (entry ∷ [])))

kept_follow : (h : ScheduleHead) (all before entries : List ScheduleEntry) → AreKept h before entries → EachMayFollow (schedule_of h all) before entries × AllByRecursion IsEntry entries
kept_follow h all before [] kept = (tt, tt)
kept_follow h all before (entry ∷ entries) kept =
    let may = follows (schedule_of h before) entry (fault_is (schedule_of h before) entry ∙ kept.1) in
    let later = kept_follow h all (before ++ entry ∷ []) entries
    (subst (λ (z : List ScheduleLine). Keeps Fits fault_after z (map (λ e. Entry e) entries)) (with_head_push h before entry) kept.2) in
    ((elsewhere h before all before entry may, later.0), (kept.0, later.1))

follow_kept : (h : ScheduleHead) (all before entries : List ScheduleEntry) → EachMayFollow (schedule_of h all) before entries → AllByRecursion IsEntry entries → AreKept h before entries
follow_kept h all before [] each fits = tt
follow_kept h all before (entry ∷ entries) each fits =
    let none : entry_fault (schedule_of h before) entry ≡ None = no_fault (schedule_of h before) entry (elsewhere h all before before entry each.0) in
    let later = follow_kept h all (before ++ entry ∷ []) entries each.1 fits.1 in (
      fits.0,
      sym (fault_is (schedule_of h before) entry) ∙ none,
      subst (λ (z : List ScheduleLine). Keeps Fits fault_after z (map (λ e. Entry e) entries)) (sym (with_head_push h before entry)) later,
    )

-- ---- how many entries there are, and their ports

room_in : (h : ScheduleHead) (all before : List ScheduleEntry) (entry : ScheduleEntry) → MayFollow (schedule_of h all) before entry → length before < h.limit
room_in h all before entry may = limit_room (schedule_of h before) entry.step entry.what (elsewhere h all before before entry may).limit

rooms : (h : ScheduleHead) (all before entries : List ScheduleEntry) → length before ≤ h.limit → EachMayFollow (schedule_of h all) before entries → length before + length entries ≤ h.limit
rooms h all before [] few each = omega arith
rooms h all before (entry ∷ entries) few each =
    let room : length before < h.limit = room_in h all before entry each.0 in
    let one : length (before ++ entry ∷ []) ≡ length before + length (entry ∷ []) = length-append before (entry ∷ []) in
    let later = rooms h all (before ++ entry ∷ []) entries (omega arith) each.1 in
    omega arith

port_in : (what : What) → IsWhat what → HasPort what
port_in Sampled fits = tt
port_in Dropped fits = tt
port_in (Start options) fits = fits.0.1
port_in (Stop port session) fits = fits.0.1
port_in (End why) fits = tt

range_in : (s : ScheduleParts) → IsHead (head_of s) → length s.entries ≤ s.limit → AllByRecursion (λ e. HasPort e.what) s.entries → IsInRange s
range_in s head room ports = record {
  base_low = head.base.0;
  base_high = head.base.1;
  ring_low = head.ring.0;
  ring_high = head.ring.1;
  budget_low = head.budget.0;
  budget_high = head.budget.1;
  limit_low = head.limit.0;
  limit_high = head.limit.1;
  room = room;
  ports = ports;
}

pub text_rules : (s : ScheduleParts) → KeepRules (schedule_lines s) → IsTextSchedule s
text_rules s rules =
    let each = kept_follow (head_of s) s.entries [] s.entries rules.each.2 in
    let head = rules.each.0 in
    let room : 0 + length s.entries ≤ s.limit = rooms (head_of s) s.entries [] s.entries (omega arith) each.0 in
    record {
      legal = record { each = each.0; ended = ap has_end (sym (entries_are s.entries)) ∙ rules.ended };
      in_range = range_in s head (omega arith) (all_mapped IsEntry (λ e. HasPort e.what) s.entries (λ e fits. port_in e.what fits.what) each.1);
      entries = each.1;
    }

pub rules_of_text : (s : ScheduleParts) → IsTextSchedule s → KeepRules (schedule_lines s)
rules_of_text s is =
    let range = is.in_range in
    record {
      each = (
        record { base = (range.base_low, range.base_high); ring = (range.ring_low, range.ring_high); budget = (range.budget_low, range.budget_high); limit = (range.limit_low, range.limit_high) },
        refl,
        follow_kept (head_of s) s.entries [] s.entries is.legal.each is.entries,
      );
      ended = ap has_end (entries_are s.entries) ∙ is.legal.ended;
    }

pub legal_schedules_keep_rules : LegalSchedulesKeepRules
legal_schedules_keep_rules s = (text_rules s, rules_of_text s)

-- ---- the numbers of a legal schedule

end_step : (s : ScheduleParts) (before : List ScheduleEntry) (number step : ℕ) (why : EndCause) → IsEndWithin s before number step why → step ≤ s.budget
end_step s before number step cause.Full h = h.2
end_step s before number step cause.Budget h = omega (arith, h.1)
end_step s before number step cause.Halt h = h.1
end_step s before number step cause.Overflow h = h.1
end_step s before number step cause.OffEnd h = h.1
end_step s before number step cause.Memory h = h.1

limit_step : (s : ScheduleParts) (before : List ScheduleEntry) (step : ℕ) (what : What) → IsWithinLimits s before step what → step ≤ s.budget
limit_step s before step Dropped h = omega (arith, h.0.1)
limit_step s before step (End why) h = end_step s before (suc (length before)) step why h
limit_step s before step Sampled h = omega (arith, h.1)
limit_step s before step (Start options) h = omega (arith, h.1)
limit_step s before step (Stop port session) h = omega (arith, h.1)

-- the number of a session is one of those that were given
abbrev IsGiven : ℕ → Running → Type 0
IsGiven started one = (1 ≤ one.session) × (one.session ≤ started)

abbrev AreGiven : Course → Type 0
AreGiven course = AllByRecursion (IsGiven course.started) course.running

given_after : (course : Course) (what : What) → AreGiven course → AreGiven (course_after course what)
given_after course Sampled are = are
given_after course Dropped are = are
given_after course (Start options) are =
    all_pushed (IsGiven (suc course.started)) course.running (record { session = suc course.started; port = options.port; interval = options.interval })
    (all_mapped (IsGiven course.started) (IsGiven (suc course.started)) course.running (λ one is. (is.0, omega (arith, is.1))) are)
    (omega arith, omega arith)
given_after course (Stop port session) are = all_filtered (IsGiven course.started) (λ one. not (one.session == session.0)) course.running are
given_after course (End why) are = are

given_on : (course : Course) (entries : List ScheduleEntry) → AreGiven course → AreGiven (course_on course entries)
given_on course [] are = are
given_on course (entry ∷ entries) are = given_on (course_after course entry.what) entries (given_after course entry.what are)

all_has : {A : Type 0} (P : A → Type 0) (xs : List A) (x : A) → AllByRecursion P xs → Has xs x → P x
all_has P [] x all has = absurd has
all_has P (y ∷ xs) x all (inl e) = subst P e all.0
all_has P (y ∷ xs) x all (inr has) = all_has P xs x all.1 has

what_in : (before : List ScheduleEntry) (what : What) → length before < MAX_ENTRIES → HasSession (running_after before) what → HasPort what → FitsWhat what → IsWhat what
what_in before Sampled few session port types = tt
what_in before Dropped few session port types = tt
what_in before (Start options) few session port types = ((omega arith, port), types)
what_in before (Stop p session) few runs port types =
    let course = course_on none_yet before in
    let given = all_has (IsGiven course.started) course.running (record { session = session.0; port = p; interval = runs.0 }) (given_on none_yet before tt) (has_from_contains course.running _ runs.1) in
    let started : course.started ≤ 0 + length before = started_few none_yet before in
    ((omega arith, port), (given.0, omega (arith, given.1, started, few)))
what_in before (End why) few session port types = tt

entries_in : (h : ScheduleHead) (all before entries : List ScheduleEntry) → h.budget ≤ MAX_BUDGET → h.limit ≤ MAX_ENTRIES → EachMayFollow (schedule_of h all) before entries
    → AllByRecursion (λ e. HasPort e.what) entries → AllByRecursion FitsTypes entries → AllByRecursion IsEntry entries
entries_in h all before [] budget limit each ports types = tt
entries_in h all before (entry ∷ entries) budget limit each ports types =
    let step : entry.step ≤ h.budget = limit_step (schedule_of h all) before entry.step entry.what each.0.limit in
    let room : length before < h.limit = room_in h all before entry each.0 in (
      record { step = (omega arith, omega arith); time = types.0.time; what = what_in before entry.what (omega arith) each.0.session ports.0 types.0.what },
      entries_in h all (before ++ entry ∷ []) entries budget limit each.1 ports.1 types.1,
    )

-- a legal schedule has a text where its numbers are in the ranges that the types of its parts give them
pub text_from_legal : (s : ScheduleParts) (entries : List ScheduleEntry) → IsLegalSchedule s → IsHead (head_of s) → entries ≡ s.entries → length entries ≤ s.limit → AllByRecursion (λ e. HasPort e.what) entries
    → AllByRecursion FitsTypes entries → IsTextSchedule s
text_from_legal s entries legal head same room ports types =
    let all_ports : AllByRecursion (λ e. HasPort e.what) s.entries = subst (λ (z : List ScheduleEntry). AllByRecursion (λ e. HasPort e.what) z) same ports in
    record {
      legal = legal;
      in_range = range_in s head (subst (λ (z : List ScheduleEntry). length z ≤ s.limit) same room) all_ports;
      entries = entries_in (head_of s) s.entries [] s.entries head.budget.1 head.limit.1 legal.each all_ports (subst (λ (z : List ScheduleEntry). AllByRecursion FitsTypes z) same types);
    }
