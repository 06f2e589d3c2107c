-- One more entry in a schedule that keeps its rules.
use Rattle.std.proofs.Common.{◌≡◌, ℕ, suc, ◌^◌, ◌<◌, ◌≤◌, List, [], ◌∷◌, ◌++◌, length, refl, ap, sym, subst, ◌∙◌, arith}
use Rattle.std.proofs.lemmas.List.{append_assoc, append-nil}
use Rattle.std.specs.Prelude.{Bool, true, false, ◌||◌, Some, None}
use Rattle.std.specs.List.{AllByRecursion}
use Rattle.code_event.proofs.EachElement.{all_mapped, all_pushed}
use Rattle.run_schedule.specs.Schedule.{is_sample, is_end, has_end, MayStandBehind, IsInOrder, HasSession, IsAtLastStep, IsEndWithin, IsWithinLimits, MayFollow, EachMayFollow}
use Rattle.run_schedule.specs.ScheduleParts.{ScheduleParts, port_of}
use Rattle.run_schedule.specs.declared.schedule.EndCause.{EndCause}
use Rattle.run_schedule.specs.declared.schedule.EndCause.TheVariants as cause
use Rattle.run_schedule.specs.declared.schedule.ScheduleEntry.{ScheduleEntry}
use Rattle.run_schedule.specs.declared.schedule.What.{What}
use Rattle.run_schedule.specs.declared.schedule.What.TheVariants as what
use Rattle.isolate.specs.RunLaws.{last_time}
use Rattle.raised_so_far.proofs.Entries.{last_time-push}
use Rattle.isolate_acts.specs.Phases.{Phase}
use Rattle.isolate_acts.specs.Progress.{Progress, running_now, entry_time, entry_now, with_entry}
use Rattle.isolate_acts.specs.ScheduleSoFar.{MayStandAt, IsGoingWell, KeepsRules}

-- the rules of an entry do not depend on the entries after it
end_elsewhere : (s : ScheduleParts) (others before : List ScheduleEntry) (number step : ℕ) (why : EndCause) → IsEndWithin s before number step why → IsEndWithin (record s { entries = others }) before number step why
end_elsewhere s others before number step cause.Full is = is
end_elsewhere s others before number step cause.Budget is = is
end_elsewhere s others before number step cause.Halt is = is
end_elsewhere s others before number step cause.Overflow is = is
end_elsewhere s others before number step cause.OffEnd is = is
end_elsewhere s others before number step cause.Memory is = is

limits_elsewhere : (s : ScheduleParts) (others before : List ScheduleEntry) (step : ℕ) (w : What) → IsWithinLimits s before step w → IsWithinLimits (record s { entries = others }) before step w
limits_elsewhere s others before step what.Sampled is = is
limits_elsewhere s others before step what.Dropped is = is
limits_elsewhere s others before step (what.Start options) is = is
limits_elsewhere s others before step (what.Stop port session) is = is
limits_elsewhere s others before step (what.End why) is = end_elsewhere s others before (suc (length before)) step why is

each_elsewhere : (s : ScheduleParts) (others before entries : List ScheduleEntry) → EachMayFollow s before entries → EachMayFollow (record s { entries = others }) before entries
each_elsewhere s others before [] each = tt
each_elsewhere s others before (e ∷ entries) each =
    (record { order = each.0.order; session = each.0.session; limit = limits_elsewhere s others before e.step e.what each.0.limit }, each_elsewhere s others (before ++ e ∷ []) entries each.1)

each_more : (s : ScheduleParts) (before entries : List ScheduleEntry) (entry : ScheduleEntry) → EachMayFollow s before entries → MayFollow s (before ++ entries) entry → EachMayFollow s before (entries ++ entry ∷ [])
each_more s before [] entry each may = (subst (λ l. MayFollow s l entry) (append-nil before) may, tt)
each_more s before (e ∷ entries) entry each may =
    (each.0, each_more s (before ++ e ∷ []) entries entry each.1 (subst (λ l. MayFollow s l entry) (sym (append_assoc before (e ∷ []) entries)) may))

pub last_is : (before : List ScheduleEntry) (entry : ScheduleEntry) (step : ℕ) → entry.step ≡ step → IsAtLastStep (before ++ entry ∷ []) step
last_is [] entry step is = is
last_is (e ∷ []) entry step is = is
last_is (e ∷ next ∷ before) entry step is = last_is (next ∷ before) entry step is

or_true : (b : Bool) → (b || true) ≡ true
or_true true = refl
or_true false = refl

has_end-push : (before : List ScheduleEntry) (entry : ScheduleEntry) → is_end entry.what ≡ true → has_end (before ++ entry ∷ []) ≡ true
has_end-push [] entry is = ap (λ (b : Bool). b || false) is
has_end-push (e ∷ before) entry is = ap (λ (b : Bool). is_end e.what || b) (has_end-push before entry is) ∙ or_true (is_end e.what)

both_hold : {A : Type 0} (P Q R : A → Type 0) (xs : List A) → ((x : A) → P x → Q x → R x) → AllByRecursion P xs → AllByRecursion Q xs → AllByRecursion R xs
both_hold P Q R [] each ps qs = tt
both_hold P Q R (x ∷ xs) each ps qs = (each x ps.0 qs.0, both_hold P Q R xs each ps.1 qs.1)

-- an entry of now, after those so far
module _ (p : Progress) (phase : Phase) (keeps : KeepsRules p phase) (none : p.ending ≡ None) where
  well : IsGoingWell p phase
  well = keeps.going none

  pub in_order : (entry : ScheduleEntry) → entry.step ≡ p.step → last_time p.schedule.entries ≤ entry.time
      → ((before : ScheduleEntry) → before.step ≡ p.step → MayStandAt phase before.what → is_sample before.what ≡ true → is_end entry.what ≡ true)
      → ((before : ScheduleEntry) → before.step ≡ p.step → MayStandAt phase before.what → (earlier later : ℕ) → port_of before.what ≡ Some earlier → port_of entry.what ≡ Some later → earlier ≤ later)
      → IsInOrder p.schedule.entries entry
  in_order entry step time sample ports =
      both_hold (λ e. (is_end e.what ≡ false) × (e.step ≤ p.step) × (e.time ≤ last_time p.schedule.entries)) (λ e. e.step ≡ p.step → MayStandAt phase e.what) (MayStandBehind entry) p.schedule.entries
      (λ before all here. let early = all.1 in let past = all.2 in record {
        step = omega arith;
        time = omega arith;
        going_on = all.0;
        one_sample = λ same is. sample before (same ∙ step) (here (same ∙ step)) is;
        ports = λ earlier later same one other. ports before (same ∙ step) (here (same ∙ step)) earlier later one other;
      }) well.each well.here

  pub entered_each : (entry : ScheduleEntry) → is_end entry.what ≡ false → entry.step ≡ p.step → last_time p.schedule.entries ≤ entry.time
      → AllByRecursion (λ e. (is_end e.what ≡ false) × (e.step ≤ p.step) × (e.time ≤ last_time (p.schedule.entries ++ entry ∷ []))) (p.schedule.entries ++ entry ∷ [])
  entered_each entry ending step time =
      let last : last_time (p.schedule.entries ++ entry ∷ []) ≡ entry.time = last_time-push p.schedule.entries entry in
      all_pushed (λ e. (is_end e.what ≡ false) × (e.step ≤ p.step) × (e.time ≤ last_time (p.schedule.entries ++ entry ∷ []))) p.schedule.entries entry
      (all_mapped (λ e. (is_end e.what ≡ false) × (e.step ≤ p.step) × (e.time ≤ last_time p.schedule.entries)) (λ e. (is_end e.what ≡ false) × (e.step ≤ p.step) × (e.time ≤ last_time (p.schedule.entries ++ entry ∷ []))) p.schedule.entries
      (λ e all. let past = all.2 in (all.0, all.1, omega arith)) well.each)
      (ending, omega arith, omega arith)

  pub rules_more : (entry : ScheduleEntry) → IsInOrder p.schedule.entries entry → HasSession (running_now p) entry.what → IsWithinLimits p.schedule p.schedule.entries entry.step entry.what
      → EachMayFollow (record p.schedule { entries = p.schedule.entries ++ entry ∷ [] }) [] (p.schedule.entries ++ entry ∷ [])
  rules_more entry order session limit =
      each_elsewhere p.schedule (p.schedule.entries ++ entry ∷ []) [] (p.schedule.entries ++ entry ∷ []) (each_more p.schedule [] p.schedule.entries entry keeps.rules (record { order = order; session = session; limit = limit }))

pub time_later : (p : Progress) (now : ℕ) → last_time p.schedule.entries < 2 ^ 53 → last_time p.schedule.entries ≤ entry_time p now
time_later p now before = omega arith

-- the time of an entry is in its range
pub time_within : (p : Progress) (now : ℕ) (w : What) → last_time (p.schedule.entries ++ entry_now p now w ∷ []) < 2 ^ 53
time_within p now w =
    let last : last_time (p.schedule.entries ++ entry_now p now w ∷ []) ≡ entry_time p now = last_time-push p.schedule.entries (entry_now p now w) in
    omega arith

-- the end keeps the rules
pub end_keeps : (p : Progress) (phase : Phase) (now events : ℕ) (why : EndCause) → KeepsRules p phase → p.ending ≡ None
    → IsEndWithin p.schedule p.schedule.entries (suc (length p.schedule.entries)) p.step why
    → (next : Phase) → KeepsRules (record (with_entry p (entry_now p now (what.End why))) { events = events; ending = Some why }) next
end_keeps p phase now events why keeps none limit next = record {
  rules =
      rules_more p phase keeps none (entry_now p now (what.End why))
      (in_order p phase keeps none (entry_now p now (what.End why)) refl (time_later p now (keeps.going none).time) (λ e same may is. refl) (λ e same may earlier later one other. absurd (cc other)))
      tt limit;
  going = λ e. absurd (cc e);
  ended = λ e. has_end-push p.schedule.entries (entry_now p now (what.End why)) refl;
}
