-- One more entry: what is kept agrees with the schedule again.
use Rattle.std.proofs.Common.{◌≡◌, ℕ, suc, ◌+◌, ◌^◌, ◌<◌, ◌≤◌, [], ◌∷◌, ◌++◌, length, length-append, sym, subst, ap, ◌∙◌, arith}
use Rattle.run_schedule.specs.Schedule.{Course, none_yet, course_after}
use Rattle.run_schedule.specs.ScheduleParts.{ScheduleParts, HasPort}
use Rattle.run_schedule.specs.declared.schedule.ScheduleEntry.{ScheduleEntry}
use Rattle.run_schedule.specs.declared.schedule.What.{What}
use Rattle.run_schedule.specs.declared.schedule.What.TheVariants as what
use Rattle.isolate.proofs.EntriesMore.{course_on-push}
use Rattle.raised_so_far.proofs.Entries.{last_time-push}
use Rattle.isolate_acts.proofs.Within.{entry_within}
use Rattle.isolate_acts.specs.Progress.{Progress, entry_count, with_entry}
use Rattle.isolate_progress.specs.Held.{SessionsSoFar, IsHeld}

-- the progress with one more entry, and this much more raised
abbrev entered : Progress → ScheduleEntry → ℕ → ℕ → Progress
entered p entry raised ticked = record (with_entry p entry) { events = p.events + raised; ticks = p.ticks + ticked }

-- the sessions after an entry
abbrev pub followed : SessionsSoFar → What → SessionsSoFar
followed sessions done = record sessions { course = course_after sessions.course done }

one_started : (course : Course) (done : What) → (course_after course done).started ≤ suc course.started
one_started course (what.Start options) = omega arith
one_started course (what.Stop port session) = omega arith
one_started course what.Sampled = omega arith
one_started course what.Dropped = omega arith
one_started course (what.End why) = omega arith

-- an entry that raises at most 2 ^ 32 events and one tick
entered_held : (p : Progress) (latest : ℕ) (sessions : SessionsSoFar) (entry : ScheduleEntry) (raised ticked : ℕ)
    → IsHeld p latest sessions → HasPort entry.what → entry_count p < p.schedule.limit → entry.time < 2 ^ 53 → raised ≤ 2 ^ 32 → ticked ≤ 1
    → IsHeld (entered p entry raised ticked) entry.time (followed sessions entry.what)
entered_held p latest sessions entry raised ticked held port room before few_events few_ticks =
    let long : length (p.schedule.entries ++ entry ∷ []) ≡ length p.schedule.entries + 1 = length-append p.schedule.entries (entry ∷ []) in
    let events_had = held.few_events in
    let started_had = held.few_started in
    let one_more = one_started sessions.course entry.what in
    record {
      within = entry_within p entry (p.events + raised) (p.ticks + ticked) p.is_sampled p.ending held.within port room before (omega (arith, few_ticks));
      latest_is = sym (last_time-push p.schedule.entries entry);
      sessions_are =
          ap (λ (s : SessionsSoFar). followed s entry.what) held.sessions_are
          ∙ ap (λ (c : Course). record { base = p.schedule.base; course = c }) (sym (course_on-push none_yet p.schedule.entries entry));
      few_started = omega (arith, long, started_had, one_more);
      few_events = omega (arith, long, events_had, few_events);
    }

-- the same of a schedule that has the entry, and of sessions that followed it
pub put_held : (p : Progress) (latest : ℕ) (sessions after : SessionsSoFar) (schedule : ScheduleParts) (entry : ScheduleEntry) (raised ticked : ℕ)
    → IsHeld p latest sessions → HasPort entry.what → entry_count p < p.schedule.limit → entry.time < 2 ^ 53 → raised ≤ 2 ^ 32 → ticked ≤ 1
    → schedule ≡ record p.schedule { entries = p.schedule.entries ++ entry ∷ [] } → after ≡ followed sessions entry.what
    → IsHeld (record p { schedule = schedule; events = p.events + raised; ticks = p.ticks + ticked }) entry.time after
put_held p latest sessions after schedule entry raised ticked held port room before few_events few_ticks put follows =
    subst (λ (s : ScheduleParts). IsHeld (record p { schedule = s; events = p.events + raised; ticks = p.ticks + ticked }) entry.time after) (sym put)
    (subst (λ (s : SessionsSoFar). IsHeld (entered p entry raised ticked) entry.time s) (sym follows)
    (entered_held p latest sessions entry raised ticked held port room before few_events few_ticks))
