-- One more entry: the sessions after it, and what is seen of it.
use Rattle.std.proofs.Common.{◌≡◌, ℕ, ◌-◌, List, [], ◌∷◌, ◌++◌, length, take, refl, ap, ◌∙◌}
use Rattle.std.proofs.lemmas.List.{append_assoc, append-nil}
use Rattle.std.proofs.Math.Seq.{take-append_seam}
use Rattle.guest_program.specs.declared.instr.Func.{Func}
use Rattle.code_event.specs.Seen.{Seen}
use Rattle.run_schedule.specs.Schedule.{Course, course_after, course_on, running_after}
use Rattle.run_schedule.specs.ScheduleParts.{ScheduleParts}
use Rattle.run_schedule.specs.Source.{source_for, source_after}
use Rattle.run_schedule.specs.declared.schedule.ScheduleEntry.{ScheduleEntry}
use Rattle.isolate.specs.PlainFile.{given_up_for, seen_behind, seen_of}
use Rattle.isolate.specs.RunLaws.{step_behind, time_behind}

pub course_on-push : (course : Course) (entries : List ScheduleEntry) (next : ScheduleEntry) → course_on course (entries ++ next ∷ []) ≡ course_after (course_on course entries) next.what
course_on-push course [] next = refl
course_on-push course (entry ∷ entries) next = course_on-push (course_after course entry.what) entries next

-- the parts of what is seen, grouped as in the induction and as in the law
regroup : (before rest waits own : List Seen) → before ++ (rest ++ waits ++ own) ≡ before ++ rest ++ waits ++ own
regroup before rest waits own = simp append_assoc

pub seen_behind-push : (funcs : List Func) (base : ℕ) (course : Course) (step time : ℕ) (entries : List ScheduleEntry) (next : ScheduleEntry)
    → seen_behind funcs base course step time (entries ++ next ∷ [])
    ≡ seen_behind funcs base course step time entries
    ++ given_up_for (course_on course entries).running funcs (time_behind time entries) (step_behind step entries) (next.step - step_behind step entries)
    ++ seen_of funcs base (course_on course entries) next.step next.time next.what
seen_behind-push funcs base course step time [] next =
    append-nil (given_up_for course.running funcs time step (next.step - step) ++ seen_of funcs base course next.step next.time next.what)
seen_behind-push funcs base course step time (entry ∷ entries) next =
    let before : List Seen = given_up_for course.running funcs time step (entry.step - step) ++ seen_of funcs base course entry.step entry.time entry.what in
    let after = course_after course entry.what in
    let end = course_on after entries in
    let last_step : ℕ = step_behind entry.step entries in
    ap (λ (seen : List Seen). before ++ seen) (seen_behind-push funcs base after entry.step entry.time entries next)
    ∙ regroup before (seen_behind funcs base after entry.step entry.time entries)
    (given_up_for end.running funcs (time_behind entry.time entries) last_step (next.step - last_step)) (seen_of funcs base end next.step next.time next.what)

-- the source interval after the entries before some place is that of the sessions that run there
pub source_after-length : (schedule : ScheduleParts) (before after : List ScheduleEntry) → schedule.entries ≡ before ++ after
    → source_after schedule (length before) ≡ source_for schedule.base (running_after before)
source_after-length schedule before after parts =
    ap (λ (entries : List ScheduleEntry). source_for schedule.base (running_after entries)) (ap (take (length before)) parts ∙ take-append_seam before after)
