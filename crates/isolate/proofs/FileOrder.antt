-- The sessions that end in what is seen of a legal schedule, in order.
use Rattle.std.proofs.Common.{◌≡◌, ℕ, zero, suc, ◌-◌, ◌≤◌, ◌<◌, List, [], ◌∷◌, ◌++◌, map, Bool, true, false, cond, Greater, inl, inr, refl, ap, sym, subst, ◌∙◌, arith}
use Rattle.std.specs.Prelude.{None, filter, not, ◌==◌}
use Rattle.std.specs.Cmp.{nat_cmp_is}
use Rattle.std.specs.List.{AllByRecursion, Contains}
use Rattle.std.specs.Ordering.{nat_cmp}
use Rattle.std.proofs.lemmas.Bool.{both_ways, cond_both}
use Rattle.std.proofs.lemmas.List.{append_assoc, append-nil}
use Rattle.prof_base.specs.Ordered.{insert_sorted}
use Rattle.prof_base.proofs.Ordered.{Has, has_from_contains, contains_from_has}
use Rattle.guest_program.specs.declared.instr.Func.{Func}
use Rattle.plain_machine.specs.PlainMachine.{deopts}
use Rattle.code_event.specs.FileLaws.{AreStoppedWhileRunning}
use Rattle.code_event.specs.ItemFile.{ends, ends_behind}
use Rattle.code_event.specs.ItemList.{without}
use Rattle.code_event.specs.Seen.{Seen, ticked}
use Rattle.code_event.specs.declared.seen.ResolvedTick.{ResolvedTick}
use Rattle.code_event.proofs.EachElement.{all_filtered, all_mapped, all_pushed}
use Rattle.run_schedule.specs.Schedule.{Course, Running, none_yet, course_after, course_on, is_end, HasSession, IsInOrder, EachMayFollow, IsLegalSchedule}
use Rattle.run_schedule.specs.ScheduleParts.{ScheduleParts}
use Rattle.run_schedule.specs.declared.schedule.What.{What}
use Rattle.run_schedule.specs.declared.schedule.What.TheVariants.{Sampled, Dropped, Start, Stop, End}
use Rattle.run_schedule.specs.declared.schedule.ScheduleEntry.{ScheduleEntry}
use Rattle.isolate.specs.PlainFile.{given_up, given_up_for, seen_of, seen_behind, seen_run, tick_at}
use Rattle.isolate.specs.RunLaws.{ended_by, ended_on}
use Rattle.isolate.proofs.EntriesMore.{course_on-push}

-- ---- the sessions that run, by their numbers

abbrev pub sessions : List Running → List ℕ
sessions running = map (λ running. running.session) running

-- none of those that run has a number above the last start's
abbrev pub AreNumbered : Course → Type 0
AreNumbered course = AllByRecursion (λ running. running.session ≤ course.started) course.running

pub numbered_after : (course : Course) (what : What) → AreNumbered course → AreNumbered (course_after course what)
numbered_after course Sampled numbered = numbered
numbered_after course Dropped numbered = numbered
numbered_after course (Start options) numbered =
    all_pushed (λ running. running.session ≤ suc course.started) course.running (record { session = suc course.started; port = options.port; interval = options.interval })
    (all_mapped (λ running. running.session ≤ course.started) (λ running. running.session ≤ suc course.started) course.running (λ running low. omega (arith, low)) numbered)
    (omega arith)
numbered_after course (Stop port number) numbered = all_filtered (λ running. running.session ≤ course.started) (λ running. not (running.session == number.0)) course.running numbered
numbered_after course (End cause) numbered = numbered

-- a greater number is inserted at the end
inserted_last : (running : List Running) (new : Running) → AllByRecursion (λ running. running.session < new.session) running
    → insert_sorted nat_cmp new.session (sessions running) ≡ sessions (running ++ new ∷ [])
inserted_last [] new lower = refl
inserted_last (first ∷ running) new lower =
    let greater : nat_cmp new.session first.session ≡ Greater = sym (nat_cmp_is new.session first.session Greater lower.0) in
    rw greater (ap (λ numbers. first.session ∷ numbers) (inserted_last running new lower.1))

started_last : (course : Course) (new : Running) → new.session ≡ suc course.started → AreNumbered course
    → insert_sorted nat_cmp new.session (sessions course.running) ≡ sessions (course.running ++ new ∷ [])
started_last course new number numbered =
    inserted_last course.running new
    (all_mapped (λ running. running.session ≤ course.started) (λ running. running.session < new.session) course.running (λ running low. omega (arith, low, number)) numbered)

sessions-if : (first : Running) (running : List Running) (numbers : List ℕ) (b : Bool) → sessions running ≡ numbers
    → sessions (cond b (first ∷ running) running) ≡ cond b (first.session ∷ numbers) numbers
sessions-if first running numbers true same = ap (λ numbers. first.session ∷ numbers) same
sessions-if first running numbers false same = same

without-sessions : (number : ℕ) (running : List Running) → without number (sessions running) ≡ sessions (filter (λ running. not (running.session == number)) running)
without-sessions number [] = refl
without-sessions number (first ∷ running) =
    sym (sessions-if first (filter (λ running. not (running.session == number)) running) (without number (sessions running)) (not (first.session == number)) (sym (without-sessions number running)))

has_number : (running : List Running) (one : Running) → Has running one → Has (sessions running) one.session
has_number [] one h = absurd h
has_number (first ∷ running) one (inl same) = inl (ap (λ (running : Running). running.session) same)
has_number (first ∷ running) one (inr later) = inr (has_number running one later)

contains_number : (running : List Running) (one : Running) → Contains running one → Contains (sessions running) one.session
contains_number running one h = contains_from_has (sessions running) one.session (has_number running one (has_from_contains running one h))

-- ---- the ticks of deoptimisations

-- what remains true after a tick remains true after them
over_given_up : (P : List Seen → Type 0) → ((tick : ResolvedTick) (seen : List Seen) → P seen → P (ticked tick ∷ seen))
    → (funcs : List Func) (time step more : ℕ) (rest : List Seen) → P rest → P (given_up funcs time step more ++ rest)
over_given_up P ticks funcs time step zero rest holds = holds
over_given_up P ticks funcs time step (suc more) rest holds =
    let later = over_given_up P ticks funcs time (suc step) more rest holds in
    cond_both (deopts funcs step) (tick_at funcs (suc step) time 0 false None ∷ []) [] (λ first. P ((first ++ given_up funcs time (suc step) more) ++ rest))
    (λ deopt. ticks _ _ later)
    (λ none. later)

over_ticks : (P : List Seen → Type 0) → ((tick : ResolvedTick) (seen : List Seen) → P seen → P (ticked tick ∷ seen))
    → (running : List Running) (funcs : List Func) (time step more : ℕ) (rest : List Seen) → P rest → P (given_up_for running funcs time step more ++ rest)
over_ticks P ticks [] funcs time step more rest holds = holds
over_ticks P ticks (first ∷ running) funcs time step more rest holds = over_given_up P ticks funcs time step more rest holds

-- ---- the sessions that end

-- the sessions that an entry ends are before those that end later, of which there are none after an end
entry_ends : (funcs : List Func) (base : ℕ) (course : Course) (step time : ℕ) (what : What) (rest : List Seen) (later : List ℕ) → AreNumbered course → (is_end what ≡ true → later ≡ [])
    → ends_behind (sessions (course_after course what).running) rest ≡ later
    → ends_behind (sessions course.running) (seen_of funcs base course step time what ++ rest) ≡ ended_by course what ++ later
entry_ends funcs base course step time Sampled rest later numbered last same = same
entry_ends funcs base course step time Dropped rest later numbered last same = same
entry_ends funcs base course step time (Start options) rest later numbered last same =
    ap (λ numbers. ends_behind numbers rest) (started_last course (record { session = suc course.started; port = options.port; interval = options.interval }) refl numbered) ∙ same
entry_ends funcs base course step time (Stop port number) rest later numbered last same =
    ap (λ numbers. number.0 ∷ ends_behind numbers rest) (without-sessions number.0 course.running) ∙ ap (λ numbers. number.0 ∷ numbers) same
entry_ends funcs base course step time (End cause) rest later numbered last same =
    let ended : List ℕ = ended_by course (End cause) in
    sym (append-nil ended) ∙ ap (λ numbers. ended ++ numbers) (sym (last refl))

not_behind_end : (before : List ScheduleEntry) (entry next : ScheduleEntry) → is_end entry.what ≡ true → IsInOrder (before ++ entry ∷ []) next → ⊥
not_behind_end [] entry next ending order = both_ways (is_end entry.what) order.0.going_on ending
not_behind_end (first ∷ before) entry next ending order = not_behind_end before entry next ending order.1

-- nothing follows an end
end_is_last : (schedule : ScheduleParts) (before : List ScheduleEntry) (entry : ScheduleEntry) (entries : List ScheduleEntry) → is_end entry.what ≡ true
    → EachMayFollow schedule (before ++ entry ∷ []) entries → entries ≡ []
end_is_last schedule before entry [] ending each = refl
end_is_last schedule before entry (next ∷ entries) ending each = absurd (not_behind_end before entry next ending each.0.order)

pub ends_on : (funcs : List Func) (schedule : ScheduleParts) (course : Course) (step time : ℕ) (before entries : List ScheduleEntry) → AreNumbered course → EachMayFollow schedule before entries
    → ends_behind (sessions course.running) (seen_behind funcs schedule.base course step time entries) ≡ ended_on course entries
ends_on funcs schedule course step time before [] numbered each = refl
ends_on funcs schedule course step time before (entry ∷ entries) numbered each =
    let after = course_after course entry.what in
    let waits : List Seen = given_up_for course.running funcs time step (entry.step - step) in
    let own : List Seen = seen_of funcs schedule.base course entry.step entry.time entry.what in
    let rest : List Seen = seen_behind funcs schedule.base after entry.step entry.time entries in
    let later = ends_on funcs schedule after entry.step entry.time (before ++ entry ∷ []) entries (numbered_after course entry.what numbered) each.1 in
    ap (ends_behind (sessions course.running)) (append_assoc waits own rest)
    ∙ over_ticks (λ seen. ends_behind (sessions course.running) seen ≡ ended_on course (entry ∷ entries)) (λ tick seen same. same) course.running funcs time step (entry.step - step) (own ++ rest)
    (entry_ends funcs schedule.base course entry.step entry.time entry.what rest (ended_on after entries) numbered
    (λ ending. ap (ended_on after) (end_is_last schedule before entry entries ending each.1))
    later)

-- ---- each session is stopped while it runs

entry_stops : (funcs : List Func) (base : ℕ) (course : Course) (step time : ℕ) (what : What) (rest : List Seen) → AreNumbered course → HasSession course.running what
    → AreStoppedWhileRunning (sessions (course_after course what).running) rest
    → AreStoppedWhileRunning (sessions course.running) (seen_of funcs base course step time what ++ rest)
entry_stops funcs base course step time Sampled rest numbered has later = later
entry_stops funcs base course step time Dropped rest numbered has later = later
entry_stops funcs base course step time (Start options) rest numbered has later =
    subst (λ numbers. AreStoppedWhileRunning numbers rest) (sym (started_last course (record { session = suc course.started; port = options.port; interval = options.interval }) refl numbered)) later
entry_stops funcs base course step time (Stop port number) rest numbered has later = (
  contains_number course.running (record { session = number.0; port = port; interval = has.0 }) has.1,
  subst (λ numbers. AreStoppedWhileRunning numbers rest) (sym (without-sessions number.0 course.running)) later,
)
entry_stops funcs base course step time (End cause) rest numbered has later = tt

pub stops_on : (funcs : List Func) (schedule : ScheduleParts) (course : Course) (step time : ℕ) (before entries : List ScheduleEntry) → course_on none_yet before ≡ course → AreNumbered course
    → EachMayFollow schedule before entries
    → AreStoppedWhileRunning (sessions course.running) (seen_behind funcs schedule.base course step time entries)
stops_on funcs schedule course step time before [] is numbered each = tt
stops_on funcs schedule course step time before (entry ∷ entries) is numbered each =
    let after = course_after course entry.what in
    let waits : List Seen = given_up_for course.running funcs time step (entry.step - step) in
    let own : List Seen = seen_of funcs schedule.base course entry.step entry.time entry.what in
    let rest : List Seen = seen_behind funcs schedule.base after entry.step entry.time entries in
    let then : course_on none_yet (before ++ entry ∷ []) ≡ after = course_on-push none_yet before entry ∙ ap (λ (course : Course). course_after course entry.what) is in
    let later = stops_on funcs schedule after entry.step entry.time (before ++ entry ∷ []) entries then (numbered_after course entry.what numbered) each.1 in
    subst (AreStoppedWhileRunning (sessions course.running)) (sym (append_assoc waits own rest))
    (over_ticks (AreStoppedWhileRunning (sessions course.running)) (λ tick seen holds. holds) course.running funcs time step (entry.step - step) (own ++ rest)
    (entry_stops funcs schedule.base course entry.step entry.time entry.what rest numbered
    (subst (λ (course : Course). HasSession course.running entry.what) is each.0.session)
    later))

-- ---- a run

pub ends-run : (funcs : List Func) (schedule : ScheduleParts) → IsLegalSchedule schedule → ends (seen_run funcs schedule) ≡ ended_on none_yet schedule.entries
ends-run funcs schedule legal = ends_on funcs schedule none_yet 0 0 [] schedule.entries tt legal.each

pub stopped_while_running : (funcs : List Func) (schedule : ScheduleParts) → IsLegalSchedule schedule → AreStoppedWhileRunning [] (seen_run funcs schedule)
stopped_while_running funcs schedule legal = stops_on funcs schedule none_yet 0 0 [] schedule.entries refl tt legal.each
