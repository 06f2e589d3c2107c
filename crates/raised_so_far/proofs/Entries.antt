-- One more entry, or one more step: what is seen of the run so far.
use Rattle.std.proofs.Common.{◌≡◌, ℕ, zero, suc, ◌+◌, ◌-◌, ◌≤◌, List, [], ◌∷◌, ◌++◌, refl, ap, sym, ◌∙◌, arith}
use Rattle.std.proofs.lemmas.List.{append_assoc, append-nil}
use Rattle.std.specs.Prelude.{false, None, if◌then◌else◌}
use Rattle.guest_program.specs.declared.instr.Func.{Func}
use Rattle.code_event.specs.Seen.{Seen}
use Rattle.plain_machine.specs.PlainMachine.{deopts}
use Rattle.run_schedule.specs.Schedule.{Running, none_yet, course_on, running_after}
use Rattle.run_schedule.specs.declared.schedule.ScheduleEntry.{ScheduleEntry}
use Rattle.isolate.proofs.EntriesMore.{seen_behind-push}
use Rattle.isolate.specs.PlainFile.{tick_at, given_up, given_up_for, seen_of, seen_on}
use Rattle.isolate.specs.RunLaws.{step_behind, time_behind, last_step, last_time, given_up_until}
use Rattle.raised_so_far.specs.EntriesSoFar.{seen_so_far}

step_behind-push : (step : ℕ) (entries : List ScheduleEntry) (next : ScheduleEntry) → step_behind step (entries ++ next ∷ []) ≡ next.step
step_behind-push step [] next = refl
step_behind-push step (entry ∷ entries) next = step_behind-push entry.step entries next

time_behind-push : (time : ℕ) (entries : List ScheduleEntry) (next : ScheduleEntry) → time_behind time (entries ++ next ∷ []) ≡ next.time
time_behind-push time [] next = refl
time_behind-push time (entry ∷ entries) next = time_behind-push entry.time entries next

pub last_step-push : (entries : List ScheduleEntry) (next : ScheduleEntry) → last_step (entries ++ next ∷ []) ≡ next.step
last_step-push entries next = step_behind-push 0 entries next

pub last_time-push : (entries : List ScheduleEntry) (next : ScheduleEntry) → last_time (entries ++ next ∷ []) ≡ next.time
last_time-push entries next = time_behind-push 0 entries next

none_for : (running : List Running) (funcs : List Func) (time step : ℕ) → given_up_for running funcs time step 0 ≡ []
none_for [] funcs time step = refl
none_for (first ∷ running) funcs time step = refl

given_up-more : (funcs : List Func) (time step more : ℕ) → given_up funcs time step (suc more) ≡ given_up funcs time step more ++ given_up funcs time (step + more) 1
given_up-more funcs time step zero =
    let e : step ≡ step + 0 = omega arith in
    ap (λ (n : ℕ). given_up funcs time n 1) e
given_up-more funcs time step (suc more) =
    let first : List Seen = if deopts funcs step then tick_at funcs (suc step) time 0 false None ∷ [] else [] in
    let e : suc step + more ≡ step + suc more = omega arith in
    ap (λ (seen : List Seen). first ++ seen) (given_up-more funcs time (suc step) more)
    ∙ sym (append_assoc first (given_up funcs time (suc step) more) (given_up funcs time (suc step + more) 1))
    ∙ ap (λ (n : ℕ). (first ++ given_up funcs time (suc step) more) ++ given_up funcs time n 1) e

more_for : (running : List Running) (funcs : List Func) (time step more : ℕ) → given_up_for running funcs time step (suc more) ≡ given_up_for running funcs time step more ++ given_up_for running funcs time (step + more) 1
more_for [] funcs time step more = refl
more_for (first ∷ running) funcs time step more = given_up-more funcs time step more

-- no deoptimisation is left after an entry at the step reached
pub none_until : (funcs : List Func) (entries : List ScheduleEntry) (entry : ScheduleEntry) (step : ℕ) → entry.step ≡ step → given_up_until funcs (entries ++ entry ∷ []) step ≡ []
none_until funcs entries entry step is =
    let at : last_step (entries ++ entry ∷ []) ≡ entry.step = last_step-push entries entry in
    let none_more : step - last_step (entries ++ entry ∷ []) ≡ 0 = omega (arith, at, is) in
    let running = running_after (entries ++ entry ∷ []) in
    ap (λ (n : ℕ). given_up_for running funcs (last_time (entries ++ entry ∷ [])) (last_step (entries ++ entry ∷ [])) n) none_more
    ∙ none_for running funcs (last_time (entries ++ entry ∷ [])) (last_step (entries ++ entry ∷ []))

-- what an entry at the step reached adds
pub entry_adds : (funcs : List Func) (base : ℕ) (entries : List ScheduleEntry) (step : ℕ) (entry : ScheduleEntry) → entry.step ≡ step
    → seen_so_far funcs base (entries ++ entry ∷ []) step ≡ seen_so_far funcs base entries step ++ seen_of funcs base (course_on none_yet entries) step entry.time entry.what
entry_adds funcs base entries step entry is =
    let course = course_on none_yet entries in
    let before : List Seen = seen_on funcs base entries in
    let own : List Seen = seen_of funcs base course entry.step entry.time entry.what in
    let grown : seen_on funcs base (entries ++ entry ∷ []) ≡ (before ++ given_up_until funcs entries entry.step) ++ own = seen_behind-push funcs base none_yet 0 0 entries entry in
    let nothing = none_until funcs entries entry step is in
    (λ i. grown i ++ nothing i) ∙ append-nil ((before ++ given_up_until funcs entries entry.step) ++ own)
    ∙ ap (λ (n : ℕ). (before ++ given_up_until funcs entries n) ++ seen_of funcs base course n entry.time entry.what) is

-- what a step adds
pub step_adds : (funcs : List Func) (base : ℕ) (entries : List ScheduleEntry) (step : ℕ) → last_step entries ≤ step
    → seen_so_far funcs base entries (suc step) ≡ seen_so_far funcs base entries step ++ given_up_for (running_after entries) funcs (last_time entries) step 1
step_adds funcs base entries step reached =
    let running = running_after entries in
    let last : ℕ = last_step entries in
    let time : ℕ = last_time entries in
    let before : List Seen = seen_on funcs base entries in
    let one_more : suc step - last ≡ suc (step - last) = omega (arith, reached) in
    let here : last + (step - last) ≡ step = omega (arith, reached) in
    ap (λ (n : ℕ). before ++ given_up_for running funcs time last n) one_more
    ∙ ap (λ (seen : List Seen). before ++ seen) (more_for running funcs time last (step - last))
    ∙ ap (λ (n : ℕ). before ++ (given_up_for running funcs time last (step - last) ++ given_up_for running funcs time n 1)) here
    ∙ sym (append_assoc before (given_up_until funcs entries step) (given_up_for running funcs time step 1))
