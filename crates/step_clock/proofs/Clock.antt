-- That the schedule of the step clock keeps the rules, and that the program reaches its entries.
use Rattle.std.proofs.Common.{◌≡◌, ℕ, zero, suc, ◌-◌, ◌<◌, ◌≤◌, List, [], ◌∷◌, ◌++◌, length, refl, ap, sym, subst, ◌∙◌, ◌⊎◌, inl, inr, take, lit<, lit≤, arith}
use Rattle.std.proofs.lemmas.Bool.{cond_both, leb-true}
use Rattle.std.proofs.lemmas.Bool.Decides.{nat_tests}
use Rattle.std.proofs.lemmas.List.{append_assoc, append-nil, length-append, take-append-le, take_all}
use Rattle.std.specs.Prelude.{Bool, true, false, ◌||◌, nat_le, if◌then◌else◌}
use Rattle.std.specs.List.{AllByRecursion}
use Rattle.guest_program.specs.declared.instr.Func.{Func}
use Rattle.code_event.proofs.EachElement.{all_mapped, all_pushed}
use Rattle.code_event.specs.declared.event.Options.{Options}
use Rattle.isolate.proofs.Going.{going_before, may_come}
use Rattle.isolate.specs.Fits.{IsGoing, MayEndFor, MayComeAbout, Fits}
use Rattle.run_schedule.specs.Schedule.{Course, course_after, course_on, running_after, is_end, MayStandBehind, IsInOrder, IsEndWithin, MayFollow, EachMayFollow, IsAtLastStep, has_end, IsLegalSchedule, none_yet}
use Rattle.run_schedule.specs.ScheduleParts.{ScheduleParts}
use Rattle.run_schedule.specs.declared.schedule.EndCause.{EndCause}
use Rattle.run_schedule.specs.declared.schedule.EndCause.TheVariants as cause
use Rattle.run_schedule.specs.declared.schedule.What.{What}
use Rattle.run_schedule.specs.declared.schedule.What.TheVariants.{Sampled, Start, End}
use Rattle.run_schedule.specs.declared.schedule.ScheduleEntry.{ScheduleEntry}
use Rattle.step_clock.specs.ClockLaws.{ClocksAreLegal, ClocksFit}
use Rattle.step_clock.specs.StepClock.{entry_at, is_asked, samples_before, entries_before, last_step, EndsWithin}

-- not an end, and at an earlier step and time
pub record IsEarlier (moment : ℕ) (entry : ScheduleEntry) : Type 0 where
  pub step : entry.step < moment
  pub time : entry.time < moment
  pub no_end : is_end entry.what ≡ false

earlier_still : (step : ℕ) (entry : ScheduleEntry) → IsEarlier step entry → IsEarlier (suc step) entry
earlier_still step entry is = record { step = omega (arith, is.step); time = omega (arith, is.time); no_end = is.no_end }

samples_earlier : (every step : ℕ) → AllByRecursion (IsEarlier step) (samples_before every step)
samples_earlier every zero = tt
samples_earlier every (suc step) =
    let before : AllByRecursion (IsEarlier (suc step)) (samples_before every step) =
    all_mapped (IsEarlier step) (IsEarlier (suc step)) (samples_before every step) (earlier_still step) (samples_earlier every step) in
    cond_both (is_asked every step) (entry_at step Sampled ∷ []) [] (λ more. AllByRecursion (IsEarlier (suc step)) (samples_before every step ++ more))
    (λ asked. all_pushed (IsEarlier (suc step)) (samples_before every step) (entry_at step Sampled) before (record { step = omega arith; time = omega arith; no_end = refl }))
    (λ not. subst (AllByRecursion (IsEarlier (suc step))) (sym (append-nil (samples_before every step))) before)

pub entries_earlier : (options : Options) (step moment : ℕ) → step ≤ moment → 1 ≤ moment → AllByRecursion (IsEarlier moment) (entries_before options step)
entries_earlier options step moment within some = (
  record { step = some; time = some; no_end = refl },
  all_mapped (IsEarlier step) (IsEarlier moment) (samples_before options.interval step)
      (λ entry is. record { step = omega (arith, is.step); time = omega (arith, is.time); no_end = is.no_end })
      (samples_earlier options.interval step),
)

-- an entry is in order after entries that are all earlier
in_order : (step : ℕ) (what : What) (entries : List ScheduleEntry) → AllByRecursion (IsEarlier step) entries → IsInOrder entries (entry_at step what)
in_order step what entries earlier =
    all_mapped (IsEarlier step) (MayStandBehind (entry_at step what)) entries
    (λ entry is. record {
      step = omega (arith, is.step);
      time = omega (arith, is.time);
      going_on = is.no_end;
      one_sample = λ same sample. absurd (omega (arith, is.step, same));
      ports = λ before later same of there. absurd (omega (arith, is.step, same));
    })
    earlier

pub course_on_more : (course : Course) (entries more : List ScheduleEntry) → course_on course (entries ++ more) ≡ course_on (course_on course entries) more
course_on_more course [] more = refl
course_on_more course (entry ∷ entries) more = course_on_more (course_after course entry.what) entries more

-- samples change no session
pub samples_start_none : (every step : ℕ) (course : Course) → course_on course (samples_before every step) ≡ course
samples_start_none every zero course = refl
samples_start_none every (suc step) course =
    cond_both (is_asked every step) (entry_at step Sampled ∷ []) [] (λ more. course_on course (samples_before every step ++ more) ≡ course)
    (λ asked. course_on_more course (samples_before every step) (entry_at step Sampled ∷ []) ∙ samples_start_none every step course)
    (λ not. course_on_more course (samples_before every step) [] ∙ samples_start_none every step course)

-- one session runs
pub one_runs : (options : Options) (step : ℕ) → length (running_after (entries_before options step)) ≡ 1
one_runs options step =
    let course = course_after none_yet (Start options) in
    ap (λ (c : Course). length c.running) (samples_start_none options.interval step course)

-- one more entry
follows_more : (schedule : ScheduleParts) (before entries : List ScheduleEntry) (entry : ScheduleEntry) → EachMayFollow schedule before entries → MayFollow schedule (before ++ entries) entry → EachMayFollow schedule before (entries ++ entry ∷ [])
follows_more schedule before [] entry each may = (subst (λ list. MayFollow schedule list entry) (append-nil before) may, tt)
follows_more schedule before (first ∷ entries) entry each may =
    (each.0, follows_more schedule (before ++ first ∷ []) entries entry each.1 (subst (λ list. MayFollow schedule list entry) (sym (append_assoc before (first ∷ []) entries)) may))

or_true : (a b : Bool) → b ≡ true → (a || b) ≡ true
or_true true b e = refl
or_true false b e = e

ends_so : (entries : List ScheduleEntry) (step : ℕ) (cause : EndCause) → has_end (entries ++ entry_at step (End cause) ∷ []) ≡ true
ends_so [] step cause = refl
ends_so (entry ∷ entries) step cause = or_true (is_end entry.what) (has_end (entries ++ entry_at step (End cause) ∷ [])) (ends_so entries step cause)

pub pushed_length : {X : Type 0} (xs : List X) (x : X) → length (xs ++ x ∷ []) ≡ suc (length xs)
pushed_length xs x = omega (arith, length-append xs (x ∷ []))

asked_late : (every step : ℕ) → is_asked every step ≡ true → 1 ≤ step
asked_late every zero asked = absurd (cc asked)
asked_late every (suc step) asked = omega arith

start_may_follow : (schedule : ScheduleParts) (options : Options) → 2 ≤ schedule.limit → 1 ≤ schedule.budget → MayFollow schedule [] (entry_at 0 (Start options))
start_may_follow schedule options places steps = record { order = tt; session = lit< tt; limit = (omega (arith, places), omega (arith, steps)) }

sample_may_follow : (schedule : ScheduleParts) (options : Options) (step : ℕ) → 1 ≤ step → suc (length (entries_before options step)) < schedule.limit → step < schedule.budget → MayFollow schedule (entries_before options step) (entry_at step Sampled)
sample_may_follow schedule options step some places steps = record {
  order = in_order step Sampled (entries_before options step) (entries_earlier options step step (omega arith) some);
  session = omega (arith, one_runs options step);
  limit = (places, steps);
}

each_follows : (schedule : ScheduleParts) (options : Options) (step : ℕ) → 1 ≤ schedule.budget → step ≤ schedule.budget → length (entries_before options step) < schedule.limit → EachMayFollow schedule [] (entries_before options step)
each_follows schedule options zero some steps places = (start_may_follow schedule options (omega (arith, places)) some, tt)
each_follows schedule options (suc step) some steps places =
    let before = entries_before options step in
    let every = options.interval in
    let shorter : (more : List ScheduleEntry) → length (before ++ more) < schedule.limit → length before < schedule.limit = λ more fits. omega (arith, length-append before more) in
    let each : length before < schedule.limit → EachMayFollow schedule [] before = each_follows schedule options step some (omega (arith, steps)) in
    cond_both (is_asked every step) (entry_at step Sampled ∷ []) [] (λ more. length (before ++ more) < schedule.limit → EachMayFollow schedule [] (before ++ more))
    (λ asked fits. follows_more schedule [] before (entry_at step Sampled) (each (shorter (entry_at step Sampled ∷ []) fits))
    (sample_may_follow schedule options step (asked_late every step asked) (omega (arith, pushed_length before (entry_at step Sampled), fits)) (omega (arith, steps))))
    (λ not fits. subst (EachMayFollow schedule []) (sym (append-nil before)) (each (shorter [] fits)))
    places

-- an end of the guest, or of the budget, is within the limits
end_within : (funcs : List Func) (schedule : ScheduleParts) (before : List ScheduleEntry) (step : ℕ) (cause : EndCause) → suc (length before) < schedule.limit → EndsWithin funcs schedule.budget step cause → IsEndWithin schedule before (suc (length before)) step cause
end_within funcs schedule before step cause.Halt places ends = (places, ends.0)
end_within funcs schedule before step cause.Overflow places ends = (places, ends.0)
end_within funcs schedule before step cause.OffEnd places ends = (places, ends.0)
end_within funcs schedule before step cause.Budget places ends = (places, ends.0)
end_within funcs schedule before step cause.Full places ends = absurd ends
end_within funcs schedule before step cause.Memory places ends = absurd ends

-- the guest does not end before its first step
end_some : (funcs : List Func) (budget step : ℕ) (cause : EndCause) → 1 ≤ budget → EndsWithin funcs budget step cause → 1 ≤ step
end_some funcs budget zero cause.Halt some ends = absurd (cc ends.1.1)
end_some funcs budget zero cause.Overflow some ends = absurd (cc ends.1.1)
end_some funcs budget zero cause.OffEnd some ends = absurd (cc ends.1.1)
end_some funcs budget zero cause.Budget some ends = absurd (omega (arith, some, ends.0))
end_some funcs budget zero cause.Full some ends = absurd ends
end_some funcs budget zero cause.Memory some ends = absurd ends
end_some funcs budget (suc step) cause some ends = omega arith

steps_within : (funcs : List Func) (budget step : ℕ) (cause : EndCause) → EndsWithin funcs budget step cause → step ≤ budget
steps_within funcs budget step cause.Halt ends = ends.0
steps_within funcs budget step cause.Overflow ends = ends.0
steps_within funcs budget step cause.OffEnd ends = ends.0
steps_within funcs budget step cause.Budget ends = omega (arith, ends.0)
steps_within funcs budget step cause.Full ends = absurd ends
steps_within funcs budget step cause.Memory ends = absurd ends

-- where there is room for all, the schedule keeps the rules
clock_is_legal : (funcs : List Func) (schedule : ScheduleParts) (options : Options) (step : ℕ) (cause : EndCause) → 1 ≤ schedule.budget
    → EndsWithin funcs schedule.budget step cause → suc (length (entries_before options step)) < schedule.limit
    → schedule.entries ≡ entries_before options step ++ entry_at step (End cause) ∷ [] → IsLegalSchedule schedule
clock_is_legal funcs schedule options step cause some ends places made =
    let before = entries_before options step in
    let end = entry_at step (End cause) in
    let late : 1 ≤ step = end_some funcs schedule.budget step cause some ends in
    let each : EachMayFollow schedule [] (before ++ end ∷ []) =
    follows_more schedule [] before end (each_follows schedule options step some (steps_within funcs schedule.budget step cause ends) (omega (arith, places)))
    (record { order = in_order step (End cause) before (entries_earlier options step step (omega arith) late); session = tt; limit = end_within funcs schedule before step cause places ends }) in
    record { each = subst (EachMayFollow schedule []) (sym made) each; ended = ap has_end made ∙ ends_so before step cause }

going_so_far : (funcs : List Func) (budget step : ℕ) (cause : EndCause) → EndsWithin funcs budget step cause → IsGoing funcs (step - 1)
going_so_far funcs budget step cause.Halt ends = ends.1.0
going_so_far funcs budget step cause.Overflow ends = ends.1.0
going_so_far funcs budget step cause.OffEnd ends = ends.1.0
going_so_far funcs budget step cause.Budget ends = going_before funcs (step - 1) step (omega arith) ends.1
going_so_far funcs budget step cause.Full ends = absurd ends
going_so_far funcs budget step cause.Memory ends = absurd ends

may_end : (funcs : List Func) (budget step : ℕ) (cause : EndCause) → EndsWithin funcs budget step cause → MayEndFor funcs step cause
may_end funcs budget step cause.Halt ends = ends.1
may_end funcs budget step cause.Overflow ends = ends.1
may_end funcs budget step cause.OffEnd ends = ends.1
may_end funcs budget step cause.Budget ends = ends.1
may_end funcs budget step cause.Full ends = absurd ends
may_end funcs budget step cause.Memory ends = absurd ends

-- the program reaches the entry
abbrev Came : List Func → ScheduleEntry → Type 0
Came funcs entry = MayComeAbout funcs entry.step entry.what

-- the program reaches all that happens before a step up to its end
all_came : (funcs : List Func) (budget : ℕ) (options : Options) (at step : ℕ) (cause : EndCause) → at ≤ step → 1 ≤ step
    → EndsWithin funcs budget step cause → AllByRecursion (Came funcs) (entries_before options at)
all_came funcs budget options at step cause within late ends =
    all_mapped (IsEarlier step) (Came funcs) (entries_before options at)
    (λ entry is. may_come funcs entry.step entry.what is.no_end (going_before funcs entry.step (step - 1) (omega (arith, is.step)) (going_so_far funcs budget step cause ends)))
    (entries_earlier options at step within late)

clock_fits : (funcs : List Func) (schedule : ScheduleParts) (options : Options) (step : ℕ) (cause : EndCause) → 1 ≤ schedule.budget
    → EndsWithin funcs schedule.budget step cause
    → schedule.entries ≡ entries_before options step ++ entry_at step (End cause) ∷ [] → Fits funcs schedule
clock_fits funcs schedule options step cause some ends made =
    let before = entries_before options step in
    let late : 1 ≤ step = end_some funcs schedule.budget step cause some ends in
    subst (AllByRecursion (Came funcs)) (sym made)
    (all_pushed (Came funcs) before (entry_at step (End cause)) (all_came funcs schedule.budget options step step cause (omega arith) late ends) (may_end funcs schedule.budget step cause ends))

roomy : (limit size : ℕ) → nat_le (limit - 1) size ≡ false → suc size < limit
roomy limit size room = grind (arith, nat_tests)

-- the first `places` entries are what happens before some step
record IsCut (options : Options) (step places : ℕ) : Type 0 where
  pub at : ℕ
  pub within : at ≤ step
  pub front : take places (entries_before options step) ≡ entries_before options at
  pub size : length (entries_before options at) ≡ places

pub within_or_past : (m n : ℕ) → (m ≤ n) ⊎ (n < m)
within_or_past m n = grind arith

pub few_more : (every step : ℕ) → length (if is_asked every step then entry_at step Sampled ∷ [] else []) ≤ 1
few_more every step = cond_both (is_asked every step) (entry_at step Sampled ∷ []) [] (λ more. length more ≤ 1) (λ asked. lit≤ tt) (λ not. lit≤ tt)

cut_at : (options : Options) (step places : ℕ) → 1 ≤ places → places ≤ length (entries_before options step) → IsCut options step places
cut_at options zero places some fits =
    let one : places ≡ 1 = omega arith in
    record { at = 0; within = lit≤ tt; front = ap (λ n. take n (entries_before options 0)) one; size = sym one }
cut_at options (suc step) places some fits =
    let before = entries_before options step in
    let more : List ScheduleEntry = if is_asked options.interval step then entry_at step Sampled ∷ [] else [] in
    elim (within_or_past places (length before)) [
      | inl fits_before ↦ let cut = cut_at options step places some fits_before in
          record { at = cut.at; within = omega (arith, cut.within); front = take-append-le places before more fits_before ∙ cut.front; size = cut.size }
      | inr past ↦ let all : length (before ++ more) ≡ places = omega (arith, length-append before more, few_more options.interval step, fits, past) in
          record { at = suc step; within = omega arith; front = take_all places (before ++ more) (omega (arith, all)); size = all }
    ]

-- not an end, and at this moment or before it
record IsUpTo (moment : ℕ) (entry : ScheduleEntry) : Type 0 where
  pub step : entry.step ≤ moment
  pub time : entry.time ≤ moment
  pub no_end : is_end entry.what ≡ false

pub last_pushed : (entries : List ScheduleEntry) (entry : ScheduleEntry) → last_step (entries ++ entry ∷ []) ≡ entry.step
last_pushed [] entry = refl
last_pushed (first ∷ []) entry = refl
last_pushed (first ∷ next ∷ entries) entry = last_pushed (next ∷ entries) entry

-- the last entry is the latest
up_to_last : (options : Options) (step : ℕ) → AllByRecursion (IsUpTo (last_step (entries_before options step))) (entries_before options step)
up_to_last options zero = (record { step = lit≤ tt; time = lit≤ tt; no_end = refl }, tt)
up_to_last options (suc step) =
    let before = entries_before options step in
    let sample = entry_at step Sampled in
    cond_both (is_asked options.interval step) (sample ∷ []) [] (λ more. AllByRecursion (IsUpTo (last_step (before ++ more))) (before ++ more))
    (λ asked. subst (λ moment. AllByRecursion (IsUpTo moment) (before ++ sample ∷ [])) (sym (last_pushed before sample))
    (all_pushed (IsUpTo step) before sample
    (all_mapped (IsEarlier step) (IsUpTo step) before (λ entry is. record { step = omega (arith, is.step); time = omega (arith, is.time); no_end = is.no_end })
    (entries_earlier options step step (omega arith) (asked_late options.interval step asked)))
    (record { step = omega arith; time = omega arith; no_end = refl })))
    (λ not. subst (λ list. AllByRecursion (IsUpTo (last_step list)) list) (sym (append-nil before)) (up_to_last options step))

at_last : (entries : List ScheduleEntry) → IsAtLastStep entries (last_step entries)
at_last [] = tt
at_last (entry ∷ []) = refl
at_last (entry ∷ next ∷ entries) = at_last (next ∷ entries)

last_earlier : (moment : ℕ) (entry : ScheduleEntry) (entries : List ScheduleEntry) → AllByRecursion (IsEarlier moment) (entry ∷ entries) → last_step (entry ∷ entries) < moment
last_earlier moment entry [] earlier = earlier.0.step
last_earlier moment entry (next ∷ entries) earlier = last_earlier moment next entries earlier.1

full_may_follow : (schedule : ScheduleParts) (options : Options) (step : ℕ) → suc (length (entries_before options step)) ≡ schedule.limit → last_step (entries_before options step) ≤ schedule.budget
    → MayFollow schedule (entries_before options step) (entry_at (last_step (entries_before options step)) (End cause.Full))
full_may_follow schedule options step places steps =
    let before = entries_before options step in
    let last = last_step before in
    record {
      order = all_mapped (IsUpTo last) (MayStandBehind (entry_at last (End cause.Full))) before
          (λ entry is. record { step = is.step; time = is.time; going_on = is.no_end; one_sample = λ same sample. refl; ports = λ earlier later same of none. absurd (cc none) })
          (up_to_last options step);
      session = tt;
      limit = (places, at_last before, steps);
    }

-- a schedule that is full, up to the step at which it becomes full
record IsFull (schedule : ScheduleParts) (options : Options) (step : ℕ) : Type 0 where
  pub cut : IsCut options step (schedule.limit - 1)
  pub made : schedule.entries ≡ entries_before options cut.at ++ entry_at (last_step (entries_before options cut.at)) (End cause.Full) ∷ []

full_of : (schedule : ScheduleParts) (options : Options) (step : ℕ) → 2 ≤ schedule.limit → schedule.limit - 1 ≤ length (entries_before options step)
    → schedule.entries ≡ take (schedule.limit - 1) (entries_before options step) ++ entry_at (last_step (take (schedule.limit - 1) (entries_before options step))) (End cause.Full) ∷ []
    → IsFull schedule options step
full_of schedule options step places fits made =
    let cut = cut_at options step (schedule.limit - 1) (omega (arith, places)) fits in
    record { cut = cut; made = made ∙ ap (λ (front : List ScheduleEntry). front ++ entry_at (last_step front) (End cause.Full) ∷ []) cut.front }

last_within : (options : Options) (step moment : ℕ) → step ≤ moment → 1 ≤ moment → last_step (entries_before options step) < moment
last_within options step moment within some =
    last_earlier moment (entry_at 0 (Start options)) (samples_before options.interval step) (entries_earlier options step moment within some)

full_is_legal : (funcs : List Func) (schedule : ScheduleParts) (options : Options) (step : ℕ) (own : EndCause) → 1 ≤ schedule.budget → 2 ≤ schedule.limit
    → EndsWithin funcs schedule.budget step own → IsFull schedule options step → IsLegalSchedule schedule
full_is_legal funcs schedule options step own some places ends full =
    let at = full.cut.at in
    let before = entries_before options at in
    let end = entry_at (last_step before) (End cause.Full) in
    let within : step ≤ schedule.budget = steps_within funcs schedule.budget step own ends in
    let last : last_step before < step = last_within options at step full.cut.within (end_some funcs schedule.budget step own some ends) in
    let each : EachMayFollow schedule [] (before ++ end ∷ []) =
    follows_more schedule [] before end (each_follows schedule options at some (omega (arith, full.cut.within, within)) (omega (arith, full.cut.size, places)))
    (full_may_follow schedule options at (omega (arith, full.cut.size, places)) (omega (arith, last, within))) in
    record { each = subst (EachMayFollow schedule []) (sym full.made) each; ended = ap has_end full.made ∙ ends_so before (last_step before) cause.Full }

pub clocks_are_legal : ClocksAreLegal
clocks_are_legal funcs every schedule some places clock =
    let before = entries_before clock.options clock.step in
    let end = entry_at clock.step (End clock.cause) in
    let last = schedule.limit - 1 in
    cond_both (nat_le last (length before)) (take last before ++ entry_at (last_step (take last before)) (End cause.Full) ∷ []) (before ++ end ∷ []) (λ made. schedule.entries ≡ made → IsLegalSchedule schedule)
    (λ full made. full_is_legal funcs schedule clock.options clock.step clock.cause some places clock.ends (full_of schedule clock.options clock.step places (leb-true last (length before) full) made))
    (λ room made. clock_is_legal funcs schedule clock.options clock.step clock.cause some clock.ends (roomy schedule.limit (length before) room) made)
    clock.made

full_fits : (funcs : List Func) (schedule : ScheduleParts) (options : Options) (step : ℕ) (own : EndCause) → 1 ≤ schedule.budget
    → EndsWithin funcs schedule.budget step own → IsFull schedule options step → Fits funcs schedule
full_fits funcs schedule options step own some ends full =
    let at = full.cut.at in
    let before = entries_before options at in
    let late : 1 ≤ step = end_some funcs schedule.budget step own some ends in
    let last : last_step before < step = last_within options at step full.cut.within late in
    let going : IsGoing funcs (last_step before) = going_before funcs (last_step before) (step - 1) (omega (arith, last)) (going_so_far funcs schedule.budget step own ends) in
    subst (AllByRecursion (Came funcs)) (sym full.made)
    (all_pushed (Came funcs) before (entry_at (last_step before) (End cause.Full)) (all_came funcs schedule.budget options at step own full.cut.within late ends) going)

pub clocks_fit : ClocksFit
clocks_fit funcs every schedule some places clock =
    let before = entries_before clock.options clock.step in
    let end = entry_at clock.step (End clock.cause) in
    let last = schedule.limit - 1 in
    cond_both (nat_le last (length before)) (take last before ++ entry_at (last_step (take last before)) (End cause.Full) ∷ []) (before ++ end ∷ []) (λ made. schedule.entries ≡ made → Fits funcs schedule)
    (λ full made. full_fits funcs schedule clock.options clock.step clock.cause some clock.ends (full_of schedule clock.options clock.step places (leb-true last (length before) full) made))
    (λ room made. clock_fits funcs schedule clock.options clock.step clock.cause some clock.ends made)
    clock.made
