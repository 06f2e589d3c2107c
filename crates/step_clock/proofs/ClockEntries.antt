-- The entries of the step clock, up to a step.
use Rattle.std.proofs.Common.{◌≡◌, ℕ, zero, suc, ◌+◌, ◌^◌, ◌<◌, ◌≤◌, List, [], ◌∷◌, ◌++◌, length, ap, sym, subst, ◌∙◌, inl, inr, take, arith}
use Rattle.std.proofs.Math.Dec.{lit≤}
use Rattle.std.proofs.lemmas.List.{append_assoc, append-nil, length-append, take-append-le, take_all}
use Rattle.std.specs.List.{AllByRecursion}
use Rattle.std.specs.Prelude.{Bool, true, false, not, ◌==◌, if◌then◌else◌}
use Rattle.code_event.specs.declared.event.Options.{Options}
use Rattle.run_schedule.specs.declared.schedule.ScheduleEntry.{ScheduleEntry}
use Rattle.run_schedule.specs.declared.schedule.What.{What}
use Rattle.run_schedule.specs.declared.schedule.What.TheVariants.{Sampled}
use Rattle.run_schedule.specs.Schedule.{running_after}
use Rattle.isolate.specs.RunLaws.{last_time, time_behind}
use Rattle.isolate_acts.specs.Progress.{Progress, entry_now, entry_time, some_runs}
use Rattle.step_clock.specs.StepClock.{entry_at, is_asked, entries_before}
use Rattle.step_clock.proofs.Clock.{IsEarlier, entries_earlier, one_runs, within_or_past}

time_earlier : (moment time : ℕ) (entries : List ScheduleEntry) → time < moment → AllByRecursion (IsEarlier moment) entries → time_behind time entries < moment
time_earlier moment time [] before each = before
time_earlier moment time (entry ∷ entries) before each = time_earlier moment entry.time entries each.0.time each.1

-- the last of the entries before a step is not later than the step
times_before : (options : Options) (step : ℕ) → last_time (entries_before options step) ≤ step
times_before options zero = lit≤ tt
times_before options (suc step) =
    let earlier = time_earlier (suc step) 0 (entries_before options (suc step)) (omega arith) (entries_earlier options (suc step) (suc step) (omega arith) (omega arith)) in
    omega (arith, earlier)

-- the time of an entry where the clock reads the step
pub time_is : (p : Progress) (now : ℕ) → now ≡ p.step → last_time p.schedule.entries ≤ p.step → p.step < 2 ^ 53 → entry_time p now ≡ p.step
time_is p now same last small = omega (arith, same, last, small)

-- so such an entry is one of the clock
pub entry_is : (p : Progress) (now : ℕ) (w : What) → now ≡ p.step → last_time p.schedule.entries ≤ p.step → p.step < 2 ^ 53 → entry_now p now w ≡ entry_at p.step w
entry_is p now w same last small = ap (λ (t : ℕ). record { step = p.step; time = t; what = w }) (time_is p now same last small)

pub last_before : (options : Options) (p : Progress) → p.schedule.entries ≡ entries_before options p.step → last_time p.schedule.entries ≤ p.step
last_before options p entries = subst (λ (es : List ScheduleEntry). last_time es ≤ p.step) (sym entries) (times_before options p.step)

-- while the recording runs, a session runs
pub runs_on : (options : Options) (p : Progress) → p.schedule.entries ≡ entries_before options p.step → some_runs p ≡ true
runs_on options p entries =
    ap (λ (es : List ScheduleEntry). not (length (running_after es) == 0)) entries ∙ ap (λ (n : ℕ). not (n == 0)) (one_runs options p.step)

-- the entries before the next step, where a sample is asked for and where none is
pub sampled_next : (options : Options) (step : ℕ) → is_asked options.interval step ≡ true → entries_before options (suc step) ≡ entries_before options step ++ entry_at step Sampled ∷ []
sampled_next options step asked = ap (λ (b : Bool). entries_before options step ++ (if b then entry_at step Sampled ∷ [] else [])) asked

pub same_next : (options : Options) (step : ℕ) → is_asked options.interval step ≡ false → entries_before options (suc step) ≡ entries_before options step
same_next options step asked = ap (λ (b : Bool). entries_before options step ++ (if b then entry_at step Sampled ∷ [] else [])) asked ∙ append-nil (entries_before options step)

-- the entries before a later step are those before an earlier one, and more
record Grows (options : Options) (step later : ℕ) : Type 0 where
  pub more : List ScheduleEntry
  pub all : entries_before options later ≡ entries_before options step ++ more

grow : (options : Options) (step later : ℕ) → step ≤ later → Grows options step later
grow options step zero within =
    let same : step ≡ 0 = omega (arith, within) in
    record { more = []; all = sym (append-nil (entries_before options step) ∙ ap (entries_before options) same) }
grow options step (suc later) within =
    elim (within_or_past step later) [
      | inl before ↦
          let had = grow options step later before in
          let next : List ScheduleEntry = if is_asked options.interval later then entry_at later Sampled ∷ [] else [] in
          record {
            more = had.more ++ next;
            all = ap (λ (es : List ScheduleEntry). es ++ next) had.all ∙ append_assoc (entries_before options step) had.more next;
          }
      | inr past ↦
          let same : step ≡ suc later = omega (arith, within, past) in
          record { more = []; all = sym (append-nil (entries_before options step) ∙ ap (entries_before options) same) }
    ]

-- those before an earlier step are the first of those before a later one
pub first_of_later : (options : Options) (step later : ℕ) → step ≤ later
    → take (length (entries_before options step)) (entries_before options later) ≡ entries_before options step
first_of_later options step later within =
    let before = entries_before options step in
    let grown = grow options step later within in
    ap (take (length before)) grown.all ∙ take-append-le (length before) before grown.more (omega arith) ∙ take_all (length before) before (omega arith)

pub fewer_before : (options : Options) (step later : ℕ) → step ≤ later → length (entries_before options step) ≤ length (entries_before options later)
fewer_before options step later within =
    let grown = grow options step later within in
    let all : length (entries_before options later) ≡ length (entries_before options step) + length grown.more = ap length grown.all ∙ length-append (entries_before options step) grown.more in
    omega (arith, all)
