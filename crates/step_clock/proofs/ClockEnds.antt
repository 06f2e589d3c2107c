-- How a run on the step clock ends.
use Rattle.std.proofs.Common.{◌≡◌, ℕ, suc, ◌-◌, ◌<◌, ◌≤◌, List, [], ◌∷◌, ◌++◌, length, ap, sym, subst, ◌∙◌, inl, inr, take, arith}
use Rattle.std.proofs.lemmas.Bool.Decides.{nat_tests}
use Rattle.std.specs.Prelude.{Bool, true, false, nat_le, Option, Some, None, if◌then◌else◌}
use Rattle.guest_program.specs.declared.instr.Func.{Func}
use Rattle.code_event.specs.declared.event.Options.{Options}
use Rattle.plain_machine.specs.PlainMachine.{plain}
use Rattle.plain_machine.specs.declared.ended.Ended.{Ended}
use Rattle.plain_machine.specs.declared.ended.Ended.TheVariants as ended
use Rattle.isolate.specs.Fits.{IsGoing}
use Rattle.isolate_acts.specs.FitsSoFar.{IsAtStep}
use Rattle.isolate_acts.specs.Phases.{IsDue, closing}
use Rattle.isolate_acts.specs.Progress.{Moment, Progress}
use Rattle.run_schedule.specs.declared.schedule.EndCause.{EndCause}
use Rattle.run_schedule.specs.declared.schedule.EndCause.TheVariants as cause
use Rattle.run_schedule.specs.declared.schedule.ScheduleEntry.{ScheduleEntry}
use Rattle.run_schedule.specs.declared.schedule.What.TheVariants.{End}
use Rattle.step_clock.specs.StepClock.{EndsWithin, IsStepClock, IsWholeRecording, entry_at, entries_before, last_step}
use Rattle.step_clock.proofs.ClockEntries.{fewer_before, first_of_later}
use Rattle.step_clock.proofs.ClockOnce.{either_end, has_end, over_before}
use Rattle.step_clock.proofs.Clock.{within_or_past}

-- an end that is due after a step is one of the step clock
module _ (moment : Moment) (p : Progress) (at : IsAtStep moment.funcs moment p closing) where
  machine_is : (how : Option Ended) → (plain moment.funcs moment.steps).ended ≡ how → (plain moment.funcs p.step).ended ≡ how
  machine_is how is = subst (λ (n : ℕ). (plain moment.funcs n).ended ≡ how) at.steps_are is

  pub due_within : (budget : ℕ) (why : EndCause) → budget ≡ p.schedule.budget → p.step ≤ budget → IsDue moment p why → EndsWithin moment.funcs budget p.step why
  due_within budget cause.Halt same within due = (within, (at.machine, machine_is (Some ended.Halt) due))
  due_within budget cause.Overflow same within due = (within, (at.machine, machine_is (Some ended.Overflow) due))
  due_within budget cause.OffEnd same within due = (within, (at.machine, machine_is (Some ended.OffEnd) due))
  due_within budget cause.Budget same within due = (due.1 ∙ sym same, machine_is None due.0)
  due_within budget cause.Full same within due = absurd due
  due_within budget cause.Memory same within due = absurd due

no_room_needed : (limit size : ℕ) → suc size < limit → nat_le (limit - 1) size ≡ false
no_room_needed limit size room = grind (arith, nat_tests)

all_room_used : (limit size more : ℕ) → suc size ≡ limit → size ≤ more → nat_le (limit - 1) more ≡ true
all_room_used limit size more used fewer = grind (arith, nat_tests)

-- the schedule with this end, where there is room for all
pub ends_on_clock : (funcs : List Func) (every budget limit : ℕ) (options : Options) (step : ℕ) (why : EndCause) (entries : List ScheduleEntry) → IsWholeRecording every options
    → EndsWithin funcs budget step why → suc (length (entries_before options step)) < limit → entries ≡ entries_before options step ++ entry_at step (End why) ∷ []
    → IsStepClock funcs every budget limit entries
ends_on_clock funcs every budget limit options step why entries whole ends room made =
    let before = entries_before options step in
    let end = entry_at step (End why) in
    record {
      options = options;
      recording = whole;
      step = step;
      cause = why;
      ends = ends;
      made =
          made
          ∙ sym (ap (λ (b : Bool). if b then take (limit - 1) before ++ entry_at (last_step (take (limit - 1) before)) (End cause.Full) ∷ [] else before ++ end ∷ []) (no_room_needed limit (length before) room));
    }

-- a run ends after the steps at which its guest goes on below the budget
pub ends_later : (funcs : List Func) (budget step last : ℕ) (why : EndCause) → EndsWithin funcs budget last why → IsGoing funcs step → step < budget → suc step ≤ last
ends_later funcs budget step last why ends going below =
    elim (either_end funcs budget last why ends) [
      | inl itself ↦ elim (within_or_past last step) [
        | inl within ↦ absurd (over_before funcs last step itself.how itself.at.1 within going)
        | inr past ↦ past
      ]
      | inr stopped ↦ omega (arith, stopped.spent, below)
    ]

-- the schedule that is full after this step, with its end
pub full_on_clock : (funcs : List Func) (every budget limit : ℕ) (options : Options) (step : ℕ) (entries : List ScheduleEntry) → IsWholeRecording every options
    → IsGoing funcs step → step < budget → suc (length (entries_before options (suc step))) ≡ limit → last_step (entries_before options (suc step)) ≡ step
    → entries ≡ entries_before options (suc step) ++ entry_at step (End cause.Full) ∷ [] → IsStepClock funcs every budget limit entries
full_on_clock funcs every budget limit options step entries whole going below filled last made =
    let end = has_end funcs budget in
    let later = ends_later funcs budget step end.step end.why end.ends going below in
    let before = entries_before options (suc step) in
    let all = entries_before options end.step in
    let places : limit - 1 ≡ length before = omega (arith, filled) in
    let front : take (limit - 1) all ≡ before = ap (λ (n : ℕ). take n all) places ∙ first_of_later options (suc step) end.step later in
    let used = all_room_used limit (length before) (length all) filled (fewer_before options (suc step) end.step later) in
    record {
      options = options;
      recording = whole;
      step = end.step;
      cause = end.why;
      ends = end.ends;
      made =
          made ∙ ap (λ (n : ℕ). before ++ entry_at n (End cause.Full) ∷ []) (sym last)
          ∙ sym (ap (λ (es : List ScheduleEntry). es ++ entry_at (last_step es) (End cause.Full) ∷ []) front)
          ∙ sym (ap (λ (b : Bool). if b then take (limit - 1) all ++ entry_at (last_step (take (limit - 1) all)) (End cause.Full) ∷ [] else all ++ entry_at end.step (End end.why) ∷ []) used);
    }
