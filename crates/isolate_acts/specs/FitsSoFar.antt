-- That the program reaches each entry of the schedule so far.
use Rattle.std.specs.Prelude.{◌≡◌, ℕ, ◌-◌, List, [], Bool, None}
use Rattle.guest_program.specs.declared.instr.Func.{Func}
use Rattle.isolate.specs.Fits.{Fits, IsGoing}
use Rattle.isolate_acts.specs.Acts.{Act, act_after, moment_after, moment_on, progress_on}
use Rattle.isolate_acts.specs.Phases.{Phase, closing, first_phase, MayAct, LeadTo, IsOver}
use Rattle.isolate_acts.specs.Progress.{Moment, Progress}
use Rattle.isolate_acts.specs.Sampling.{after_sample}

-- After this many steps the machine has not ended. Where the guest's step has just been done, it had not ended before that step.
abbrev pub HasNotEnded : List Func → ℕ → Phase → Type 0
HasNotEnded funcs step closing = IsGoing funcs (step - 1)
HasNotEnded funcs step other = IsGoing funcs step

-- the guest runs this program and has done the steps that are reached
pub record IsAtStep (funcs : List Func) (moment : Moment) (p : Progress) (phase : Phase) : Type 0 where
  pub funcs_are : moment.funcs ≡ funcs
  pub steps_are : moment.steps ≡ p.step
  pub machine : HasNotEnded funcs p.step phase

-- The program reaches each entry so far. While the isolate goes on, the guest is at the step that is reached.
pub record FitsSoFar (funcs : List Func) (moment : Moment) (p : Progress) (phase : Phase) : Type 0 where
  pub each : Fits funcs p.schedule
  pub going : p.ending ≡ None → IsAtStep funcs moment p phase

-- an act that may come enters only what the program reaches
abbrev pub ActsFit : Type 0
ActsFit =
    (funcs : List Func) (moment : Moment) (p : Progress) (phase next : Phase) (act : Act) → FitsSoFar funcs moment p phase → MayAct moment p phase act next
    → FitsSoFar funcs (moment_after moment act) (act_after moment p act) next

-- so does a run of acts
abbrev pub RunsFit : Type 0
RunsFit =
    (funcs : List Func) (moment : Moment) (p : Progress) (phase last : Phase) (acts : List Act) → FitsSoFar funcs moment p phase → LeadTo moment p phase acts last
    → FitsSoFar funcs (moment_on moment acts) (progress_on moment p acts) last

-- a schedule with no entries fits before the first step
abbrev pub NewSchedulesFit : Type 0
NewSchedulesFit =
    (moment : Moment) (p : Progress) → p.schedule.entries ≡ [] → p.step ≡ 0 → moment.steps ≡ 0 → FitsSoFar moment.funcs moment p (first_phase p)

-- a turn that begins with a schedule that fits leaves one that fits where the next begins
abbrev pub TurnsFit : Type 0
TurnsFit =
    (funcs : List Func) (moment : Moment) (p : Progress) (last : Phase) (acts : List Act) → FitsSoFar funcs moment p (first_phase p) → LeadTo moment p (first_phase p) acts last
    → IsOver (moment_on moment acts) (progress_on moment p acts) last
    → FitsSoFar funcs (moment_on moment acts) (progress_on moment p acts) (first_phase (progress_on moment p acts))

-- so does a sample that is taken between turns
abbrev pub SamplesBetweenTurnsFit : Type 0
SamplesBetweenTurnsFit =
    (funcs : List Func) (moment : Moment) (p : Progress) (now : ℕ) (is_in : Bool) → FitsSoFar funcs moment p (first_phase p) → p.ending ≡ None
    → FitsSoFar funcs moment (after_sample p now is_in) (first_phase (after_sample p now is_in))
