-- That the schedule so far keeps the rules of schedules.
use Rattle.std.specs.Prelude.{◌≡◌, ℕ, ◌^◌, ◌<◌, ◌≤◌, List, [], ◌∷◌, count_by, Bool, true, false, Some, None}
use Rattle.std.specs.List.{AllByRecursion}
use Rattle.run_schedule.specs.Schedule.{is_sample, is_sampled, is_end, has_end, EachMayFollow, IsAtLastStep, IsLegalSchedule}
use Rattle.run_schedule.specs.ScheduleParts.{port_of}
use Rattle.run_schedule.specs.declared.schedule.What.{What}
use Rattle.isolate.specs.RunLaws.{last_time}
use Rattle.isolate_acts.specs.Acts.{Act, samples, act_after, moment_after, moment_on, progress_on}
use Rattle.isolate_acts.specs.Phases.{Phase, at_port, asking, sampling, closing, must_end, over, first_phase, HasRoom, MayAct, LeadTo, IsOver}
use Rattle.isolate_acts.specs.Progress.{Moment, Progress, IsWithin, is_filled, some_runs}
use Rattle.isolate_acts.specs.Sampling.{after_sample}

-- What may have been entered at the step that is reached, by where the turn is. At a port there is no sample and no command of a later port, and before a sample there is no other. After the guest's step nothing has been entered.
abbrev pub MayStandAt : Phase → What → Type 0
MayStandAt (at_port port commands) what = (is_sample what ≡ false) × ((from : ℕ) → port_of what ≡ Some from → from ≤ port)
MayStandAt asking what = is_sample what ≡ false
MayStandAt sampling what = is_sample what ≡ false
MayStandAt closing what = ⊥
MayStandAt (must_end later) what = MayStandAt later what
MayStandAt other what = Unit {0}

-- What holds where a turn is. There is room for an entry and for the end, unless the end must come: then the last entry is at this step where one place is left. The steps are below the budget, or have just reached it. A sample is taken only where a session runs, and after the guest's step none has been entered.
abbrev pub IsInPhase : Progress → Phase → Type 0
IsInPhase p (must_end later) = (is_filled p ≡ true → IsAtLastStep p.schedule.entries p.step) × (p.step < p.schedule.budget)
IsInPhase p sampling = HasRoom p × (p.step < p.schedule.budget) × (some_runs p ≡ true)
IsInPhase p closing = HasRoom p × (p.step ≤ p.schedule.budget) × (p.is_sampled ≡ false)
IsInPhase p over = HasRoom p × (p.step ≤ p.schedule.budget)
IsInPhase p other = HasRoom p × (p.step < p.schedule.budget)

-- While the isolate goes on: no entry is an end, at a later step than is reached, or at a later time than the last. What was entered at the step that is reached may stand here, and the last time is in its range.
pub record IsGoingWell (p : Progress) (phase : Phase) : Type 0 where
  pub each : AllByRecursion (λ e. (is_end e.what ≡ false) × (e.step ≤ p.step) × (e.time ≤ last_time p.schedule.entries)) p.schedule.entries
  pub here : AllByRecursion (λ e. e.step ≡ p.step → MayStandAt phase e.what) p.schedule.entries
  pub phase_is : IsInPhase p phase
  pub time : last_time p.schedule.entries < 2 ^ 53

-- Each entry so far keeps the rules Order, Session and Limit after those before it. Where the isolate has ended, the schedule has its end.
pub record KeepsRules (p : Progress) (phase : Phase) : Type 0 where
  pub rules : EachMayFollow p.schedule [] p.schedule.entries
  pub going : p.ending ≡ None → IsGoingWell p phase
  pub ended : ¬ (p.ending ≡ None) → has_end p.schedule.entries ≡ true

-- where a sample is dropped, at least as many were taken before it as the ring has places
abbrev pub IsLateDrop : Progress → Bool → Type 0
IsLateDrop p true = Unit {0}
IsLateDrop p false = p.schedule.ring ≤ count_by (λ e. is_sampled e.what) p.schedule.entries

-- the same of an act
abbrev pub DropsLate : Progress → Act → Type 0
DropsLate p (samples now is_in) = IsLateDrop p is_in
DropsLate p other = Unit {0}

-- the same of each act of a run
abbrev pub EachDropsLate : Moment → Progress → List Act → Type 0
EachDropsLate moment p [] = Unit {0}
EachDropsLate moment p (act ∷ acts) = DropsLate p act × EachDropsLate (moment_after moment act) (act_after moment p act) acts

-- an act that may come keeps the rules
abbrev pub ActsKeepRules : Type 0
ActsKeepRules =
    (moment : Moment) (p : Progress) (phase next : Phase) (act : Act) → KeepsRules p phase → MayAct moment p phase act next → DropsLate p act
    → KeepsRules (act_after moment p act) next

-- so does a run of acts
abbrev pub RunsKeepRules : Type 0
RunsKeepRules =
    (moment : Moment) (p : Progress) (phase last : Phase) (acts : List Act) → KeepsRules p phase → LeadTo moment p phase acts last → EachDropsLate moment p acts
    → KeepsRules (progress_on moment p acts) last

-- after the end the schedule is legal
abbrev pub EndedSchedulesAreLegal : Type 0
EndedSchedulesAreLegal = (p : Progress) (phase : Phase) → KeepsRules p phase → ¬ (p.ending ≡ None) → IsLegalSchedule p.schedule

-- a schedule with no entries keeps the rules before the first turn
abbrev pub NewSchedulesKeepRules : Type 0
NewSchedulesKeepRules =
    (p : Progress) → IsWithin p → p.schedule.entries ≡ [] → p.step ≡ 0 → p.ending ≡ None → p.is_sampled ≡ false → KeepsRules p (first_phase p)

-- a turn that begins where the rules are kept leaves them kept where the next begins
abbrev pub TurnsKeepRules : Type 0
TurnsKeepRules =
    (moment : Moment) (p : Progress) (last : Phase) (acts : List Act) → KeepsRules p (first_phase p) → LeadTo moment p (first_phase p) acts last → EachDropsLate moment p acts
    → IsOver (moment_on moment acts) (progress_on moment p acts) last
    → KeepsRules (progress_on moment p acts) (first_phase (progress_on moment p acts))

-- so does a sample that is taken between turns, while a session runs, where none was entered at this step
abbrev pub SamplesBetweenTurnsKeepRules : Type 0
SamplesBetweenTurnsKeepRules =
    (p : Progress) (now : ℕ) (is_in : Bool) → KeepsRules p (first_phase p) → p.ending ≡ None → p.is_sampled ≡ false → some_runs p ≡ true → IsLateDrop p is_in
    → KeepsRules (after_sample p now is_in) (first_phase (after_sample p now is_in))
