-- The steps of a turn.
use Rattle.std.specs.Prelude.{◌≡◌, suc, List, Some, None}
use Rattle.run_schedule.specs.declared.schedule.EndCause.TheVariants as cause
use Rattle.isolate_acts.specs.Acts.{Act, moment_on, progress_on}
use Rattle.isolate_acts.specs.Phases.{Phase, LeadTo, IsOver, first_phase}
use Rattle.isolate_acts.specs.Progress.{Moment, Progress}

-- a turn after which the isolate goes on has done one step
abbrev pub TurnsDoOneStep : Type 0
TurnsDoOneStep =
    (moment : Moment) (p : Progress) (last : Phase) (acts : List Act) → LeadTo moment p (first_phase p) acts last → IsOver (moment_on moment acts) (progress_on moment p acts) last
    → (progress_on moment p acts).ending ≡ None → (progress_on moment p acts).step ≡ suc p.step

-- an end out of memory is at the step at which the turn began
abbrev pub EndsOutOfMemoryAreAtTheFirstStep : Type 0
EndsOutOfMemoryAreAtTheFirstStep =
    (moment : Moment) (p : Progress) (last : Phase) (acts : List Act) → LeadTo moment p (first_phase p) acts last → (progress_on moment p acts).ending ≡ Some cause.Memory
    → (progress_on moment p acts).step ≡ p.step
