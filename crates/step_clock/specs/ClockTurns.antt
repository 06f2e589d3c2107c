-- The turns of an isolate on the step clock.
use Rattle.std.specs.Prelude.{◌≡◌, ℕ, ◌<◌, ◌≤◌, List, [], ◌∷◌, ◌++◌, Bool, true, false, Some, None, if◌then◌else◌}
use Rattle.std.specs.List.{AllByRecursion}
use Rattle.code_event.specs.declared.event.Options.{Options}
use Rattle.run_schedule.specs.declared.schedule.EndCause.{EndCause}
use Rattle.run_schedule.specs.declared.schedule.EndCause.TheVariants as cause
use Rattle.run_schedule.specs.declared.schedule.ScheduleEntry.{ScheduleEntry}
use Rattle.run_schedule.specs.declared.schedule.What.TheVariants.{End}
use Rattle.raised_so_far.specs.FileOrder.{ItemLeavesNoFile}
use Rattle.isolate_acts.specs.Acts.{Act, calls_on, moment_on, progress_on, raised_on}
use Rattle.isolate_acts.specs.FitsSoFar.{FitsSoFar}
use Rattle.isolate_acts.specs.Phases.{Phase, LeadTo, IsOver, first_phase}
use Rattle.isolate_acts.specs.Progress.{Moment, Progress, IsWithin, is_filled}
use Rattle.isolate_ends.specs.Offered.{AreOffered}
use Rattle.step_clock.specs.ClockCalls.{AreByClock, begun_on}
use Rattle.step_clock.specs.StepClock.{IsStepClock, IsWholeRecording, entries_before}

-- An isolate between its turns, which goes on: its entries so far are those of the step clock at the step that is reached, and none before the recording has begun, which is at step 0. There is room for an entry before the end, the steps are below the budget, and no sample was entered at this step.
pub record IsOnClock (recording : Options) (begun : Bool) (p : Progress) : Type 0 where
  pub going : p.ending ≡ None
  pub fresh : p.is_sampled ≡ false
  pub room : is_filled p ≡ false
  pub first : begun ≡ false → p.step ≡ 0
  pub below : p.step < p.schedule.budget
  pub entries : p.schedule.entries ≡ (if begun then entries_before recording p.step else [])

-- An isolate that has ended on the step clock: its guest has done the steps that are reached, at which its end is entered; and unless memory ran out, its schedule is that of the step clock.
pub record IsClockEnd (every : ℕ) (moment : Moment) (p : Progress) : Type 0 where
  pub why : EndCause
  pub ending : p.ending ≡ Some why
  pub steps : moment.steps ≡ p.step
  pub before : List ScheduleEntry
  pub time : ℕ
  pub entries : p.schedule.entries ≡ before ++ record { step = p.step; time = time; what = End why } ∷ []
  pub clock : ¬ (why ≡ cause.Memory) → IsStepClock moment.funcs every p.schedule.budget p.schedule.limit p.schedule.entries

-- After a turn the isolate goes on on the clock, and its recording has begun; or it has ended on the clock.
pub record IsClockTurn (recording : Options) (begun : Bool) (moment : Moment) (p : Progress) : Type 0 where
  pub goes : p.ending ≡ None → IsOnClock recording begun p
  pub has_begun : p.ending ≡ None → begun ≡ true
  pub ends : ¬ (p.ending ≡ None) → IsClockEnd recording.interval moment p

-- A turn that begins on the clock, and whose calls are answered by it.
pub record MakesTurn (recording : Options) (begun : Bool) (moment : Moment) (p : Progress) (acts : List Act) (last : Phase) : Type 0 where
  pub whole : IsWholeRecording recording.interval recording
  pub on_clock : IsOnClock recording begun p
  pub within : IsWithin p
  pub fits : FitsSoFar moment.funcs moment p (first_phase p)
  pub follow : LeadTo moment p (first_phase p) acts last
  pub over : IsOver (moment_on moment acts) (progress_on moment p acts) last
  pub by_clock : AreByClock recording begun (calls_on moment p acts)

-- where no sample is dropped, each such turn stays on the clock
abbrev pub TurnsStayOnClock : Type 0
TurnsStayOnClock =
    (recording : Options) (begun : Bool) (moment : Moment) (p : Progress) (acts : List Act) (last : Phase) → MakesTurn recording begun moment p acts last
    → AreOffered false acts → IsClockTurn recording (begun_on begun (calls_on moment p acts)) (moment_on moment acts) (progress_on moment p acts)

-- each such turn raises no stop, and no finish with files, unless the isolate ends in it for another cause than out of memory
abbrev pub TurnsLeaveNoFile : Type 0
TurnsLeaveNoFile =
    (recording : Options) (begun : Bool) (moment : Moment) (p : Progress) (acts : List Act) (last : Phase) → MakesTurn recording begun moment p acts last
    → ((why : EndCause) → (progress_on moment p acts).ending ≡ Some why → why ≡ cause.Memory)
    → AllByRecursion ItemLeavesNoFile (raised_on moment p acts)
