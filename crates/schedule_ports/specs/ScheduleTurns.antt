-- The turns of an isolate that does what a schedule says.
use Rattle.std.specs.Prelude.{◌≡◌, ℕ, ◌^◌, ◌<◌, ◌≤◌, List, [], ◌∷◌, ◌++◌, true, false, Some, None}
use Rattle.std.specs.List.{AllByRecursion}
use Rattle.guest_program.specs.declared.instr.Func.{Func}
use Rattle.run_schedule.specs.Schedule.{IsLegalSchedule, has_end}
use Rattle.run_schedule.specs.ScheduleParts.{ScheduleParts, IsInRange}
use Rattle.run_schedule.specs.declared.schedule.EndCause.{EndCause}
use Rattle.run_schedule.specs.declared.schedule.EndCause.TheVariants as cause
use Rattle.run_schedule.specs.declared.schedule.ScheduleEntry.{ScheduleEntry}
use Rattle.run_schedule.specs.declared.schedule.What.TheVariants.{End}
use Rattle.isolate.specs.Fits.{Fits}
use Rattle.isolate_acts.specs.Acts.{Act, calls_on, moment_on, progress_on}
use Rattle.isolate_acts.specs.FitsSoFar.{FitsSoFar}
use Rattle.isolate_acts.specs.Phases.{Phase, LeadTo, IsOver, first_phase}
use Rattle.isolate_acts.specs.Progress.{Moment, Progress, IsWithin, is_filled}
use Rattle.isolate_ends.specs.Offered.{AreOffered}
use Rattle.schedule_ports.specs.ScheduleCalls.{AreBySchedule, is_dropped_at, left_on}

-- A schedule that a run of the program can follow to its end: it keeps the rules, the program reaches its entries, its numbers and times are in their ranges, and it does not end out of memory.
pub record MayReplay (funcs : List Func) (schedule : ScheduleParts) : Type 0 where
  pub legal : IsLegalSchedule schedule
  pub fits : Fits funcs schedule
  pub in_range : IsInRange schedule
  pub times : AllByRecursion (λ entry. entry.time < 2 ^ 53) schedule.entries
  pub whole : AllByRecursion (λ entry. ¬ (entry.what ≡ End cause.Memory)) schedule.entries

-- a schedule so far, with these entries after it
abbrev pub with_left : ScheduleParts → List ScheduleEntry → ScheduleParts
with_left schedule left = record schedule { entries = schedule.entries ++ left }

-- the entry that comes next is not at an earlier step
abbrev pub IsAhead : ℕ → List ScheduleEntry → Type 0
IsAhead step [] = Unit {0}
IsAhead step (entry ∷ left) = step ≤ entry.step

-- An isolate between its turns, which goes on: its schedule so far and the entries that are left are the given schedule. The end is left, and no entry of an earlier step. There is room for an entry before the end, the steps are below the budget, and no sample was entered at this step.
pub record IsOnSchedule (schedule : ScheduleParts) (left : List ScheduleEntry) (p : Progress) : Type 0 where
  pub going : p.ending ≡ None
  pub fresh : p.is_sampled ≡ false
  pub room : is_filled p ≡ false
  pub below : p.step < p.schedule.budget
  pub whole : with_left p.schedule left ≡ schedule
  pub ended : has_end left ≡ true
  pub ahead : IsAhead p.step left

-- An isolate that has ended: its guest has done the steps that are reached, at which its end is entered. What it has entered before that is the given schedule, up to some entry; and unless memory ran out, its schedule is the given one.
pub record IsScheduleEnd (schedule : ScheduleParts) (moment : Moment) (p : Progress) : Type 0 where
  pub why : EndCause
  pub ending : p.ending ≡ Some why
  pub steps : moment.steps ≡ p.step
  pub before : List ScheduleEntry
  pub time : ℕ
  pub entries : p.schedule.entries ≡ before ++ record { step = p.step; time = time; what = End why } ∷ []
  pub rest : List ScheduleEntry
  pub kept : record p.schedule { entries = before ++ rest } ≡ schedule
  pub same : ¬ (why ≡ cause.Memory) → p.schedule ≡ schedule

-- After a turn the isolate goes on on the schedule, or it has ended on it.
pub record IsScheduleTurn (schedule : ScheduleParts) (left : List ScheduleEntry) (moment : Moment) (p : Progress) : Type 0 where
  pub goes : p.ending ≡ None → IsOnSchedule schedule left p
  pub ends : ¬ (p.ending ≡ None) → IsScheduleEnd schedule moment p

-- A turn that begins on the schedule, whose calls are answered by what is left of it, and of which a sample is dropped exactly where the schedule drops it.
pub record MakesTurn (schedule : ScheduleParts) (left : List ScheduleEntry) (moment : Moment) (p : Progress) (acts : List Act) (last : Phase) : Type 0 where
  pub may : MayReplay moment.funcs schedule
  pub on_schedule : IsOnSchedule schedule left p
  pub within : IsWithin p
  pub fits : FitsSoFar moment.funcs moment p (first_phase p)
  pub follow : LeadTo moment p (first_phase p) acts last
  pub over : IsOver (moment_on moment acts) (progress_on moment p acts) last
  pub by_schedule : AreBySchedule left (calls_on moment p acts)
  pub offered : AreOffered (is_dropped_at p.step left) acts

-- each such turn stays on the schedule
abbrev pub TurnsStayOnSchedule : Type 0
TurnsStayOnSchedule =
    (schedule : ScheduleParts) (left : List ScheduleEntry) (moment : Moment) (p : Progress) (acts : List Act) (last : Phase) → MakesTurn schedule left moment p acts last
    → IsScheduleTurn schedule (left_on left (calls_on moment p acts)) (moment_on moment acts) (progress_on moment p acts)

-- an isolate that opens with the numbers of the schedule is on it, with all entries left
abbrev pub OpeningsAreOnSchedule : Type 0
OpeningsAreOnSchedule =
    (funcs : List Func) (schedule : ScheduleParts) (p : Progress) → MayReplay funcs schedule → p.schedule ≡ record schedule { entries = [] }
    → p.step ≡ 0 → p.is_sampled ≡ false → p.ending ≡ None → IsOnSchedule schedule schedule.entries p
