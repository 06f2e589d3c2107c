-- What holds of the schedules of the step clock, for every program.
use Rattle.std.specs.Prelude.{◌≡◌, ℕ, ◌≤◌, List}
use Rattle.guest_program.specs.declared.instr.Func.{Func}
use Rattle.prof_base.specs.declared.interval.TheConstants.{MAX_INTERVAL}
use Rattle.isolate.specs.Fits.{Fits}
use Rattle.run_schedule.specs.Schedule.{IsLegalSchedule}
use Rattle.run_schedule.specs.ScheduleParts.{ScheduleParts}
use Rattle.run_schedule.specs.declared.schedule.ScheduleEntry.{ScheduleEntry}
use Rattle.step_clock.specs.StepClock.{IsStepClock}

-- with a budget of at least 1 and a limit of at least 2, they keep the rules
abbrev pub ClocksAreLegal : Type 0
ClocksAreLegal = (funcs : List Func) (every : ℕ) (schedule : ScheduleParts) → 1 ≤ schedule.budget → 2 ≤ schedule.limit → IsStepClock funcs every schedule.budget schedule.limit schedule.entries → IsLegalSchedule schedule

-- with such a budget and limit, the program reaches each of their entries
abbrev pub ClocksFit : Type 0
ClocksFit = (funcs : List Func) (every : ℕ) (schedule : ScheduleParts) → 1 ≤ schedule.budget → 2 ≤ schedule.limit → IsStepClock funcs every schedule.budget schedule.limit schedule.entries → Fits funcs schedule

-- each run has one, at every interval from 1 to MAX_INTERVAL
abbrev pub ClocksRun : Type 0
ClocksRun = (funcs : List Func) (every budget limit : ℕ) → 1 ≤ every → every ≤ MAX_INTERVAL → (entries : List ScheduleEntry) × IsStepClock funcs every budget limit entries

-- no run has two
abbrev pub ClocksAgree : Type 0
ClocksAgree = (funcs : List Func) (every budget limit : ℕ) (entries others : List ScheduleEntry) → IsStepClock funcs every budget limit entries → IsStepClock funcs every budget limit others → entries ≡ others
