-- The schedule of a run.
use Rattle.std.specs.Prelude.{◌≡◌, List}
use Rattle.guest_program.specs.declared.instr.Func.{Func}
use Rattle.isolate.specs.Fits.{Fits}
use Rattle.run_schedule.specs.Schedule.{IsLegalSchedule}
use Rattle.run_schedule.specs.ScheduleParts.{ScheduleParts}
use Rattle.run_schedule.specs.declared.limits.TheConstants.{DEFAULT_RING}
use Rattle.isolate_turns.specs.declared.state.IsoConfig.{IsoConfig}
use Rattle.step_clock.specs.StepClock.{IsStepClock}
use Rattle.prof_top.specs.declared.words.RunOptions.{RunOptions}

-- what a run is opened with
abbrev pub config_of : RunOptions → IsoConfig
config_of options = record { base = options.every; ring = DEFAULT_RING; budget = options.budget; limit = options.entries }

-- what precedes the entries: the interval as the base, the ring, the budget of steps and the limit of entries
pub record IsHead (options : RunOptions) (schedule : ScheduleParts) : Type 0 where
  pub base : schedule.base ≡ options.every
  pub ring : schedule.ring ≡ DEFAULT_RING
  pub budget : schedule.budget ≡ options.budget
  pub limit : schedule.limit ≡ options.entries

-- what holds of the schedule of a run with these options
pub record IsRunSchedule (funcs : List Func) (options : RunOptions) (schedule : ScheduleParts) : Type 0 where
  pub legal : IsLegalSchedule schedule
  pub fits : Fits funcs schedule
  pub head : IsHead options schedule
  pub clock : IsStepClock funcs options.every options.budget options.entries schedule.entries
