use Rattle.step_clock.proofs.ClockOnce.{clocks_run, clocks_agree}
use Rattle.step_clock.proofs.laws.the_step_clock_has_one_schedule.Goals as goal

pub returns : goal.returns
returns c = record { one = clocks_run; no_other = clocks_agree }
