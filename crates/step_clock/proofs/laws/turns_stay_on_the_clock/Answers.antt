use Rattle.step_clock.proofs.ClockFiles.{no_file}
use Rattle.step_clock.proofs.ClockTurned.{turns_stay}
use Rattle.step_clock.proofs.laws.turns_stay_on_the_clock.Goals as goal

pub returns : goal.returns
returns c = record { stay = turns_stay; no_file = no_file }
