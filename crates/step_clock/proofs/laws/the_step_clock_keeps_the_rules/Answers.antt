use Rattle.step_clock.proofs.Clock.{clocks_are_legal, clocks_fit}
use Rattle.step_clock.proofs.laws.the_step_clock_keeps_the_rules.Goals as goal

pub returns : goal.returns
returns c = record { legal = clocks_are_legal; fits = clocks_fit }
