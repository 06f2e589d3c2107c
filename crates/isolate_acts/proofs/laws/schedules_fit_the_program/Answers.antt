use Rattle.isolate_acts.proofs.FitsKept.{acts_fit, new_fits, runs_fit, samples_fit, turns_fit}
use Rattle.isolate_acts.proofs.laws.schedules_fit_the_program.Goals as goal

pub returns : goal.returns
returns c = record { first = new_fits; acts = acts_fit; runs = runs_fit; turns = turns_fit; samples = samples_fit }
