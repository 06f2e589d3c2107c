use Rattle.cpuprofile.proofs.SeenGives.{given_fit}
use Rattle.cpuprofile.proofs.laws.given_deltas_fit.Goals as goal

pub returns : goal.returns
returns c = given_fit
