use Rattle.std.proofs.Common.{refl, false}
use Rattle.guest_machine.proofs.machine.Machine.halt.Goals as goal

pub returns-clause-stays : goal.returns-clause-stays
returns-clause-stays c = (false, (refl, refl))
