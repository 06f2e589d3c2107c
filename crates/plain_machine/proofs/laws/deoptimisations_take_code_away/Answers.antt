use Rattle.plain_machine.proofs.Deopts.{deopts_take_code_away}
use Rattle.plain_machine.proofs.laws.deoptimisations_take_code_away.Goals as goal

pub returns : goal.returns
returns c = deopts_take_code_away
