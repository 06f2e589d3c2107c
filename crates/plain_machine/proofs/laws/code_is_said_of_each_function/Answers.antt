use Rattle.plain_machine.proofs.Registers.{code_is_of_functions}
use Rattle.plain_machine.proofs.laws.code_is_said_of_each_function.Goals as goal

pub returns : goal.returns
returns c = code_is_of_functions
