use Rattle.code_layout.proofs.Calling.{calling_size}
use Rattle.code_layout.proofs.examples.a_callee_adds_its_instructions.Goals as goal

pub returns : goal.returns
returns c = calling_size
