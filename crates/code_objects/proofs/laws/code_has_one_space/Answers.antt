use Rattle.code_objects.proofs.Keeping.{code_has_one_space}
use Rattle.code_objects.proofs.laws.code_has_one_space.Goals as goal

pub returns : goal.returns
returns c = code_has_one_space
