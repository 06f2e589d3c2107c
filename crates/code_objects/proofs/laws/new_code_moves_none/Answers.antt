use Rattle.code_objects.proofs.Keeping.{new_code_moves_none}
use Rattle.code_objects.proofs.laws.new_code_moves_none.Goals as goal

pub returns : goal.returns
returns c = new_code_moves_none
