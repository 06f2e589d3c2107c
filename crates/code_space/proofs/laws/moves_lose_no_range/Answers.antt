use Rattle.code_space.proofs.Moves.{moves_compact}
use Rattle.code_space.proofs.laws.moves_lose_no_range.Goals as goal

pub returns : goal.returns
returns c = record { kept = moves_compact }
