use Rattle.processor.proofs.DeliveredFiles.{nothing_follows_the_end}
use Rattle.processor.proofs.laws.nothing_follows_the_end.Goals as goal

pub returns : goal.returns
returns c = nothing_follows_the_end
