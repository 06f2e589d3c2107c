use Rattle.code_space.proofs.Compacted.{compaction_keeps_sizes}
use Rattle.code_space.proofs.laws.compaction_keeps_sizes.Goals as goal

pub returns : goal.returns
returns c = record { sizes = compaction_keeps_sizes }
