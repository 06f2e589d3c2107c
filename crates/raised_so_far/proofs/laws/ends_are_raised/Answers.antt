use Rattle.raised_so_far.proofs.Files.{ends, short_turns}
use Rattle.raised_so_far.proofs.laws.ends_are_raised.Goals as goal

pub returns : goal.returns
returns c = record { ends = ends; short = short_turns }
