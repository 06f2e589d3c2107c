use Rattle.raised_so_far.proofs.EntriesRaised.{drops, samples, starts, stops}
use Rattle.raised_so_far.proofs.laws.entries_are_raised.Goals as goal

pub returns : goal.returns
returns c = record { samples = samples; drops = drops; starts = starts; stops = stops }
