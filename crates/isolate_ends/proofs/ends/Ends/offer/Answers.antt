use Rattle.std.proofs.Common.{refl}
use Rattle.isolate_ends.proofs.Queued.{have_sample}
use Rattle.isolate_ends.proofs.ends.Ends.offer.Goals as goal

pub returns-in-In-clause-more : goal.returns-in-In-clause-more
returns-in-In-clause-more g c = have_sample _ _ c.args.tick c.requires.hit refl refl c.in-In.ensures.passed refl refl c.in-In.ensures.holds
