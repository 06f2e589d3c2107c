use Rattle.std.proofs.Common.{refl}
use Rattle.isolate_ends.proofs.Queued.{have_tick}
use Rattle.isolate_ends.proofs.ends.Ends.put_tick.Goals as goal

pub returns-in-Ok-clause-ok : goal.returns-in-Ok-clause-ok
returns-in-Ok-clause-ok g c = have_tick _ _ c.args.tick c.requires.no_hit refl c.in-Ok.ensures.passed refl refl c.in-Ok.ensures.holds refl
