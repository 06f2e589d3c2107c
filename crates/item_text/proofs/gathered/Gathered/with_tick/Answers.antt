use Rattle.std.proofs.Common.{refl}
use Rattle.item_text.proofs.Gathering.{gathered_tick}
use Rattle.item_text.proofs.gathered.Gathered.with_tick.Goals as goal

pub invariant_of-result : goal.invariant_of-result
invariant_of-result c = rw c.in_ok-push.ensures.ok (gathered_tick c.self.inside.items c.self.inside.ticks _ c.self.invariant refl (rw c.len.ensures refl))
