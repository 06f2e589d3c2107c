use Rattle.std.proofs.Common.{refl}
use Rattle.prof_outer.proofs.Prefixes.{appended_prefix}
use Rattle.prof_outer.proofs.sink.append_half.Goals as goal

pub returns : goal.returns
returns c = appended_prefix _ _ _ _ _ _ refl c.extend_from_slice.ensures.items
