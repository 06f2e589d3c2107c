use Rattle.std.proofs.Common.{◌≡◌, take, map, slice_index}
use Rattle.profile_tree.proofs.finish.ids_of.Given as goal

abbrev pub invariant-loop-key : goal.invariant-loop-key
invariant-loop-key l = l.some ≡ map (slice_index l.ids) (take l.key-index l.keys)
