use Rattle.std.proofs.Common.{◌≡◌, take, map, slice_index}
use Rattle.profile_tree.proofs.finish.sample_ids.Given as goal

abbrev pub invariant-loop-reference : goal.invariant-loop-reference
invariant-loop-reference l = l.some ≡ map (λ reference. slice_index l.ids reference.key) (take l.reference-index l.samples)
