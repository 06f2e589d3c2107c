use Rattle.std.proofs.Common.{◌≡◌, drop}
use Rattle.code_event.specs.Tree.{prefixes, with_paths}
use Rattle.reference_profile.proofs.tree.put_prefixes.Given as goal

abbrev pub invariant-loop-len : goal.invariant-loop-len
invariant-loop-len l = l.set.items ≡ with_paths (drop l.len (prefixes l.path)) l.fn.set.items
