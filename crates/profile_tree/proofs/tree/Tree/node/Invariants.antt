use Rattle.std.proofs.Common.{take}
use Rattle.profile_tree.specs.Grown.{GrowsAlong}
use Rattle.profile_tree.proofs.tree.Tree.node.Given as goal

abbrev pub invariant-loop-step : goal.invariant-loop-step
invariant-loop-step l = GrowsAlong l.fn.self l.self (take l.step-index l.path) l.key
