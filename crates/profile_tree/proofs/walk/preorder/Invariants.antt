use Rattle.std.proofs.Common.{◌-◌, length}
use Rattle.std.specs.Prelude.{reverse}
use Rattle.profile_tree.proofs.Walking.{Walked}
use Rattle.profile_tree.proofs.walk.preorder.Given as goal

-- the top of the stack comes next
abbrev pub invariant-loop-key : goal.invariant-loop-key
invariant-loop-key l = Walked l.nodes l.order.items (reverse l.stack.items)

abbrev pub decreases-loop-key : goal.decreases-loop-key
decreases-loop-key l = length l.nodes - length l.order.items
