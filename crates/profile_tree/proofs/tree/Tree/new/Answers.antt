use Rattle.std.proofs.Common.{[], sym, subst}
use Rattle.profile_tree.specs.Grown.{StandsFor, grown}
use Rattle.profile_tree.proofs.TreeStart.{stands_at_first}
use Rattle.profile_tree.proofs.tree.Tree.new.Goals as goal

pub returns : goal.returns
returns c = subst (λ nodes. StandsFor (grown nodes) []) (sym c.in_ok-new.ensures) stands_at_first
