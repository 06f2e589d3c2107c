use Rattle.std.proofs.Common.{◌≡◌, ◌<◌, [], length, Some, ap, ◌∙◌, subst, arith}
use Rattle.std.specs.List.{slice_get}
use Rattle.std.proofs.lemmas.Option.{slice_get-get_or}
use Rattle.profile_tree.specs.Linked.{paths_of}
use Rattle.profile_tree.proofs.PathsAfter.{length-paths_of}
use Rattle.profile_tree.proofs.tree.Tree.root.Goals as goal

pub returns : goal.returns
returns c =
    let nodes = c.self.inside.nodes in
    let low : 0 < length (paths_of nodes) = omega (arith, length-paths_of nodes, c.self.invariant.some) in
    subst (λ g. slice_get g.paths 0 ≡ Some []) c.self.view_is (slice_get-get_or (paths_of nodes) 0 [] low ∙ ap (λ p. Some p) c.self.invariant.root)
