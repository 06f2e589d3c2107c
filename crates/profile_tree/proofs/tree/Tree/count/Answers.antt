use Rattle.std.proofs.Common.{◌<◌, length, refl, sym, ap, ◌∙◌, subst, arith}
use Rattle.profile_tree.specs.Node.{counted}
use Rattle.profile_tree.specs.Arena.{node_at}
use Rattle.profile_tree.specs.Linked.{Linked}
use Rattle.profile_tree.specs.Grown.{grown, with_hit}
use Rattle.profile_tree.proofs.PathsAfter.{length-paths_of}
use Rattle.profile_tree.proofs.LinkedNodes.{linked_written}
use Rattle.profile_tree.proofs.GrownNodes.{grown-counted, OneAlone, alone_in}
use Rattle.profile_tree.proofs.tree.Tree.count.Goals as goal

pub invariant_of-self : goal.invariant_of-self
invariant_of-self c = subst Linked (sym c.in_err-count.ensures.err) c.self.invariant

pub invariant_of-self-2 : goal.invariant_of-self-2
invariant_of-self-2 c =
    let nodes = c.self.inside.nodes in
    let low : c.args.key < length nodes = omega (arith, c.requires, ap (λ g. length g.paths) c.self.view_is, length-paths_of nodes) in
    subst Linked (sym c.in_ok-count.ensures.ok)
    (linked_written nodes c.args.key (counted (node_at nodes c.args.key) c.args.line) c.self.invariant low (record { step = refl; parent = refl; children = refl }) c.in_ok-count.ensures.few
    (λ child e. c.self.invariant.last c.args.key child low e))

pub returns-clause-ok : goal.returns-clause-ok
returns-clause-ok c =
    let nodes = c.self.inside.nodes in
    let low : c.args.key < length nodes = omega (arith, c.requires, ap (λ g. length g.paths) c.self.view_is, length-paths_of nodes) in
    ap grown c.in_ok-count.ensures.ok ∙ grown-counted nodes c.args.key c.args.line low ∙ ap (λ g. with_hit g c.args.key c.args.line) c.self.view_is

pub returns-clause-alone : goal.returns-clause-alone
returns-clause-alone c =
    subst (OneAlone c.args.key) c.self.view_is (alone_in c.self.inside.nodes c.args.key c.self.invariant (subst (λ g. c.args.key < length g.paths) (sym c.self.view_is) c.requires))
