use Rattle.std.proofs.Common.{[], ◌∷◌, ◌++◌, take, sym, ap, ◌∙◌, subst}
use Rattle.std.proofs.lemmas.List.{take_more, take_all}
use Rattle.std.proofs.lemmas.Option.{slice_get_within}
use Rattle.profile_tree.specs.Grown.{GrowsAlong}
use Rattle.profile_tree.proofs.WayDown.{starts_along, steps_along}
use Rattle.profile_tree.proofs.tree.Tree.node.Goals as goal

pub loop-step-init : goal.loop-step-init
loop-step-init c = starts_along c.args.self.now c.root-key.result c.root-key.ensures

pub child-requires : goal.child-requires
child-requires c = slice_get_within c.loop-step.self.paths c.loop-step.key (take c.loop-step.step-index c.args.path.now) c.loop-step.invariant.named

pub loop-step-preserved : goal.loop-step-preserved
loop-step-preserved c =
    let path = c.args.path.now in
    let at = c.loop-step.step-index in
    let longer = take_more path at c.step-item.result c.loop-step-test.true ∙ ap (λ s. take at path ++ s ∷ []) (sym c.step-item.is) in
    subst (λ p. GrowsAlong c.args.self.now c.child.new.self p c.in_ok-key.key) (sym longer)
    (steps_along c.args.self.now c.loop-step.self c.child.new.self (take at path) c.step-item.result c.loop-step.key c.in_ok-key.key c.loop-step.invariant c.in_ok-key.ensures)

pub returns : goal.returns
returns c =
    subst (λ p. GrowsAlong c.args.self.now c.loop-step.self p c.loop-step.key) (take_all c.loop-step.step-index c.args.path.now c.loop-step-test.false) c.loop-step.invariant
