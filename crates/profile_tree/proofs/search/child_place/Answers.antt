use Rattle.std.proofs.Common.{◌≡◌, ◌<◌, ◌∙◌, length, ap, sym, subst}
use Rattle.std.specs.Prelude.{slice_index}
use Rattle.std.specs.Ordering.{is_eq}
use Rattle.std.specs.declared.cmp.Ordering.TheVariants.{Greater}
use Rattle.profile_tree.specs.Node.{step_order}
use Rattle.profile_tree.specs.Arena.{node_at}
use Rattle.profile_tree.specs.Linked.{IsChild}
use Rattle.profile_tree.proofs.ByStep.{child_by_step, child_at, below_more}
use Rattle.profile_tree.proofs.search.child_place.Goals as goal

pub get-requires-in-loop-at : goal.get-requires-in-loop-at
get-requires-in-loop-at c =
    let same = c.children-children.ensures ∙ ap (λ n. n.children) c.get.ensures in
    (subst (λ l. IsChild c.args.nodes.now c.args.parent (slice_index l c.loop-at.at)) (sym same)
    (child_at c.args.nodes.now c.args.parent c.loop-at.at c.requires.linked c.requires.within (subst (λ l. c.loop-at.at < length l) same c.loop-at-test.true))).within

pub returns-in-Equal : goal.returns-in-Equal
returns-in-Equal c =
    let same = c.children-children.ensures ∙ ap (λ n. n.children) c.get.ensures in
    child_by_step c.args.nodes.now c.args.parent (slice_index c.children-children.result.now c.loop-at.at) c.args.step.now
    (subst (λ l. IsChild c.args.nodes.now c.args.parent (slice_index l c.loop-at.at)) (sym same)
    (child_at c.args.nodes.now c.args.parent c.loop-at.at c.requires.linked c.requires.within (subst (λ l. c.loop-at.at < length l) same c.loop-at-test.true)))
    (ap (λ o. is_eq (step_order c.args.step.now o)) (sym (c.step.ensures ∙ ap (λ n. n.step) c.get-in-loop-at.ensures)) ∙ ap is_eq (sym c.step_order.ensures ∙ c.in-Equal.is))

pub loop-at-preserved : goal.loop-at-preserved
loop-at-preserved c =
    below_more (λ k. step_order c.args.step.now (node_at c.args.nodes.now (slice_index c.children-children.result.now k)).step ≡ Greater) c.loop-at.at c.loop-at.invariant
    (ap (step_order c.args.step.now) (sym (c.step.ensures ∙ ap (λ n. n.step) c.get-in-loop-at.ensures)) ∙ sym c.step_order.ensures ∙ c.in-Greater.is)
