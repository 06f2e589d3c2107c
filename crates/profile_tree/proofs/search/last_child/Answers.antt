use Rattle.std.proofs.Common.{◌∙◌, ap, sym}
use Rattle.std.specs.Ordering.{is_eq}
use Rattle.profile_tree.specs.Node.{step_order}
use Rattle.profile_tree.proofs.ByStep.{child_by_step}
use Rattle.profile_tree.proofs.search.last_child.Goals as goal

pub get-requires-2 : goal.get-requires-2
get-requires-2 c = (c.requires.linked.last c.args.parent c.in_ok-child.child c.requires.within (sym (c.last.ensures ∙ ap (λ n. n.last) c.get.ensures) ∙ c.in_ok-child.was)).within

pub returns-then-is_eq : goal.returns-then-is_eq
returns-then-is_eq c =
    child_by_step c.args.nodes.now c.args.parent c.in_ok-child.child c.args.step.now
    (c.requires.linked.last c.args.parent c.in_ok-child.child c.requires.within (sym (c.last.ensures ∙ ap (λ n. n.last) c.get.ensures) ∙ c.in_ok-child.was))
    (ap (λ o. is_eq (step_order c.args.step.now o)) (sym (c.step.ensures ∙ ap (λ n. n.step) c.get-2.ensures)) ∙ ap is_eq (sym c.step_order.ensures) ∙ sym c.is_eq.ensures ∙ c.if-is_eq.true)
