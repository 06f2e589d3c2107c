use Rattle.std.proofs.Common.{◌<◌, ◌^◌, length, sym, ap, ◌∙◌, subst, arith}
use Rattle.profile_tree.specs.Arena.{with_child, with_last}
use Rattle.profile_tree.specs.Linked.{Linked}
use Rattle.profile_tree.specs.Grown.{grown, IsStepDown}
use Rattle.profile_tree.proofs.PathsAfter.{length-paths_of}
use Rattle.profile_tree.proofs.StepDowns.{Reached, found_down, found_reached, made_reached, reached_as, down_as, last_linked, last_down}
use Rattle.profile_tree.proofs.tree.Tree.child.Goals as goal
use Rattle.profile_tree.proofs.tree.Tree.child.Goals.{in-At, in-New+in_ok-child-in-New}

pub returns-in-Some : goal.returns-in-Some
returns-in-Some c =
    subst (λ g. IsStepDown g g c.args.parent c.args.step.now c.in-Some.child) c.self.view_is (found_down c.self.inside.nodes c.args.parent c.in-Some.child c.args.step.now c.self.invariant c.in-Some.ensures)

reached : (c : goal.After-set_last) → Reached c.self.inside.nodes c.match-child_place.self-inside.nodes c.args.parent c.args.step.now c.match-child_place.child
reached c =
    let nodes = c.self.inside.nodes in
    let low : c.args.parent < length nodes = omega (arith, c.requires, ap (λ g. length g.paths) c.self.view_is, length-paths_of nodes) in
    elim c.match-child_place.branch [
      | in-At w ↦
          reached_as nodes nodes c.match-child_place.self-inside.nodes c.args.parent c.args.step.now w.in-At.child c.match-child_place.child (ap (λ inside. inside.nodes) w.self-inside-is) w.child-is
          (found_reached nodes c.args.parent w.in-At.child c.args.step.now c.self.invariant low w.in-At.ensures)
      | in-New+in_ok-child-in-New w ↦
          let made = with_child nodes c.args.parent w.in-New.at c.args.step.now in
          reached_as nodes made c.match-child_place.self-inside.nodes c.args.parent c.args.step.now (length nodes) c.match-child_place.child
          (ap (λ inside. inside.nodes) w.self-inside-is ∙ w.in_ok-child-in-New.ensures.ok) (w.child-is ∙ w.in_ok-child-in-New.ensures.key)
          (made_reached nodes c.args.parent w.in-New.at c.args.step.now c.self.invariant low w.in-New.ensures
          (subst (λ n. length n < 2 ^ 32) w.in_ok-child-in-New.ensures.ok w.in_ok-child-in-New.ensures.few))
    ]

pub invariant_of-self-2 : goal.invariant_of-self-2
invariant_of-self-2 c =
    subst Linked (sym c.set_last.ensures) (last_linked c.self.inside.nodes c.match-child_place.self-inside.nodes c.args.parent c.match-child_place.child c.args.step.now (reached c))

pub returns : goal.returns
returns c =
    down_as (grown c.self.inside.nodes) c.args.self.now (grown (with_last c.match-child_place.self-inside.nodes c.args.parent c.match-child_place.child)) (grown c.set_last.new.self) c.args.parent c.args.step.now
    c.match-child_place.child c.self.view_is (ap grown (sym c.set_last.ensures))
    (last_down c.self.inside.nodes c.match-child_place.self-inside.nodes c.args.parent c.match-child_place.child c.args.step.now (reached c))
