use Rattle.std.proofs.Common.{◌∙◌, ap, sym, arith}
use Rattle.code_event.specs.Tree.{id_of, is_below}
use Rattle.reference_profile.proofs.TreeParts.{pick_yes, picked_no}
use Rattle.reference_profile.proofs.tree.children.Goals as goal
use Rattle.reference_profile.proofs.tree.children.Goals.{then-is_below+in_ok-id_of+in_ok-push, else-is_below}

pub loop-node-preserved : goal.loop-node-preserved
loop-node-preserved c = elim c.if-is_below.branch [
  | then-is_below+in_ok-id_of+in_ok-push w ↦
      pick_yes (id_of c.args.nodes.now) (is_below c.args.parent.now) c.args.nodes.now c.loop-node.node-index c.node-item.result c.loop-node.ids c.if-is_below.ids w.in_ok-id_of.field-0 (omega arith) c.node-item.is
      (ap (is_below c.args.parent.now) (sym c.as_slice.ensures) ∙ sym c.is_below.ensures ∙ w.if-is_below.true)
      c.loop-node.invariant (w.ids-is ∙ w.in_ok-push.ensures.ok) (w.in_ok-id_of.ensures ∙ ap (id_of c.args.nodes.now) w.as_slice-then-is_below.ensures)
  | else-is_below w ↦
      w.ids-is ∙ c.loop-node.invariant
      ∙ sym (picked_no (id_of c.args.nodes.now) (is_below c.args.parent.now) c.args.nodes.now c.loop-node.node-index c.node-item.result (omega arith)
      (ap (is_below c.args.parent.now) (sym c.node-item.is) ∙ ap (is_below c.args.parent.now) (sym c.as_slice.ensures) ∙ sym c.is_below.ensures ∙ w.if-is_below.false))
]
