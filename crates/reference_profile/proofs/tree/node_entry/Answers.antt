use Rattle.std.proofs.Common.{◌≡◌, ◌∙◌, ap, sym, subst, IfOk, arith}
use Rattle.reference_profile.proofs.TreeParts.{node_entry-last}
use Rattle.reference_profile.proofs.tree.node_entry.Goals as goal

pub returns-in-len1-up : goal.returns-in-len1-up
returns-in-len1-up c =
    subst (λ entry. IfOk c.copy.result (λ copy. copy ≡ entry))
    (ap (λ step. step.entry) c.last-item.is ∙ sym (node_entry-last c.args.node.now c.last-item.result (omega arith)))
    c.copy.ensures
