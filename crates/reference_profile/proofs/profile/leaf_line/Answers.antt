use Rattle.std.proofs.Common.{◌∙◌, ap, sym, arith}
use Rattle.reference_profile.proofs.Profiles.{leaf_line-last}
use Rattle.reference_profile.proofs.profile.leaf_line.Goals as goal

pub returns-in-len1-up : goal.returns-in-len1-up
returns-in-len1-up c = ap (λ frame. frame.line) c.last-item.is ∙ sym (leaf_line-last c.args.frames.now c.last-item.result (omega arith))
