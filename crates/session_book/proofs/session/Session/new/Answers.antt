use Rattle.std.proofs.Common.{refl, ap, ◌∙◌}
use Rattle.session_book.proofs.Ending.{starts_fresh}
use Rattle.session_book.proofs.session.Session.new.Goals as goal

pub returns-clause-begun : goal.returns-clause-begun
returns-clause-begun c =
    starts_fresh c.args.base (record { id = c.args.id; options = c.args.options; start = c.args.start; counter = c.new.result; sampled = c.in_ok-new.field-0; deltas = c.new-3.result; last = c.args.start })
    (c.new.ensures ∙ ap (λ r. record { rounded = r; left = 0 }) c.rounded.ensures.value) c.in_ok-new.ensures.tree c.in_ok-new.ensures.samples c.new-3.ensures refl
