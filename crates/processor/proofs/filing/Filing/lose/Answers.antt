use Rattle.std.proofs.Common.{sym, subst, ◌∙◌}
use Rattle.std.specs.Prelude.{is_err}
use Rattle.processor.specs.Filing.{AreToldLost}
use Rattle.processor.proofs.Telling.{told_later}
use Rattle.processor.proofs.filing.Filing.lose.Goals as goal

pub returns-else-is_err-clause-told : goal.returns-else-is_err-clause-told
returns-else-is_err-clause-told g c =
    told_later c.args.self.now.running (is_err c.tell_lost.result) c.args.self.now.is_spent (g.X.FilePorts.given c.args.ports.now) (g.X.FilePorts.given c.tell_lost.new.ports)
    (λ room. sym c.is_err.ensures.value ∙ c.if-is_err.false)
    (subst (λ rs. AreToldLost rs (is_err c.tell_lost.result) (g.X.FilePorts.given c.args.ports.now) (g.X.FilePorts.given c.tell_lost.new.ports))
    (c.as_slice.ensures ∙ (λ i. (c.self.view_is i).running)) c.tell_lost.ensures.given)
