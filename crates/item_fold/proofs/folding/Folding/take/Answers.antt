use Rattle.std.proofs.Common.{subst, sym, refl}
use Rattle.item_fold.specs.Folding.{Folds}
use Rattle.item_fold.proofs.folding.Folding.take.Goals as goal

pub returns-in-Event-clause-folds : goal.returns-in-Event-clause-folds
returns-in-Event-clause-folds g c =
    subst (λ i. Folds c.args.self.now (g.S.OutputStream.parts c.args.stream.now) i c.event.result c.event.new.self (g.S.OutputStream.parts c.event.new.stream)) (sym c.in-Event.is)
    (c.event.ensures.folds c.in-Event.record refl)

pub returns-in-Tick-clause-folds : goal.returns-in-Tick-clause-folds
returns-in-Tick-clause-folds g c =
    subst (λ i. Folds c.args.self.now (g.S.OutputStream.parts c.args.stream.now) i c.tick.result c.tick.new.self (g.S.OutputStream.parts c.args.stream.now)) (sym c.in-Tick.is)
    (c.tick.ensures.folds (g.S.OutputStream.parts c.args.stream.now))
