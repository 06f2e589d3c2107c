use Rattle.std.proofs.Common.{◌∙◌}
use Rattle.item_fold.proofs.Taking.{folds_stop}
use Rattle.item_fold.proofs.folding.Folding.event.Goals as goal

pub returns-in-Start-clause-folds : goal.returns-in-Start-clause-folds
returns-in-Start-clause-folds g c e is = c.start.ensures.folds (g.S.OutputStream.parts c.args.stream.now) e (is ∙ c.in-Start.is)

pub returns-in-Stop-clause-folds : goal.returns-in-Stop-clause-folds
returns-in-Stop-clause-folds g c e is =
    folds_stop c.args.self.now c.end.new.self c.in-Stop.session c.in-Stop.time c.end.result (g.S.OutputStream.parts c.args.stream.now) (g.S.OutputStream.parts c.end.new.stream) c.end.ensures.folds e (is ∙ c.in-Stop.is)

pub returns-in-Finish-clause-folds : goal.returns-in-Finish-clause-folds
returns-in-Finish-clause-folds g c e is = c.finish.ensures.folds e (is ∙ c.in-Finish.is)

pub returns-in-Create-clause-folds : goal.returns-in-Create-clause-folds
returns-in-Create-clause-folds g c = c.change.ensures.folds (g.S.OutputStream.parts c.args.stream.now)
