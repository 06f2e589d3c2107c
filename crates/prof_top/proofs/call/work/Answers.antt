use Rattle.std.proofs.Common.{subst, sym}
use Rattle.prof_top.proofs.Folds.{fold_due}
use Rattle.prof_top.proofs.call.work.Goals as goal
use Rattle.prof_top.specs.Product.{MayBeDue}
use Rattle.prof_top.specs.declared.load.Task.{Task}

pub returns-in-Fold-clause-due : goal.returns-in-Fold-clause-due
returns-in-Fold-clause-due g c is =
    subst (λ (t : Task). MayBeDue t c.fold-ending.result) (sym c.in-Fold.is) (fold_due c.in-Fold.list c.fold-ending.result (c.fold-ending.ensures.due is))
