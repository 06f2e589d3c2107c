use Rattle.std.proofs.Common.{ap, ◌∙◌}
use Rattle.code_event.specs.declared.event.CodeEvent.TheVariants.{Finish}
use Rattle.item_fold.proofs.Taking.{folds_no_files}
use Rattle.item_fold.proofs.folding.Folding.finish.Goals as goal

pub returns-then-files-clause-folds : goal.returns-then-files-clause-folds
returns-then-files-clause-folds g c e is = c.end_all.ensures.folds e (is ∙ ap (λ b. Finish c.args.time b) c.if-files.true)

pub returns-else-files-clause-folds : goal.returns-else-files-clause-folds
returns-else-files-clause-folds g c e is =
    folds_no_files c.args.self.now c.args.time (g.S.OutputStream.parts c.args.stream.now) e (is ∙ ap (λ b. Finish c.args.time b) c.if-files.false)
