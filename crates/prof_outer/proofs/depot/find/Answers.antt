use Rattle.std.proofs.Common.{◌∙◌, sym}
use Rattle.prof_outer.proofs.Finding.{found_here, not_here, none_here, holds, fails}
use Rattle.prof_outer.proofs.depot.find.Goals as goal

pub returns-then-same-clause-found : goal.returns-then-same-clause-found
returns-then-same-clause-found c = sym c.loop-file.invariant ∙ found_here c.args.files.now c.loop-file.file-index c.file-item.result c.args.name.now c.loop-file-test.true c.file-item.is (holds c.same.result c.same.ensures.same c.if-same.true)

pub loop-file-preserved : goal.loop-file-preserved
loop-file-preserved c = not_here c.args.files.now c.loop-file.file-index c.file-item.result c.args.name.now c.loop-file-test.true c.file-item.is (fails c.same.result c.same.ensures.same c.if-same.false) ∙ c.loop-file.invariant

pub returns-clause-none : goal.returns-clause-none
returns-clause-none c = sym c.loop-file.invariant ∙ none_here c.args.files.now c.loop-file.file-index c.args.name.now c.loop-file-test.false
