use Rattle.std.proofs.Common.{subst, sym}
use Rattle.prof_top.proofs.Lines.{run_asks, fold_asks, named_of, stopped_of}
use Rattle.prof_top.proofs.load.load_line.Goals as goal
use Rattle.prof_top.specs.Asked.{guest_program, item_list}
use Rattle.prof_top.specs.Causes.{IsStoppedAs}
use Rattle.prof_top.specs.Said.{IsNamed}

pub returns-in-Err-clause-named : goal.returns-in-Err-clause-named
returns-in-Err-clause-named g c words means =
    subst (IsNamed words (g.D.Depot.held c.args.depot.now)) (sym c.ending_of.ensures)
    (named_of words (g.D.Depot.held c.args.depot.now) c.args.line guest_program c.in-Run.name _ _ _ _ c.in-Err.unread means (run_asks c.args.line c.in-Run.name c.in-Run.every c.in-Run.limits c.in-Run.is) c.in-Err.ensures.err)

pub returns-in-Err-clause-err : goal.returns-in-Err-clause-err
returns-in-Err-clause-err g c words means =
    subst (IsStoppedAs words (g.D.Depot.held c.args.depot.now) _ _ _ _) (sym c.ending_of.ensures)
    (stopped_of words (g.D.Depot.held c.args.depot.now) c.args.line guest_program c.in-Run.name _ _ _ _ c.in-Err.unread means (run_asks c.args.line c.in-Run.name c.in-Run.every c.in-Run.limits c.in-Run.is) c.in-Err.ensures.err)

pub returns-in-Err-list_under-clause-named : goal.returns-in-Err-list_under-clause-named
returns-in-Err-list_under-clause-named g c words means =
    subst (IsNamed words (g.D.Depot.held c.args.depot.now)) (sym c.ending_of-in-Err-list_under.ensures)
    (named_of words (g.D.Depot.held c.args.depot.now) c.args.line item_list c.in-Fold.name _ _ _ _ c.in-Err-list_under.unread means (fold_asks c.args.line c.in-Fold.name c.in-Fold.is) c.in-Err-list_under.ensures.err)

pub returns-in-Err-list_under-clause-err : goal.returns-in-Err-list_under-clause-err
returns-in-Err-list_under-clause-err g c words means =
    subst (IsStoppedAs words (g.D.Depot.held c.args.depot.now) _ _ _ _) (sym c.ending_of-in-Err-list_under.ensures)
    (stopped_of words (g.D.Depot.held c.args.depot.now) c.args.line item_list c.in-Fold.name _ _ _ _ c.in-Err-list_under.unread means (fold_asks c.args.line c.in-Fold.name c.in-Fold.is) c.in-Err-list_under.ensures.err)
