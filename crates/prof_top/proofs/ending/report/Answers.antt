use Rattle.std.proofs.Common.{sym, subst}
use Rattle.prof_top.proofs.Saying.{written_of}
use Rattle.prof_top.proofs.ending.report.Goals as goal
use Rattle.prof_top.specs.Ending.{status_of, line_of}
use Rattle.prof_top.specs.Written.{IsWritten}

pub returns-clause-written : goal.returns-clause-written
returns-clause-written g c =
    let old = g.E.Sink.written c.args.err.now in
    let new = g.E.Sink.written c.say-said.new.err in
    let faults = g.E.Sink.faults c.args.err.now in
    let faults' = g.E.Sink.faults c.say-said.new.err in
    let said = c.say-said.ensures in
    subst (λ ending. IsWritten (line_of ending) (status_of ending) old new faults faults') (sym c.ending_after.ensures)
    (written_of c.args.ending c.say-said.result old new faults faults' said.ok said.part said.memory said.failed)
