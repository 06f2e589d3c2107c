use Rattle.std.proofs.Common.{inl, inr, map, string_bytes}
use Rattle.prof_top.proofs.Lines.{may_read_all, stops_reading}
use Rattle.prof_top.proofs.Named.{named_at_end}
use Rattle.prof_top.proofs.Outcomes.{outcome_from, worked_on}
use Rattle.prof_top.proofs.Puts.{put_from}
use Rattle.prof_top.proofs.call.load_and_work.Goals as goal
use Rattle.prof_top.specs.Ending.{status_of}

pub returns-in-Ok-clause-outcome : goal.returns-in-Ok-clause-outcome
returns-in-Ok-clause-outcome g c =
    let words = map string_bytes c.args.words.now in
    let held = g.D.Depot.held c.args.depot.now in
    let status = status_of c.work.result.ending in
    outcome_from words held status c.work.result.schedules (g.S.OutputStream.parts c.args.stream) (g.S.OutputStream.aborts c.args.stream) (g.S.OutputStream.stream_faults c.args.stream) (g.O.Sink.written c.args.out.now) (g.O.Sink.faults c.args.out.now)
    (g.D.Depot.write_faults c.args.depot.now) (g.D.Depot.write_faults c.load.new.depot) _ c.load.ensures.write_faults
    (worked_on words held c.in-Ok.task status c.work.result.schedules _ _ c.in-Ok.ensures.read c.work.ensures.worked)

pub returns-in-Ok-clause-put : goal.returns-in-Ok-clause-put
returns-in-Ok-clause-put g c =
    put_from c.work.result.schedules (status_of c.work.result.ending) (g.D.Depot.held c.args.depot.now) (g.D.Depot.held c.load.new.depot) (g.D.Depot.held c.work.new.depot)
    (g.D.Depot.write_faults c.args.depot.now) (g.D.Depot.write_faults c.load.new.depot) (g.D.Depot.write_faults c.work.new.depot) c.load.ensures.held c.load.ensures.write_faults c.work.ensures.put

pub returns-in-Ok-clause-readable : goal.returns-in-Ok-clause-readable
returns-in-Ok-clause-readable g c = inr (may_read_all (map string_bytes c.args.words.now) (g.D.Depot.held c.args.depot.now) c.in-Ok.ensures.ok)

pub returns-in-Err-clause-readable : goal.returns-in-Err-clause-readable
returns-in-Err-clause-readable g c =
    inl (stops_reading (map string_bytes c.args.words.now) (g.D.Depot.held c.args.depot.now) (g.D.Depot.misses c.args.depot.now) (g.D.Depot.misses c.load.new.depot)
    (g.D.Depot.read_faults c.args.depot.now) (g.D.Depot.read_faults c.load.new.depot) c.in-Err.ending c.in-Err.ensures.err)

pub returns-in-Ok-clause-named : goal.returns-in-Ok-clause-named
returns-in-Ok-clause-named g c =
    named_at_end (map string_bytes c.args.words.now) (g.D.Depot.held c.args.depot.now) c.in-Ok.task c.work.result.ending c.in-Ok.ensures.read c.work.ensures.ending c.work.ensures.due
