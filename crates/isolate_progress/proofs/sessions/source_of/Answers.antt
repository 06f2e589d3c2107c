use Rattle.isolate_progress.proofs.SourceTaken.{source_taken}
use Rattle.isolate_progress.proofs.sessions.source_of.Goals as goal

pub loop-session-preserved : goal.loop-session-preserved
loop-session-preserved c =
    source_taken c.args.base c.args.running.now c.loop-session.session-index c.session-item.result c.loop-session.source c.interval.result c.source_next-source.result
    c.loop-session-test.true c.session-item.is c.interval.ensures.interval c.loop-session.invariant c.source_next-source.ensures.source
