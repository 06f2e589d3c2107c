use Rattle.record_text.proofs.ScheduleSessions.{found_runs, missing_runs}
use Rattle.record_text.proofs.schedule_sessions.ScheduleSessions.is_running.Goals as goal

pub returns-in-Some : goal.returns-in-Some
returns-in-Some c =
    rw (← c.self.view_is)
    (found_runs c.args.session.0 c.args.port c.self.inside.running.entries c.in-Some.found.now c.self.invariant.rising c.in-Some.ensures.value)

pub returns-in-None : goal.returns-in-None
returns-in-None c =
    rw (← c.self.view_is)
    (missing_runs c.args.session.0 c.args.port c.self.inside.running.entries c.self.invariant.rising c.in-None.ensures.value)
