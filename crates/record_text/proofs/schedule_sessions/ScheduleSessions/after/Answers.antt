use Rattle.record_text.proofs.schedule_sessions.ScheduleSessions.after.Goals as goal

pub returns-in-Stop : goal.returns-in-Stop
returns-in-Stop c = rw c.in-Stop.is (c.with_stop.ensures c.in-Stop.port)
