use Rattle.record_text.proofs.ScheduleSessions.{started_one, numbered_more}
use Rattle.record_text.proofs.schedule_sessions.ScheduleSessions.with_start.Goals as goal

pub invariant_of-result : goal.invariant_of-result
invariant_of-result c =
    numbered_more c.self.inside.started _ c.self.inside.running.entries c.insert.new.self.entries c.self.invariant c.in_ok-insert.ensures.entries c.insert.ensures.ordered

pub returns : goal.returns
returns c =
    started_one c.args.self c.self.inside.started c.args.options c.self.inside.running.entries c.insert.new.self.entries c.self.view_is c.self.invariant c.in_ok-insert.ensures.entries
