use Rattle.record_text.proofs.ScheduleSessions.{stopped_one, numbered_fewer}
use Rattle.record_text.proofs.schedule_sessions.ScheduleSessions.with_stop.Goals as goal

pub invariant_of-result : goal.invariant_of-result
invariant_of-result c =
    numbered_fewer c.args.session.0 c.self.inside.started c.self.inside.running.entries c.remove.new.self.entries c.self.invariant c.remove.ensures.entries c.remove.ensures.ordered

pub returns : goal.returns
returns c port =
    stopped_one c.args.self c.self.inside.started port c.args.session c.self.inside.running.entries c.remove.new.self.entries c.self.view_is c.self.invariant c.remove.ensures.entries
