use Rattle.std.proofs.Common.{add-one, refl}
use Rattle.record_text.proofs.ScriptSessions.{insert_last, bound_more}
use Rattle.record_text.proofs.script_sessions.ScriptSessions.with_start.Goals as goal

pub invariant_of-result : goal.invariant_of-result
invariant_of-result c = record {
  rising = c.insert.ensures.ordered;
  bound = rw (c.in_ok-insert.ensures.keys, add-one, insert_last c.self.inside.started c.self.inside.running.keys c.self.invariant.bound) (bound_more c.self.inside.started c.self.inside.running.keys c.self.invariant.bound);
}

pub returns : goal.returns
returns c = rw (← c.self.view_is, c.in_ok-insert.ensures.keys, add-one, insert_last c.self.inside.started c.self.inside.running.keys c.self.invariant.bound) refl
