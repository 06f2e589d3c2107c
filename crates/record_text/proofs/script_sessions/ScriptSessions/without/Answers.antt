use Rattle.std.proofs.Common.{refl, not, ◌==◌, ◌≤◌}
use Rattle.record_text.proofs.ScriptSessions.{remove_filters, bound_fewer}
use Rattle.record_text.proofs.script_sessions.ScriptSessions.without.Goals as goal

pub invariant_of-result : goal.invariant_of-result
invariant_of-result c = record {
  rising = c.remove.ensures.ordered;
  bound =
      rw (c.remove.ensures.keys, c.from.ensures, remove_filters c.args.session.0 c.self.inside.running.keys c.self.invariant.rising)
      (bound_fewer (λ k. k ≤ c.self.inside.started) (λ k. not (k == c.args.session.0)) c.self.inside.running.keys c.self.invariant.bound);
}

pub returns : goal.returns
returns c = rw (← c.self.view_is, c.remove.ensures.keys, c.from.ensures, remove_filters c.args.session.0 c.self.inside.running.keys c.self.invariant.rising) refl
