use Rattle.std.proofs.Common.{ap, ◌∙◌}
use Rattle.isolate_progress.proofs.Holding.{any_session}
use Rattle.isolate_progress.proofs.sessions.Sessions.runs.Goals as goal

pub returns : goal.returns
returns c = any_session c.args.port c.args.number _ c.as_slice.result.now c.holds.result c.holds.ensures (c.as_slice.ensures.value ∙ ap (λ s. s.course.running) c.self.view_is)
