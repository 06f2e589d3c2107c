use Rattle.std.proofs.Common.{rules, not, ◌==◌}
use Rattle.std.proofs.lemmas.Fn.{filter_same}
use Rattle.isolate_progress.proofs.sessions.remove.Goals as goal

pub returns-clause-others : goal.returns-clause-others
returns-clause-others c = filter_same _ (λ r. not (r.session == c.args.number.0)) _ (λ x b f' t. search rules) _ _ c.retain.ensures.filtered
