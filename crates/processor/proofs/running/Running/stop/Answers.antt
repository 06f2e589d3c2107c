use Rattle.std.proofs.Common.{rules, not, ◌==◌, ap, ◌∙◌}
use Rattle.std.proofs.lemmas.Fn.{filter_same}
use Rattle.processor.specs.Running.{without_session}
use Rattle.processor.proofs.running.Running.stop.Goals as goal

pub returns-clause-others : goal.returns-clause-others
returns-clause-others c =
    filter_same _ (λ r. not (r.session.0 == c.args.session.0)) _ (λ x b f' t. search rules) _ _ c.retain.ensures.filtered
    ∙ ap (without_session c.args.session.0) c.self.view_is
