use Rattle.std.proofs.Common.{rules, ◌∙◌, ap, filter, not, ◌==◌}
use Rattle.std.proofs.lemmas.Fn.{filter_same}
use Rattle.reference_profile.proofs.code_map.without_range.Goals as goal

pub returns : goal.returns
returns c =
    c.from_vec.ensures
    ∙ filter_same _ (λ r. not (r.start == c.args.start)) _ (λ x b f' t. search rules) _ _ c.retain.ensures.filtered
    ∙ ap (filter (λ r. not (r.start == c.args.start))) c.into_vec-kept.ensures
