use Rattle.std.proofs.Common.{rules, ◌∙◌, ap, filter, not}
use Rattle.std.proofs.lemmas.Fn.{filter_same}
use Rattle.code_event.specs.CodeMap.{meets}
use Rattle.reference_profile.proofs.code_map.apart_from.Goals as goal

pub returns : goal.returns
returns c =
    c.from_vec.ensures
    ∙ filter_same _ (λ r. not (meets r c.args.new.now)) _ (λ x b f' t. search rules) _ _ c.retain.ensures.filtered
    ∙ ap (filter (λ r. not (meets r c.args.new.now))) c.into_vec-kept.ensures
