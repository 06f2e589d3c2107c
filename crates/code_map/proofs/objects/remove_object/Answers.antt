use Rattle.std.proofs.Common.{rules, not, ◌==◌}
use Rattle.std.proofs.lemmas.Fn.{filter_same}
use Rattle.code_map.proofs.objects.remove_object.Goals as goal

pub returns : goal.returns
returns c = filter_same _ (λ r. not (r.start == c.args.start)) _ (λ x b f' t. search rules) _ _ c.retain.ensures.filtered
