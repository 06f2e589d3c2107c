use Rattle.std.proofs.Common.{rules, not, ◌==◌}
use Rattle.std.proofs.lemmas.Fn.{filter_same}
use Rattle.code_space.proofs.space.remove_range.Goals as goal

pub returns : goal.returns
returns c = filter_same _ (λ range. not (range.start == c.args.start)) _ (λ x b f' t. search rules) _ _ c.retain.ensures.filtered
