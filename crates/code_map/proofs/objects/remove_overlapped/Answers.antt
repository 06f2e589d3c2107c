use Rattle.std.proofs.Common.{rules, not}
use Rattle.std.proofs.lemmas.Fn.{filter_same}
use Rattle.code_event.specs.CodeMap.{meets}
use Rattle.code_map.proofs.objects.remove_overlapped.Goals as goal

pub returns : goal.returns
returns c = filter_same _ (λ r. not (meets r c.args.new.now)) _ (λ x b f' t. search rules) _ _ c.retain.ensures.filtered
