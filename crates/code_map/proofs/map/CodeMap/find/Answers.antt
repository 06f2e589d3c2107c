use Rattle.std.proofs.Common.{◌∙◌, ap}
use Rattle.code_map.specs.CodeMap.{HasRanges, found_at}
use Rattle.code_map.proofs.map.CodeMap.find.Goals as goal

pub returns-clause-found : goal.returns-clause-found
unfolding HasRanges
returns-clause-found c = λ ranges of. c.place_of.ensures ∙ ap (λ rs. found_at rs c.args.address) (c.deref.ensures.value ∙ ap (λ m. m.objects) c.self.view_is ∙ of.are)
