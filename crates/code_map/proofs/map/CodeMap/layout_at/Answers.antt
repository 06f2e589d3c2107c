use Rattle.std.proofs.Common.{◌∙◌, ap}
use Rattle.std.specs.Prelude.{option_map}
use Rattle.code_event.specs.CodeMap.{range_at}
use Rattle.code_map.specs.CodeMap.{HasRanges}
use Rattle.code_map.proofs.map.CodeMap.layout_at.Goals as goal

pub returns : goal.returns
unfolding HasRanges
returns c = λ ranges of.
    c.layout_at.ensures
    ∙ ap (λ rs. option_map (λ r. r.layout) (range_at rs c.args.start)) (c.deref.ensures.value ∙ ap (λ m. m.objects) c.self.view_is ∙ of.are)
