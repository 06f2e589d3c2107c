use Rattle.std.proofs.Common.{◌∙◌, ap}
use Rattle.code_event.specs.DeoptReasons.{reasons_in}
use Rattle.code_map.specs.CodeMap.{HasReasons}
use Rattle.code_map.proofs.map.CodeMap.reason_of.Goals as goal

pub returns : goal.returns
unfolding HasReasons
returns c = λ reasons of.
    c.reason_in.ensures ∙ ap (λ rs. reasons_in rs c.args.entry.now) (c.deref.ensures.value ∙ ap (λ m. m.reasons) c.self.view_is) ∙ of c.args.entry.now
