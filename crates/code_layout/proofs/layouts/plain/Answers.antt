use Rattle.std.proofs.Common.{◌∙◌, sym, ap}
use Rattle.std.proofs.lemmas.Result.{IfOk-weaker}
use Rattle.code_layout.specs.Layouts.{layout_to}
use Rattle.code_layout.proofs.Expanding.{plain_inlines_nothing}
use Rattle.code_layout.proofs.layouts.plain.Goals as goal

pub returns : goal.returns
returns c =
    IfOk-weaker c.layout_to.result _ _
    (λ layout is. is ∙ ap (λ funcs. layout_to funcs 0 c.args.func.0) c.funcs.ensures.functions ∙ sym (plain_inlines_nothing c.args.program.now c.args.func.0)) c.layout_to.ensures
