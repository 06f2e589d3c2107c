use Rattle.std.proofs.Common.{◌∙◌, ap}
use Rattle.code_layout.specs.Layouts.{inlined_layout}
use Rattle.code_layout.proofs.SizeTable.{too_large, small}
use Rattle.code_layout.proofs.layouts.inlined.Goals as goal

pub returns-then-slots-clause-refused : goal.returns-then-slots-clause-refused
returns-then-slots-clause-refused c = too_large c.args.program.now c.funcs-funcs.result.now c.args.func.0 c.in_ok-slots.slots c.funcs-funcs.ensures.functions c.in_ok-slots.ensures c.if-slots.true

pub returns-clause-layout : goal.returns-clause-layout
returns-clause-layout c = c.in_ok-layout.ensures ∙ ap (λ funcs. inlined_layout funcs c.args.func.0) c.funcs-funcs.ensures.functions

pub returns-clause-small : goal.returns-clause-small
returns-clause-small c = small c.args.program.now c.funcs-funcs.result.now c.args.func.0 c.in_ok-slots.slots c.funcs-funcs.ensures.functions c.in_ok-slots.ensures c.if-slots.false
