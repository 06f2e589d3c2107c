use Rattle.std.proofs.Common.{◌∙◌, Ok, ap}
use Rattle.guest_text.specs.declared.program_line.ProgramLine.{ProgramLine}
use Rattle.guest_text.specs.declared.program_line.ProgramLine.TheVariants as line
use Rattle.guest_text.proofs.DraftLines.{next_is}
use Rattle.guest_text.proofs.LineForms.{line_head_fits}
use Rattle.guest_text.proofs.draft.Draft.next.Goals as goal

pub with_func-requires : goal.with_func-requires
with_func-requires c =
    line_head_fits c.args.outline.now.labels c.size.result c.args.bytes.now c.in-Func.head (c.in_ok-head.ensures.line ∙ ap (λ (value : ProgramLine). Ok value) c.in-Func.is)

pub returns-in-Instr : goal.returns-in-Instr
returns-in-Instr c =
    rw (next_is c.args.outline.now c.args.self c.args.bytes.now c.size.result (line.Instr c.in-Instr.instr) c.size.ensures
    (c.in_ok-head.ensures.line ∙ ap (λ (value : ProgramLine). Ok value) c.in-Instr.is))
    (c.with_instr.ensures c.args.outline.now.sizes)
