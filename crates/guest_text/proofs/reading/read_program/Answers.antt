use Rattle.std.proofs.Common.{◌∙◌, sym, subst}
use Rattle.guest_text.specs.ProgramText.{Spells}
use Rattle.guest_text.proofs.ProgramTexts.{spelled, keeps_rules, only_program, never_refused, refused_first}
use Rattle.guest_text.proofs.reading.read_program.Goals as goal

pub new-requires-clause-rules : goal.new-requires-clause-rules
new-requires-clause-rules c = keeps_rules c.args.text.now c.in-Ok.funcs.items c.in-Ok.ensures.lines

pub returns-in-Ok-clause-spelled : goal.returns-in-Ok-clause-spelled
returns-in-Ok-clause-spelled c = subst (Spells c.args.text.now) (sym c.new.ensures) (spelled c.args.text.now c.in-Ok.funcs.items c.in-Ok.ensures.lines)

pub returns-in-Ok-clause-only : goal.returns-in-Ok-clause-only
returns-in-Ok-clause-only c funcs is s = c.new.ensures ∙ only_program c.args.text.now c.in-Ok.funcs.items funcs c.in-Ok.ensures.lines is s

pub returns-in-Err-At-clause-never : goal.returns-in-Err-At-clause-never
returns-in-Err-At-clause-never c funcs is s =
    let e = rw c.in-Err-At.field-0-is at c.in-Err-At.ensures.lines in
    never_refused c.args.text.now (c.in-Err-At.line, c.in-Err-At.cause) funcs e is s

pub returns-in-Err-At-clause-refused : goal.returns-in-Err-At-clause-refused
returns-in-Err-At-clause-refused c =
    let e = rw c.in-Err-At.field-0-is at c.in-Err-At.ensures.lines in
    (c.in-Err-At.cause, refused_first c.args.text.now (c.in-Err-At.line, c.in-Err-At.cause) e, c.program_cause.ensures)
