use Rattle.std.proofs.Common.{◌∙◌}
use Rattle.record_text.proofs.Scripts.{spelled, keeps_rules, only_script, never_refused, refused_first}
use Rattle.record_text.proofs.script.read_script.Goals as goal

pub returns-in-Ok-clause-spelled : goal.returns-in-Ok-clause-spelled
returns-in-Ok-clause-spelled c = rw c.into_lines.ensures (spelled c.args.text.now _ c.in-Ok.ensures)

pub returns-in-Ok-clause-rules : goal.returns-in-Ok-clause-rules
returns-in-Ok-clause-rules c = rw c.into_lines.ensures (keeps_rules c.args.text.now _ c.in-Ok.ensures)

pub returns-in-Ok-clause-only : goal.returns-in-Ok-clause-only
returns-in-Ok-clause-only c script is s = c.into_lines.ensures ∙ only_script c.args.text.now _ script c.in-Ok.ensures is s

pub returns-in-Err-At-clause-never : goal.returns-in-Err-At-clause-never
returns-in-Err-At-clause-never c script is s =
    let e = rw c.in-Err-At.field-0-is at c.in-Err-At.ensures in
    never_refused c.args.text.now (c.in-Err-At.line, c.in-Err-At.cause) script e is s

pub returns-in-Err-At-clause-refused : goal.returns-in-Err-At-clause-refused
returns-in-Err-At-clause-refused c =
    let e = rw c.in-Err-At.field-0-is at c.in-Err-At.ensures in
    (c.in-Err-At.cause, refused_first c.args.text.now (c.in-Err-At.line, c.in-Err-At.cause) e, c.line_cause.ensures)
