use Rattle.item_text.proofs.ItemTexts.{spelled, keeps_rules, only_list, never_refused, refused_first}
use Rattle.item_text.proofs.items.read_items.Goals as goal

pub returns-in-Ok-clause-spelled : goal.returns-in-Ok-clause-spelled
returns-in-Ok-clause-spelled c = spelled c.args.text.now c.in-Ok.list c.in-Ok.ensures.lines

pub returns-in-Ok-clause-rules : goal.returns-in-Ok-clause-rules
returns-in-Ok-clause-rules c = keeps_rules c.args.text.now c.in-Ok.list c.in-Ok.ensures.stamped c.in-Ok.ensures.lines

pub returns-in-Ok-clause-only : goal.returns-in-Ok-clause-only
returns-in-Ok-clause-only c list is s = only_list c.args.text.now c.in-Ok.list list c.in-Ok.ensures.stamped c.in-Ok.ensures.lines is s

pub returns-in-Err-At-clause-never : goal.returns-in-Err-At-clause-never
returns-in-Err-At-clause-never c list is s =
    let e = rw c.in-Err-At.field-0-is at c.in-Err-At.ensures.lines in
    never_refused c.args.text.now (c.in-Err-At.line, c.in-Err-At.cause) list e is s

pub returns-in-Err-At-clause-refused : goal.returns-in-Err-At-clause-refused
returns-in-Err-At-clause-refused c =
    let e = rw c.in-Err-At.field-0-is at c.in-Err-At.ensures.lines in
    (c.in-Err-At.cause, refused_first c.args.text.now (c.in-Err-At.line, c.in-Err-At.cause) e, c.line_cause.ensures)
