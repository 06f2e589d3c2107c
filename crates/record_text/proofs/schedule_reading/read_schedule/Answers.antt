use Rattle.record_text.proofs.ScheduleTexts.{spelled, keeps_rules, only_schedule, never_refused, refused_first}
use Rattle.record_text.proofs.schedule_reading.read_schedule.Goals as goal

pub returns-in-Ok-clause-spelled : goal.returns-in-Ok-clause-spelled
returns-in-Ok-clause-spelled c = spelled c.args.text.now c.in-Ok.schedule c.in-Ok.ensures

pub returns-in-Ok-clause-rules : goal.returns-in-Ok-clause-rules
returns-in-Ok-clause-rules c = keeps_rules c.args.text.now c.in-Ok.schedule c.in-Ok.ensures

pub returns-in-Ok-clause-only : goal.returns-in-Ok-clause-only
returns-in-Ok-clause-only c schedule is s = only_schedule c.args.text.now c.in-Ok.schedule schedule c.in-Ok.ensures is s

pub returns-in-Err-At-clause-never : goal.returns-in-Err-At-clause-never
returns-in-Err-At-clause-never c schedule is s =
    let e = rw c.in-Err-At.field-0-is at c.in-Err-At.ensures in
    never_refused c.args.text.now (c.in-Err-At.line, c.in-Err-At.cause) schedule e is s

pub returns-in-Err-At-clause-refused : goal.returns-in-Err-At-clause-refused
returns-in-Err-At-clause-refused c =
    let e = rw c.in-Err-At.field-0-is at c.in-Err-At.ensures in
    (c.in-Err-At.cause, refused_first c.args.text.now (c.in-Err-At.line, c.in-Err-At.cause) e, c.line_cause.ensures)
