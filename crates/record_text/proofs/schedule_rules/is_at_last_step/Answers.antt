use Rattle.record_text.proofs.ScheduleOrder.{last_is_at}
use Rattle.record_text.proofs.schedule_rules.is_at_last_step.Goals as goal

pub returns-in-Some : goal.returns-in-Some
returns-in-Some c = last_is_at c.args.entries.now c.in-Some.field-0-1.now c.in-Some.last.now c.args.step c.in-Some.ensures.cases.0
