use Rattle.std.proofs.Common.{◌∙◌}
use Rattle.record_text.proofs.ScheduleOrder.{last_decides}
use Rattle.record_text.proofs.schedule_rules.is_in_order.Goals as goal

pub returns-in-Some : goal.returns-in-Some
returns-in-Some c =
    c.may_stand_behind.ensures
    ∙ last_decides c.args.entries.now c.in-Some.field-0-1.now c.in-Some.last.now c.args.entry.now c.in-Some.ensures.cases.0 c.requires
