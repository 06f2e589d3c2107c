use Rattle.std.proofs.Common.{◌∙◌}
use Rattle.record_text.proofs.ScheduleOrder.{last_ends}
use Rattle.record_text.proofs.schedule_draft.has_end.Goals as goal

pub returns-in-Some : goal.returns-in-Some
returns-in-Some c = c.is_end.ensures ∙ last_ends c.args.entries.now c.in-Some.field-0-1.now c.in-Some.last.now c.in-Some.ensures.cases.0 c.requires
