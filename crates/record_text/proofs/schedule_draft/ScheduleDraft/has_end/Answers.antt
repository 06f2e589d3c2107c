use Rattle.std.proofs.Common.{◌∙◌, ap}
use Rattle.run_schedule.specs.Schedule.{has_end}
use Rattle.record_text.proofs.ScheduleDrafts.{ended_by}
use Rattle.record_text.proofs.schedule_draft.ScheduleDraft.has_end.Goals as goal

pub returns : goal.returns
returns c = c.has_end.ensures ∙ ap has_end c.entries.ensures.entries ∙ ended_by c.self.inside.schedule c.args.self.now c.self.view_is
