use Rattle.record_text.proofs.ScheduleForms.{start_is}
use Rattle.record_text.proofs.schedule_form.options.Goals as goal

pub returns : goal.returns
returns c = start_is _
