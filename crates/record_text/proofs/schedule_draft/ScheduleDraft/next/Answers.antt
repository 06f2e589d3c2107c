use Rattle.record_text.proofs.ScheduleForms.{entry_fits}
use Rattle.record_text.proofs.schedule_draft.ScheduleDraft.next.Goals as goal

pub with-requires-clause-fits : goal.with-requires-clause-fits
with-requires-clause-fits c = entry_fits c.args.bytes.now c.in_ok-entry.entry c.in_ok-entry.ensures
