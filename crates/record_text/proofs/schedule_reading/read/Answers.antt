use Rattle.record_text.proofs.ScheduleForms.{head_fits}
use Rattle.record_text.proofs.schedule_reading.read.Goals as goal

pub begun-requires : goal.begun-requires
begun-requires c = head_fits _ c.in-Ok.head c.in-Ok.ensures
