use Rattle.record_text.proofs.ScheduleTexts.{canonical_texts_stay}
use Rattle.record_text.proofs.laws.schedules.schedules_are_written_as_they_were_read.Goals as goal

pub returns : goal.returns
returns c = canonical_texts_stay
