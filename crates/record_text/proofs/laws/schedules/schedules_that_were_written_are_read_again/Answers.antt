use Rattle.record_text.proofs.CanonicalSchedules.{canonical_schedule}
use Rattle.record_text.proofs.ScheduleTexts.{texts_spell_one, schedules_have_their_texts}
use Rattle.record_text.proofs.laws.schedules.schedules_that_were_written_are_read_again.Goals as goal

pub returns : goal.returns
returns c = record { spell = canonical_schedule; one = texts_spell_one; texts = schedules_have_their_texts }
