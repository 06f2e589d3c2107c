use Rattle.guest_text.proofs.ProgramTexts.{canonical_program, texts_spell_one, programs_have_their_texts}
use Rattle.guest_text.proofs.laws.what_was_written_is_read_again.Goals as goal

pub returns : goal.returns
returns c = record { spell = canonical_program; one = texts_spell_one; texts = programs_have_their_texts }
