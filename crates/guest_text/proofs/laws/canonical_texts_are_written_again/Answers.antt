use Rattle.guest_text.proofs.ProgramTexts.{canonical_texts_stay}
use Rattle.guest_text.proofs.laws.canonical_texts_are_written_again.Goals as goal

pub returns : goal.returns
returns c = canonical_texts_stay
