use Rattle.item_text.proofs.CanonicalItems.{canonical_items}
use Rattle.item_text.proofs.ItemTexts.{texts_spell_one, lists_have_their_texts}
use Rattle.item_text.proofs.laws.what_was_written_is_read_again.Goals as goal

pub returns : goal.returns
returns c = record { spell = canonical_items; one = texts_spell_one; texts = lists_have_their_texts }
