use Rattle.item_text.proofs.LegalItems.{kept_lists_are_legal}
use Rattle.item_text.proofs.laws.lists_that_keep_the_rules_are_legal.Goals as goal

pub returns : goal.returns
returns c = kept_lists_are_legal
