use Rattle.std.proofs.Common.{rules}
use Rattle.item_text.proofs.LegalItems.{kept_lists_are_legal}
use Rattle.processor_cases.proofs.reference.folded.Goals as goal

pub fold_items-folded-requires-clause-legal : goal.fold_items-folded-requires-clause-legal
fold_items-folded-requires-clause-legal c = search (rules, kept_lists_are_legal c.args.list.now c.requires.rules)
