use Rattle.item_text.proofs.ItemForms.{item_fits}
use Rattle.item_text.proofs.item_form.item.Goals as goal

pub returns-clause-fits : goal.returns-clause-fits
returns-clause-fits c = item_fits c.args.first c.in_ok-word.word.now c.in_ok-word.rest.now c.item_of.result c.item_of.ensures
