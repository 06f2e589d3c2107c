use Rattle.std.proofs.Common.{List, ℕ, sym, subst}
use Rattle.item_text.specs.Items.{Spells}
use Rattle.item_text.proofs.Spelling.{whole_put}
use Rattle.item_text.proofs.CanonicalItems.{canonical_items}
use Rattle.item_text.proofs.item_writing.write_items.Goals as goal

pub returns-clause-text : goal.returns-clause-text
returns-clause-text c =
    whole_put c.args.items.now c.as_slice.result.now c.new-out.result.items c.put_head.new.out.items c.put_items.new.out.items
    c.new-out.ensures.items c.in_ok-put_head.ensures c.as_slice.ensures c.in_ok-put_items.ensures

pub returns-clause-spells : goal.returns-clause-spells
returns-clause-spells c =
    subst (λ (text : List ℕ). Spells text c.args.items.now)
    (sym (whole_put c.args.items.now c.as_slice.result.now c.new-out.result.items c.put_head.new.out.items c.put_items.new.out.items
    c.new-out.ensures.items c.in_ok-put_head.ensures c.as_slice.ensures c.in_ok-put_items.ensures))
    (canonical_items c.args.items.now c.requires)
