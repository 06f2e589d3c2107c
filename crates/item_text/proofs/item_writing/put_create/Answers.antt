use Rattle.item_text.proofs.Spelling.{create_put}
use Rattle.item_text.proofs.item_writing.put_create.Goals as goal

pub returns : goal.returns
returns c =
    create_put c.args.out.now.items c.put_begin.new.out.items c.put_units.new.out.items c.put_slots.new.out.items c.args.start c.args.layout.now
    c.in_ok-put_begin.ensures (rw (← c.units.ensures.units) c.in_ok-put_units.ensures) (rw (← c.slots.ensures.slots) c.in_ok-put_slots.ensures)
