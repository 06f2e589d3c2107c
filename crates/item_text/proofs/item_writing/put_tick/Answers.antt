use Rattle.item_text.proofs.Spelling.{tick_put}
use Rattle.item_text.proofs.item_writing.put_tick.Goals as goal

pub returns : goal.returns
returns c =
    tick_put c.args.out.now.items c.extend_from_slice.new.self.items c.put_moment.new.out.items c.put_numbers.new.out.items c.push.new.self.items c.args.tick.now
    c.in_ok-extend_from_slice.ensures.items c.in_ok-put_moment.ensures (rw (← c.as_slice.ensures.addresses) c.in_ok-put_numbers.ensures) c.in_ok-push.ensures.items
