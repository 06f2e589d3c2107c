use Rattle.std.proofs.Common.{◌≡◌, ◌++◌, take}
use Rattle.item_text.specs.ItemSpelling.{body_text}
use Rattle.item_text.proofs.item_writing.put_items.Given as goal

abbrev pub invariant-loop-item : goal.invariant-loop-item
invariant-loop-item l = l.out.items ≡ l.fn.out.items ++ body_text (take l.item-index l.items)
