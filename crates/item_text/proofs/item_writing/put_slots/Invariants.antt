use Rattle.std.proofs.Common.{◌≡◌, ◌++◌, take}
use Rattle.item_text.specs.ItemSpelling.{slots_text}
use Rattle.item_text.proofs.item_writing.put_slots.Given as goal

abbrev pub invariant-loop-slot : goal.invariant-loop-slot
invariant-loop-slot l = l.out.items ≡ l.fn.out.items ++ slots_text (take l.slot-index l.slots)
