use Rattle.std.proofs.Common.{◌≡◌, ◌++◌, take}
use Rattle.item_text.specs.ItemSpelling.{numbers_text}
use Rattle.item_text.proofs.item_writing.put_numbers.Given as goal

abbrev pub invariant-loop-number : goal.invariant-loop-number
invariant-loop-number l = l.out.items ≡ l.fn.out.items ++ numbers_text (take l.number-index l.numbers)
