use Rattle.std.proofs.Common.{◌≡◌, ◌++◌, take}
use Rattle.item_text.specs.ItemSpelling.{units_text}
use Rattle.item_text.proofs.item_writing.put_units.Given as goal

abbrev pub invariant-loop-unit : goal.invariant-loop-unit
invariant-loop-unit l = l.out.items ≡ l.fn.out.items ++ units_text (take l.unit-index l.units)
