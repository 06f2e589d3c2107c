use Rattle.std.proofs.Common.{◌≡◌, take}
use Rattle.code_event.specs.ItemList.{without}
use Rattle.item_text.proofs.progress.without.Given as goal

abbrev pub invariant-loop-number : goal.invariant-loop-number
invariant-loop-number l = l.others.items ≡ without l.session.0 (take l.number-index l.numbers)
