use Rattle.code_layout.proofs.Counting.{slots_are_counted}
use Rattle.code_layout.proofs.Rules.{small_is_layout}
use Rattle.code_layout.proofs.laws.slots_are_counted.Goals as goal

pub returns : goal.returns
returns c = record { counted = slots_are_counted; rules = small_is_layout }
