use Rattle.processor.proofs.Taking.{taking_adds_the_next, nothing_is_left, the_next_is_the_first_of_the_rest}
use Rattle.processor.proofs.laws.taking_keeps_the_order.Goals as goal

pub returns : goal.returns
returns c = record { adds = taking_adds_the_next; first = the_next_is_the_first_of_the_rest; nothing = nothing_is_left }
