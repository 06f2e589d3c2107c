use Rattle.plain_machine.proofs.Reasons.{reasons_follow}
use Rattle.plain_machine.proofs.laws.each_reason_is_of_one_function.Goals as goal

pub returns : goal.returns
returns c = reasons_follow
