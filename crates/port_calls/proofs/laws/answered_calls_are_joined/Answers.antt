use Rattle.port_calls.proofs.Answering.{calls_join, calls_split}
use Rattle.port_calls.proofs.laws.answered_calls_are_joined.Goals as goal

pub returns : goal.returns
returns g c = record { join = calls_join; split = calls_split }
