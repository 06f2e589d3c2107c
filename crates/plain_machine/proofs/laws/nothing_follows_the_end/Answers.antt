use Rattle.plain_machine.proofs.Ends.{ends_are_final, none_is_given_up}
use Rattle.plain_machine.proofs.laws.nothing_follows_the_end.Goals as goal

pub returns : goal.returns
returns c = record { stays = ends_are_final; none_given_up = none_is_given_up }
