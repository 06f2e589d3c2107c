use Rattle.attribution.proofs.LegalNext.{nothing_follows_a_finish, starts_are_new, stops_are_of_running, running_have_not_ended}
use Rattle.attribution.proofs.laws.legal_lists_refuse_nothing.Goals as goal

pub returns : goal.returns
returns c = record { finish = nothing_follows_a_finish; start = starts_are_new; stop = stops_are_of_running; running = running_have_not_ended }
