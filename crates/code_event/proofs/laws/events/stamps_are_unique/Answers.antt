use Rattle.code_event.proofs.Stamping.{keeps_stamped, stamped_are_one}
use Rattle.code_event.proofs.laws.events.stamps_are_unique.Goals as goal

pub returns : goal.returns
returns c = record { kept = keeps_stamped; one = stamped_are_one }
