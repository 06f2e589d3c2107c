use Rattle.isolate_guest.proofs.Moments.{guests_show}
use Rattle.isolate_guest.proofs.laws.guests_show_their_program.Goals as goal

pub returns : goal.returns
returns c = record { shows = guests_show }
