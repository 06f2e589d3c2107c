use Rattle.session_book.proofs.OfCalls.{stops_end_what_began}
use Rattle.session_book.proofs.laws.stops_end_what_began.Goals as goal

pub returns : goal.returns
returns c = stops_end_what_began
