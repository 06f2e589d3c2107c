use Rattle.session_book.proofs.OfCalls.{sessions_are_independent}
use Rattle.session_book.proofs.laws.sessions_are_independent.Goals as goal

pub returns : goal.returns
returns c = sessions_are_independent
