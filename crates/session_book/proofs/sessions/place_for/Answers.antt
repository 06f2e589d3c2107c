use Rattle.std.proofs.Common.{sym}
use Rattle.session_book.proofs.Places.{found_for, end_for}
use Rattle.session_book.proofs.sessions.place_for.Goals as goal

pub returns-in-Some : goal.returns-in-Some
returns-in-Some c = found_for c.args.id.0 c.args.sessions.now c.in-Some.at (sym c.in-Some.ensures)

pub returns-in-None : goal.returns-in-None
returns-in-None c = end_for c.args.id.0 c.args.sessions.now (sym c.in-None.ensures)
