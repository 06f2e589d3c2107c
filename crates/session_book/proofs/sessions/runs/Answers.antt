use Rattle.std.proofs.Common.{◌↔◌, map, sym, subst}
use Rattle.std.specs.Prelude.{IsTrue}
use Rattle.std.specs.List.{Contains}
use Rattle.session_book.specs.Book.{number_of}
use Rattle.session_book.proofs.Places.{found_listed}
use Rattle.session_book.proofs.sessions.runs.Goals as goal

pub returns : goal.returns
returns c =
    subst (λ r. IsTrue r ↔ Contains (map number_of c.args.sessions.now) c.args.id.0) (sym c.is_some.ensures)
    (found_listed c.args.id.0 c.args.sessions.now c.place_of.result (sym c.place_of.ensures))
