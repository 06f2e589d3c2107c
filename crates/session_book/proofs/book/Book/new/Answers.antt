use Rattle.std.proofs.Common.{[], map, sym, ap, subst}
use Rattle.session_book.specs.Book.{StandsFor, number_of, AllRecorded}
use Rattle.session_book.proofs.book.Book.new.Goals as goal

pub returns-clause-stands : goal.returns-clause-stands
unfolding StandsFor
returns-clause-stands c = (ap (map number_of) c.new.ensures.items, subst (AllRecorded c.args.base []) (sym c.new.ensures.items) tt)
