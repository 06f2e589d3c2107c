use Rattle.session_book.proofs.Stopping.{found_runs, none_runs, book_without, runs_without, stands_without, profile_of_book}
use Rattle.session_book.proofs.book.Book.stop.Goals as goal

pub returns-in_default-clause-running : goal.returns-in_default-clause-running
returns-in_default-clause-running c =
    runs_without c.args.self.now c.self.inside.base c.args.id.0 c.self.inside.sessions.items c.take_session.new.sessions.items c.self.view_is c.take_session.ensures.others c.self.invariant

pub returns-in_default-clause-refused : goal.returns-in_default-clause-refused
returns-in_default-clause-refused c = none_runs c.args.self.now c.self.inside.base c.args.id.0 c.self.inside.sessions.items c.self.view_is c.in_default.ensures.taken

pub invariant_of-self-in_default-finished : goal.invariant_of-self-in_default-finished
invariant_of-self-in_default-finished c =
    book_without c.self.inside.base c.args.id.0 c.self.inside.sessions.items c.take_session.new.sessions.items c.take_session.ensures.others c.self.invariant

pub returns-in_default-finished-clause-running : goal.returns-in_default-finished-clause-running
returns-in_default-finished-clause-running c =
    runs_without c.args.self.now c.self.inside.base c.args.id.0 c.self.inside.sessions.items c.take_session.new.sessions.items c.self.view_is c.take_session.ensures.others c.self.invariant

pub returns-in_default-finished-clause-refused : goal.returns-in_default-finished-clause-refused
returns-in_default-finished-clause-refused c =
    found_runs c.args.self.now c.self.inside.base c.args.id.0 c.self.inside.sessions.items c.in-Some.session c.self.view_is c.in-Some.ensures.taken

pub invariant_of-self-2 : goal.invariant_of-self-2
invariant_of-self-2 c =
    book_without c.self.inside.base c.args.id.0 c.self.inside.sessions.items c.take_session.new.sessions.items c.take_session.ensures.others c.self.invariant

pub returns-clause-stands : goal.returns-clause-stands
returns-clause-stands c =
    stands_without c.args.self.now c.self.inside.base c.args.id c.args.time c.self.inside.sessions.items c.take_session.new.sessions.items c.self.view_is c.take_session.ensures.others c.self.invariant

pub returns-clause-finished : goal.returns-clause-finished
returns-clause-finished c =
    profile_of_book c.args.self.now c.self.inside.base c.self.inside.sessions.items c.in-Some.session c.args.id c.args.time c.in-Ok.finished c.self.view_is c.in-Some.ensures.taken c.in-Ok.ensures.profile

pub returns-clause-running : goal.returns-clause-running
returns-clause-running c =
    runs_without c.args.self.now c.self.inside.base c.args.id.0 c.self.inside.sessions.items c.take_session.new.sessions.items c.self.view_is c.take_session.ensures.others c.self.invariant

pub returns-clause-ok : goal.returns-clause-ok
returns-clause-ok c =
    found_runs c.args.self.now c.self.inside.base c.args.id.0 c.self.inside.sessions.items c.in-Some.session c.self.view_is c.in-Some.ensures.taken
