use Rattle.std.proofs.Common.{arith}
use Rattle.session_book.proofs.OfBook.{is_running, not_running, count_running}
use Rattle.session_book.proofs.book.Book.start.Goals as goal

pub returns-then-runs-clause-refused : goal.returns-then-runs-clause-refused
returns-then-runs-clause-refused c =
    is_running c.args.self.now c.self.inside.base c.args.id.0 c.self.inside.sessions.items c.deref.result.now c.runs.result c.self.view_is c.deref.ensures.value c.runs.ensures c.if-runs.true

pub returns-then-len-ge-MAX_SESSIONS-clause-refused : goal.returns-then-len-ge-MAX_SESSIONS-clause-refused
returns-then-len-ge-MAX_SESSIONS-clause-refused c = (
  not_running c.args.self.now c.self.inside.base c.args.id.0 c.self.inside.sessions.items c.deref.result.now c.runs.result c.self.view_is c.deref.ensures.value c.runs.ensures c.if-runs.false,
  omega (arith, count_running c.args.self.now c.self.inside.base c.self.inside.sessions.items c.self.view_is, c.self.invariant.few, c.self.inside.sessions.ok.0),
)

pub begin-requires : goal.begin-requires
begin-requires c = (
  not_running c.args.self.now c.self.inside.base c.args.id.0 c.self.inside.sessions.items c.deref.result.now c.runs.result c.self.view_is c.deref.ensures.value c.runs.ensures c.if-runs.false,
  omega (arith, count_running c.args.self.now c.self.inside.base c.self.inside.sessions.items c.self.view_is, c.self.inside.sessions.ok.0),
)

pub returns-in-Ok-clause-ok : goal.returns-in-Ok-clause-ok
returns-in-Ok-clause-ok c = (
  not_running c.args.self.now c.self.inside.base c.args.id.0 c.self.inside.sessions.items c.deref.result.now c.runs.result c.self.view_is c.deref.ensures.value c.runs.ensures c.if-runs.false,
  omega (arith, count_running c.args.self.now c.self.inside.base c.self.inside.sessions.items c.self.view_is, c.self.inside.sessions.ok.0),
)

pub returns-in-Err-clause-refused : goal.returns-in-Err-clause-refused
returns-in-Err-clause-refused c = (
  not_running c.args.self.now c.self.inside.base c.args.id.0 c.self.inside.sessions.items c.deref.result.now c.runs.result c.self.view_is c.deref.ensures.value c.runs.ensures c.if-runs.false,
  omega (arith, count_running c.args.self.now c.self.inside.base c.self.inside.sessions.items c.self.view_is, c.self.inside.sessions.ok.0),
)
