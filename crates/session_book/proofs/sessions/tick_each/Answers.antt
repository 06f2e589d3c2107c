use Rattle.std.proofs.Common.{sym, ap, ◌∙◌, subst, arith}
use Rattle.std.proofs.Math.Seq.{map-set_same}
use Rattle.session_book.specs.Book.{number_of}
use Rattle.session_book.specs.Session.{TakesTick}
use Rattle.session_book.specs.declared.session.Session.{Session}
use Rattle.session_book.proofs.OfBook.{from_ok}
use Rattle.session_book.proofs.Ticking.{one_more_by, all_by}
use Rattle.session_book.proofs.sessions.tick_each.Goals as goal

pub returns-in_err-tick-clause-ids : goal.returns-in_err-tick-clause-ids
returns-in_err-tick-clause-ids c =
    map-set_same number_of c.loop-session.sessions c.loop-session.session-index c.tick.new.self c.session-item.result (ap (λ id. id.0) c.tick.ensures.id)
    ∙ c.loop-session.invariant.ids

pub loop-session-preserved : goal.loop-session-preserved
loop-session-preserved c = record {
  ids = map-set_same number_of c.loop-session.sessions c.loop-session.session-index c.tick.new.self c.session-item.result (ap (λ id. id.0) c.tick.ensures.id)
      ∙ c.loop-session.invariant.ids;
  taken = one_more_by (TakesTick c.args.tick.now c.args.paths.now) c.loop-session.session-index c.args.sessions.now c.loop-session.sessions c.session-item.result c.tick.new.self
      (omega arith) c.session-item.is c.loop-session.invariant.taken (subst (λ (old : Session). TakesTick c.args.tick.now c.args.paths.now old c.tick.new.self) (sym c.session-item.is)
      (from_ok c.tick.result c.in_ok-tick.field-0 c.in_ok-tick.was c.tick.ensures.taken));
}

pub returns-clause-taken : goal.returns-clause-taken
returns-clause-taken c =
    all_by (TakesTick c.args.tick.now c.args.paths.now) c.loop-session.session-index c.args.sessions.now c.loop-session.sessions (omega arith) c.loop-session.invariant.taken
