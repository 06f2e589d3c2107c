use Rattle.std.proofs.Common.{◌≡◌, sym, subst}
use Rattle.std.specs.Prelude.{OnOk}
use Rattle.std.specs.Ordering.{nat_cmp}
use Rattle.prof_base.specs.Ordered.{insert_sorted}
use Rattle.session_book.specs.Book.{running}
use Rattle.session_book.proofs.OfBook.{put_or_not, on_ok_ids, on_ok_started, may_start}
use Rattle.session_book.proofs.Standing.{AreApart}
use Rattle.session_book.proofs.book.Book.begin.Goals as goal

pub invariant_of-self : goal.invariant_of-self
invariant_of-self c =
    let may = may_start c.args.self.now c.self.inside.base c.args.id.0 c.self.inside.sessions.items c.self.view_is c.requires in
    put_or_not c.put_session.result c.self.inside.base c.self.inside.sessions.items c.put_session.new.sessions.items c.in_ok-session.session c.put_session.ensures.ok c.put_session.ensures.err
    (subst (λ id. AreApart id.0 c.self.inside.sessions.items) (sym c.in_ok-session.ensures.id) may.0) may.1 c.self.invariant

pub returns-clause-stands : goal.returns-clause-stands
returns-clause-stands c =
    let may = may_start c.args.self.now c.self.inside.base c.args.id.0 c.self.inside.sessions.items c.self.view_is c.requires in
    on_ok_started c.put_session.result c.args.self.now c.self.inside.base c.self.inside.sessions.items c.put_session.new.sessions.items c.in_ok-session.session c.args.id c.args.options c.args.time
    c.self.view_is c.put_session.ensures.ok may.0 c.in_ok-session.ensures.id c.in_ok-session.ensures.begun

pub returns-clause-running : goal.returns-clause-running
returns-clause-running c =
    let may = may_start c.args.self.now c.self.inside.base c.args.id.0 c.self.inside.sessions.items c.self.view_is c.requires in
    subst (λ id. OnOk c.put_session.result (running (record { base = c.self.inside.base; sessions = c.put_session.new.sessions.items }) ≡ insert_sorted nat_cmp id.0 (running c.args.self.now)))
    c.in_ok-session.ensures.id
    (on_ok_ids c.put_session.result c.args.self.now c.self.inside.base c.self.inside.sessions.items c.put_session.new.sessions.items c.in_ok-session.session c.self.view_is c.put_session.ensures.ok
    (subst (λ id. AreApart id.0 c.self.inside.sessions.items) (sym c.in_ok-session.ensures.id) may.0))
