use Rattle.std.proofs.Common.{subst}
use Rattle.std.specs.Ordering.{nat_cmp}
use Rattle.prof_base.specs.Ordered.{Rises}
use Rattle.session_book.proofs.OfBook.{running_is, first_is}
use Rattle.session_book.proofs.book.Book.first_running.Goals as goal

pub returns-in-Some-clause-first : goal.returns-in-Some-clause-first
returns-in-Some-clause-first c = first_is c.args.self.now c.self.inside.base c.self.inside.sessions.items c.deref.result.now _ c.self.view_is c.deref.ensures.value c.in-Some.ensures.value

pub returns-in-Some-clause-rises : goal.returns-in-Some-clause-rises
returns-in-Some-clause-rises c = subst (Rises nat_cmp) (running_is c.args.self.now c.self.inside.base c.self.inside.sessions.items c.self.view_is) c.self.invariant.rises

pub returns-in-None-clause-first : goal.returns-in-None-clause-first
returns-in-None-clause-first c = first_is c.args.self.now c.self.inside.base c.self.inside.sessions.items c.deref.result.now _ c.self.view_is c.deref.ensures.value c.in-None.ensures.value

pub returns-in-None-clause-rises : goal.returns-in-None-clause-rises
returns-in-None-clause-rises c = subst (Rises nat_cmp) (running_is c.args.self.now c.self.inside.base c.self.inside.sessions.items c.self.view_is) c.self.invariant.rises
