use Rattle.std.proofs.Common.{map, sym, ap, ◌∙◌, arith}
use Rattle.std.proofs.lemmas.List.{length-map}
use Rattle.prof_base.specs.Interval.{rounded_of}
use Rattle.prof_base.proofs.Intervals.{source_of_next, source_stays_small}
use Rattle.session_book.specs.Book.{BookParts}
use Rattle.session_book.specs.declared.session.Session.{Session}
use Rattle.session_book.proofs.Intervals.{interval_at, source_of_all}
use Rattle.session_book.proofs.book.Book.source_interval.Goals as goal

pub loop-session-preserved : goal.loop-session-preserved
loop-session-preserved c =
    let sessions = c.deref-session-items.result.now in
    let asked = map (λ (session : Session). session.options.interval) sessions in
    record {
      so_far = source_of_next c.args.self.now.base c.loop-session.session-index c.loop-session.source c.from.result c.gcd-source.result asked
          (omega (arith, length-map sessions (λ (session : Session). session.options.interval))) c.loop-session.invariant.so_far c.gcd-source.ensures
          (c.from.ensures ∙ c.rounded.ensures.value ∙ ap (λ (b : BookParts). rounded_of b.base c.session-item.result.options.interval) c.self.view_is
          ∙ ap (rounded_of c.args.self.now.base)
          (ap (λ (session : Session). session.options.interval) c.session-item.is ∙ sym (interval_at sessions c.loop-session.session-index c.session-item.result c.loop-session-test.true)));
      small = source_stays_small c.loop-session.source c.from.result c.gcd-source.result c.gcd-source.ensures (omega (arith, c.from.ensures, c.rounded.ensures.least.not_none)) (omega (arith, c.from.ensures, c.rounded.ensures.bound));
    }

pub returns-clause-source : goal.returns-clause-source
returns-clause-source c =
    source_of_all c.args.self.now c.self.inside.base c.self.inside.sessions.items c.deref-session-items.result.now c.loop-session.session-index c.loop-session.source c.self.view_is
    c.deref-session-items.ensures.value (omega arith) c.loop-session.invariant.so_far
