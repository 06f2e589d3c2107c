use Rattle.std.proofs.Common.{[], ◌∷◌, subst}
use Rattle.std.proofs.lemmas.Result.{on_ok_weaker}
use Rattle.code_event.specs.declared.tick.Item.TheVariants as item
use Rattle.isolate_ends.specs.Queues.{HaveMore, shown}
use Rattle.isolate_turns.proofs.state.Isolate.raise_tick.Goals as goal

pub returns-clause-ok : goal.returns-clause-ok
returns-clause-ok g c =
    on_ok_weaker c.put_tick.result (λ more. λ after at.
    subst (λ t. HaveMore (shown g.E.Tail.passed g.V.Tail.passed g.O.Offer.passed g.E.Tail.holds g.V.Tail.holds g.O.Offer.holds c.args.self.now.ends)
    (shown g.E.Tail.passed g.V.Tail.passed g.O.Offer.passed g.E.Tail.holds g.V.Tail.holds g.O.Offer.holds c.put_tick.new.self) (item.Tick t ∷ [])) (c.given_up_tick-tick.ensures.tick after at) more) c.put_tick.ensures.ok
