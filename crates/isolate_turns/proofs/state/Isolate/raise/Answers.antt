use Rattle.std.proofs.Common.{ℕ, [], ◌∷◌, ap, ap₂, subst}
use Rattle.code_event.specs.declared.tick.Item.TheVariants as item
use Rattle.isolate_acts.specs.Acts.{numbered, given_up_tick}
use Rattle.isolate_ends.proofs.Queued.{have_both}
use Rattle.isolate_ends.specs.Queues.{HaveMore}
use Rattle.isolate_turns.proofs.state.Isolate.raise.Goals as goal

pub returns-in-Ok-clause-ok : goal.returns-in-Ok-clause-ok
returns-in-Ok-clause-ok g c = λ after at.
    let put = c.in_ok-count.ensures.ok in
    let p = c.args.self.now.progress in
    have_both _ _ _ _ _ (subst (HaveMore _ _) (ap₂ (λ (n t : ℕ). numbered n t c.args.done.events) c.events-before.ensures.value c.ticks-ticks.ensures.value) put.1)
    (subst (HaveMore _ _) (ap (λ (n : ℕ). item.Tick (given_up_tick after p n) ∷ []) put.0) (c.in-Ok.ensures.ok after at))
