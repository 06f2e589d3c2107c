use Rattle.std.proofs.Common.{ap, sym, ◌∙◌}
use Rattle.run_schedule.specs.declared.schedule.EndCause.TheVariants as cause
use Rattle.isolate_turns.proofs.Going.{goes_by_full, now_ended}
use Rattle.isolate_turns.proofs.state.Isolate.go_on_sampled.Goals as goal

pub returns-then-is_filled-clause-goes : goal.returns-then-is_filled-clause-goes
returns-then-is_filled-clause-goes g c = λ moment is.
    let does = c.end.ensures.does moment in
    let filled = sym c.is_filled.ensures.value ∙ c.if-is_filled.true in (
      moment,
      now_ended _ _ _ _ moment cause.Full c.end.ensures.ended (ap (λ v. v.items) c.end.ensures.printed) is.printed_is,
      λ later ends_there. goes_by_full _ _ later does.0 c.requires.going c.requires.place filled ends_there does.1,
    )
