use Rattle.std.proofs.Common.{ap, subst}
use Rattle.isolate_acts.specs.Progress.{Progress, IsWithin}
use Rattle.isolate_turns.proofs.Keeping.{openings_kept}
use Rattle.isolate_turns.proofs.state.Isolate.new.Goals as goal

pub returns-clause-opens : goal.returns-clause-opens
returns-clause-opens g c =
    let guest = c.in_ok-guest.ensures.opens in
    let p : Progress = c.in_ok-progress.progress in
    let opening = c.in_ok-progress.ensures.opening in
    let kept =
    openings_kept c.args.program guest.0 p c.in_ok-guest.event guest.2 (subst IsWithin c.progress.view_is c.progress.invariant.within) (ap (λ (q : Progress). q.schedule.entries) opening)
    (ap (λ (q : Progress). q.step) opening) (ap (λ (q : Progress). q.events) opening) (ap (λ (q : Progress). q.ticks) opening) (ap (λ (q : Progress). q.ending) opening) in
    (c.in_ok-guest.event, guest.0, guest.1, guest.2, kept, c.in_ok-put_event.ensures.ok)
