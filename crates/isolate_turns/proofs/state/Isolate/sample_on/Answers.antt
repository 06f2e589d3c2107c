use Rattle.std.proofs.Common.{[], ◌∷◌, refl, ap, sym, subst, ◌∙◌}
use Rattle.isolate_acts.specs.Calls.{asked, read, with_calls}
use Rattle.isolate_acts.specs.Phases.{asking, must_end, stepping}
use Rattle.isolate_acts.specs.Progress.{is_filled}
use Rattle.isolate_guest.specs.Guest.{IsAt}
use Rattle.isolate_turns.proofs.Going.{drops_where_full, goes_after, not_asked_run, sample_run}
use Rattle.isolate_turns.proofs.state.Isolate.sample_on.Goals as goal
use Rattle.std.specs.Prelude.{if◌then◌else◌}

pub returns-then-not-asked-clause-goes : goal.returns-then-not-asked-clause-goes
returns-then-not-asked-clause-goes g c = λ moment is.
    let asked_is = c.asked.ensures.calls ∙ (λ i. with_calls (g.P.IsoPorts.calls c.args.ports.now) (asked (c.step-step.ensures.value i) (c.if-not-asked.true i) ∷ [])) in
    let runs = not_asked_run moment c.args.self.now.progress _ _ _ c.requires.going c.requires.session c.requires.not_sampled asked_is in
    let rest = c.step_on.ensures.goes moment is in
    (rest.0, rest.1, goes_after _ _ _ asking stepping c.step_on.result runs rest.2)

pub returns-clause-goes : goal.returns-clause-goes
returns-clause-goes g c = λ moment is.
    let p = c.args.self.now.progress in
    let after = c.enter_sample.new.self.progress in
    let at = is.at c.requires.going in
    let step_is = c.step-step.ensures.value in
    let asked_is = c.asked.ensures.calls ∙ (λ i. with_calls (g.P.IsoPorts.calls c.args.ports.now) (asked (step_is i) (c.if-not-asked.false i) ∷ [])) in
    let read_is = c.now-now.ensures.calls ∙ ap (λ step. with_calls (g.P.IsoPorts.calls c.asked.new.self) (read step c.now-now.result ∷ [])) step_is in
    let runs =
    sample_run moment p after _ _ _ _ _ c.now-now.result c.enter_sample.result c.requires.going c.requires.session c.requires.not_sampled c.requires.room c.enter_sample.ensures.progress asked_is read_is
    (c.enter_sample.ensures.more moment at) in
    let at_still = subst (λ guest. IsAt guest.machine moment) (sym c.enter_sample.ensures.guest) at in
    let rest = c.go_on_sampled.ensures.goes moment (record { at = λ going. at_still; printed_is = ap (λ v. v.items) c.enter_sample.ensures.printed ∙ is.printed_is }) in
    (rest.0, rest.1, goes_after _ _ _ asking (if is_filled after then must_end stepping else stepping) c.go_on_sampled.result runs (rest.2 stepping refl))

pub returns-clause-drops : goal.returns-clause-drops
returns-clause-drops g c =
    drops_where_full _ _ _ _ c.now-now.result c.enter_sample.result c.args.self.now.progress c.enter_sample.new.self.progress _ c.enter_sample.ensures.progress c.enter_sample.ensures.dropped c.enter_sample.ensures.counted
    (ap g.O.Offer.fulls c.go_on_sampled.ensures.ring) c.go_on_sampled.ensures.adds
