use Rattle.std.proofs.Common.{◌≡◌, None, refl, ap, sym, subst, ◌∙◌}
use Rattle.isolate_acts.specs.Phases.{after_ports, first_phase, over}
use Rattle.isolate_ends.specs.Queues.{shown}
use Rattle.isolate_ends.specs.Runs.{DropsWhereFull, Goes, Runs, whole}
use Rattle.isolate_guest.specs.Guest.{IsAt}
use Rattle.isolate_turns.proofs.Going.{begins_at_ports, begins_sampled, drops_after, drops_none, goes_after}
use Rattle.isolate_turns.proofs.Keeping.{goes_kept}
use Rattle.isolate_turns.proofs.state.Isolate.turn.Goals as goal

pub returns-then-begins_with_step-clause-goes : goal.returns-then-begins_with_step-clause-goes
returns-then-begins_with_step-clause-goes g c = λ moment is.
    let p = c.args.self.now.progress in
    let first_is = begins_sampled p (sym c.begins_with_step.ensures.value ∙ c.if-begins_with_step.true) in
    let rest = c.go_on_sampled.ensures.goes moment is in (
      rest.0,
      rest.1,
      subst (λ phase. Goes (whole moment p (g.P.IsoPorts.calls c.args.ports.now) (shown g.E.Tail.passed g.V.Tail.passed g.O.Offer.passed g.E.Tail.holds g.V.Tail.holds g.O.Offer.holds c.args.self.now.ends))
          (whole rest.0 c.go_on_sampled.new.self.progress (g.P.IsoPorts.calls c.go_on_sampled.new.ports) (shown g.E.Tail.passed g.V.Tail.passed g.O.Offer.passed g.E.Tail.holds g.V.Tail.holds g.O.Offer.holds c.go_on_sampled.new.self.ends)) phase c.go_on_sampled.result) (sym first_is) (rest.2 over refl),
    )

pub returns-then-begins_with_step-clause-drops : goal.returns-then-begins_with_step-clause-drops
returns-then-begins_with_step-clause-drops g c = drops_none _ _ _ _ _ (sym (ap g.O.Offer.fulls c.go_on_sampled.ensures.ring)) c.go_on_sampled.ensures.adds

pub returns-clause-goes : goal.returns-clause-goes
returns-clause-goes g c = λ moment is.
    let p = c.args.self.now.progress in
    let then_ = c.take_commands.new.self.progress in
    let stays = c.take_commands.ensures.stays in
    let first_is = begins_at_ports p (sym c.begins_with_step.ensures.value ∙ c.if-begins_with_step.false) in
    let at = λ (going : then_.ending ≡ None). subst (λ guest. IsAt guest.machine moment) (sym c.take_commands.ensures.guest) (is.at (stays.going going)) in
    let rest = c.go_on.ensures.goes moment (record { at = at; printed_is = ap (λ v. v.items) c.take_commands.ensures.printed ∙ is.printed_is }) in
    let runs = subst (λ phase. Runs (whole moment p (g.P.IsoPorts.calls c.args.ports.now) (shown g.E.Tail.passed g.V.Tail.passed g.O.Offer.passed g.E.Tail.holds g.V.Tail.holds g.O.Offer.holds c.args.self.now.ends))
    (whole moment then_ (g.P.IsoPorts.calls c.take_commands.new.ports) (shown g.E.Tail.passed g.V.Tail.passed g.O.Offer.passed g.E.Tail.holds g.V.Tail.holds g.O.Offer.holds c.take_commands.new.self.ends)) phase (after_ports then_)) (sym first_is) (c.take_commands.ensures.runs moment is) in
    (rest.0, rest.1, goes_after _ _ _ (first_phase p) (after_ports then_) c.go_on.result runs rest.2)

pub returns-then-begins_with_step-clause-kept : goal.returns-then-begins_with_step-clause-kept
returns-then-begins_with_step-clause-kept g c = λ funcs moment raised is kept.
    let rest = returns-then-begins_with_step-clause-goes g c moment is in
    let after = goes_kept funcs _ _ c.go_on_sampled.result raised rest.2 kept in
    (rest.0, after.0, rest.1, after.1, after.2)

pub returns-clause-kept : goal.returns-clause-kept
returns-clause-kept g c = λ funcs moment raised is kept.
    let rest = returns-clause-goes g c moment is in
    let after = goes_kept funcs _ _ c.go_on.result raised rest.2 kept in
    (rest.0, after.0, rest.1, after.1, after.2)

pub returns-clause-spare : goal.returns-clause-spare
returns-clause-spare g c = λ going. c.go_on.ensures.spare going ∙ c.take_commands.ensures.spare (c.go_on.ensures.going going)

pub returns-clause-drops : goal.returns-clause-drops
returns-clause-drops g c =
    let before = c.args.self.now.progress.schedule.entries in
    let entries = c.go_on.new.self.progress.schedule.entries in
    let fulls = g.O.Offer.fulls c.go_on.new.self.ends.ring in
    subst (λ ring. DropsWhereFull (g.O.Offer.passed ring) (g.O.Offer.fulls ring) fulls before entries) c.take_commands.ensures.ring
    (drops_after _ _ _ before c.take_commands.new.self.progress.schedule.entries entries c.take_commands.ensures.stays.adds c.go_on.ensures.drops)
