use Rattle.std.proofs.Common.{◌≡◌, ℕ, suc, ◌+◌, [], ◌∷◌, ◌++◌, ◌&&◌, false, refl, ap, sym, ◌∙◌, subst, take, length}
use Rattle.std.proofs.Math.Seq.{take-append_seam}
use Rattle.std.specs.Prelude.{if◌then◌else◌}
use Rattle.code_event.specs.declared.tick.Item.TheVariants as item
use Rattle.guest_machine.specs.Machine.{printed_text}
use Rattle.isolate_guest.specs.Guest.{IsAt}
use Rattle.std.proofs.lemmas.List.{length-take-le}
use Rattle.isolate_acts.specs.Acts.{numbered, given_up_tick}
use Rattle.isolate_acts.specs.Progress.{Progress, some_runs}
use Rattle.isolate_ends.proofs.Answered.{of_ok}
use Rattle.isolate_ends.proofs.Queued.{have_none}
use Rattle.isolate_ends.specs.Queues.{HaveMore, shown}
use Rattle.isolate_turns.proofs.Raised.{All-take, step_raises, step_leaves}
use Rattle.isolate_turns.proofs.state.Isolate.do_step.Goals as goal

pub returns-in-Err-clause-err : goal.returns-in-Err-clause-err
returns-in-Err-clause-err g c = λ moment at. ([], refl, tt, have_none _ _ refl)

pub returns-then-is_err-clause-err : goal.returns-then-is_err-clause-err
returns-then-is_err-clause-err g c = λ moment at.
    let ends_are = ap (λ iso. shown g.E.Tail.passed g.V.Tail.passed g.O.Offer.passed g.E.Tail.holds g.V.Tail.holds g.O.Offer.holds iso.ends) c.print.ensures.same in
    ([], refl, tt, have_none _ _ ends_are)

pub returns-in-Err-raise-clause-err : goal.returns-in-Err-raise-clause-err
returns-in-Err-raise-clause-err g c = λ moment at.
    let stepped = c.in-Ok.ensures.steps moment at in
    let raised = c.in-Err-raise.ensures.err in
    let count = c.in-Err-raise.count in
    let show = shown g.E.Tail.passed g.V.Tail.passed g.O.Offer.passed g.E.Tail.holds g.V.Tail.holds g.O.Offer.holds in
    let more = subst (λ iso. HaveMore (show iso.ends) (show c.raise.new.self.ends) (numbered iso.progress.events iso.progress.ticks (take count c.in-Ok.done.events))) c.print.ensures.same raised.1 in
    (take count c.in-Ok.done.events, length-take-le count c.in-Ok.done.events raised.0, All-take _ count c.in-Ok.done.events stepped.2.of_code, more)

pub returns-in-Err-raise-clause-err_printed : goal.returns-in-Err-raise-clause-err_printed
returns-in-Err-raise-clause-err_printed g c =
    let was = c.args.self.now.printed.items in
    let kept : c.raise.new.self.printed.items ≡ c.print.new.self.printed.items = ap (λ iso. iso.printed.items) c.in-Err-raise.ensures.same in
    let printed : c.print.new.self.printed.items ≡ was ++ printed_text c.in-Ok.done.printed = of_ok c.print.result (sym c.is_err.ensures.value ∙ c.if-is_err.false) c.print.ensures.ok in
    c.truncate.ensures.items ∙ ap (λ (n : ℕ). take n c.raise.new.self.printed.items) (ap length c.printed-length.ensures.printed) ∙ ap (take (length was)) (kept ∙ printed) ∙ take-append_seam was (printed_text c.in-Ok.done.printed)

pub returns-in-Ok-raise-clause-ok : goal.returns-in-Ok-raise-clause-ok
returns-in-Ok-raise-clause-ok g c = λ moment at.
    let stepped = c.in-Ok.ensures.steps moment at in
    let after = stepped.0 in
    let events = c.in-Ok.done.events in
    let p : Progress = c.args.self.now.progress in
    let made = c.in-Ok.ensures.tick moment at in
    let raised = c.in-Ok-raise.ensures in
    let show = shown g.E.Tail.passed g.V.Tail.passed g.O.Offer.passed g.E.Tail.holds g.V.Tail.holds g.O.Offer.holds in
    let printed_guest = ap (λ iso. iso.guest) c.print.ensures.same in
    let guest_is = ap (λ iso. iso.guest) raised.same ∙ printed_guest in
    let printed_progress : c.print.new.self.progress ≡ p = ap (λ iso. iso.progress) c.print.ensures.same in
    let progress_is : c.raise.new.self.progress ≡ p = ap (λ iso. iso.progress) raised.same ∙ printed_progress in
    let seen : c.in-Ok-raise.is_ticked ≡ c.in-Ok.done.vm_tick && some_runs p = raised.is_ticked ∙ ap (λ (q : Progress). c.in-Ok.done.vm_tick && some_runs q) printed_progress in
    let leaves = ap (λ (q : Progress). record q { step = suc q.step; events = q.events + c.in-Ok-raise.count; ticks = q.ticks + (if c.in-Ok-raise.is_ticked then 1 else 0); is_sampled = false }) progress_is in
    let put =
    subst (λ iso. HaveMore (show iso.ends) (show c.raise.new.self.ends) (numbered iso.progress.events iso.progress.ticks events ++ (if c.in-Ok-raise.is_ticked then item.Tick (given_up_tick after iso.progress (length events)) ∷ [] else [])))
    c.print.ensures.same (raised.ok after (subst (λ guest. IsAt guest.machine after) (sym printed_guest) stepped.1)) in (
      after,
      events,
      subst (λ guest. IsAt guest.machine after) (sym guest_is) stepped.1,
      stepped.2,
      c.step_on.ensures.stepped ∙ leaves ∙ step_leaves moment after p events c.in-Ok.done.vm_tick c.in-Ok-raise.is_ticked c.in-Ok-raise.count made seen raised.count,
      subst (HaveMore _ _) (sym (step_raises moment after p events c.in-Ok.done.vm_tick c.in-Ok-raise.is_ticked made seen)) put,
    )
