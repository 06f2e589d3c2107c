use Rattle.std.proofs.Common.{◌≡◌, ℕ, suc, ◌+◌, [], ◌∷◌, ◌++◌, List, length, ap, sym, subst, ◌∙◌, arith}
use Rattle.std.proofs.lemmas.List.{append_assoc, length-append}
use Rattle.std.specs.Vec.Iter.{into_iter_items}
use Rattle.code_event.specs.declared.event.CodeEvent.{CodeEvent}
use Rattle.code_event.specs.declared.tick.Item.TheVariants as item
use Rattle.isolate_ends.proofs.Answered.{of_ok}
use Rattle.isolate_ends.proofs.Queued.{have_next}
use Rattle.isolate_ends.specs.Queues.{HaveMore, shown}
use Rattle.isolate_ends.proofs.ends.Ends.put_events.Goals as goal

pub loop-event-preserved : goal.loop-event-preserved
loop-event-preserved g c =
    let at = c.loop-event in
    let x : CodeEvent = c.in-Some.event in
    let steps : into_iter_items at.event-iterator ≡ x ∷ into_iter_items c.next.new.self = c.in-Some.ensures.steps.0 in
    let put = c.put_event.ensures in
    let number : c.from.result ≡ length at.yielded = c.from.ensures ∙ at.invariant.counted in
    let many : length (at.yielded ++ x ∷ []) ≡ length at.yielded + 1 = length-append at.yielded (x ∷ []) in
    let left : length c.args.events ≡ length at.yielded + suc (length (into_iter_items c.next.new.self)) =
    ap length at.invariant.rest ∙ length-append at.yielded (into_iter_items at.event-iterator) ∙ ap (λ (n : ℕ). length at.yielded + n) (ap length steps) in
    let record_is : suc (c.args.before + length at.yielded) ≡ c.args.before + c.from.result + 1 = let same = number in omega arith in
    let more = of_ok c.put_event.result (sym c.is_err.ensures.value ∙ c.if-is_err.false) put.ok in
    record {
      can_next = tt;
      is_finite = tt;
      rest = at.invariant.rest ∙ ap (λ (z : List CodeEvent). at.yielded ++ z) steps ∙ sym (append_assoc at.yielded (x ∷ []) (into_iter_items c.next.new.self));
      counted = let was = at.invariant.counted in omega arith;
      few = at.invariant.few;
      more =
          have_next _ _ _ c.args.before c.args.ticks at.yielded x at.invariant.more
          (subst (λ (n : ℕ). HaveMore (shown g.E.Tail.passed g.V.Tail.passed g.O.Offer.passed g.E.Tail.holds g.V.Tail.holds g.O.Offer.holds at.self)
          (shown g.E.Tail.passed g.V.Tail.passed g.O.Offer.passed g.E.Tail.holds g.V.Tail.holds g.O.Offer.holds c.put_event.new.self)
          (item.Event (record { number = n; ticks_before = c.args.ticks; event = x }) ∷ [])) (sym record_is) more);
      spare = put.spare ∙ at.invariant.spare;
      home = put.home ∙ at.invariant.home;
      vm_ticks = put.vm_ticks ∙ at.invariant.vm_ticks;
      ring = put.ring ∙ at.invariant.ring;
    }
