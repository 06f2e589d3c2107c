use Rattle.std.proofs.Common.{◌≡◌, List, [], ◌++◌, sym, ap, subst, ◌∙◌, append-nil}
use Rattle.std.specs.Prelude.{None}
use Rattle.code_event.specs.declared.tick.Item.{Item}
use Rattle.processor.specs.Course.{StandsFor}
use Rattle.processor.proofs.PlainSteps.{plain_turn}
use Rattle.processor.proofs.PlainTurns.{nothing_taken, over_delivers}
use Rattle.processor.proofs.PlainTaking.{took_nothing, turned}
use Rattle.processor.proofs.plain.turn_plain.Goals as goal

pub returns-clause-nothing : goal.returns-clause-nothing
returns-clause-nothing g c none =
    took_nothing None c.args.processor.now.applied c.args.processor.now.ticked c.args.processor.now.events.items c.args.processor.now.vm_ticks.items c.args.processor.now.ring.items _ _ _
    (c.turn.ensures.no_next none) (c.turn.ensures.event_shown none) (c.turn.ensures.vm_tick_shown none) (c.turn.ensures.sample_shown none)

pub returns-clause-goes_on : goal.returns-clause-goes_on
returns-clause-goes_on g c base items rest before stands hold =
    let turn = c.turn.ensures.turns.2 in
    let old = c.args.processor.now in
    let new = c.turn.new.self in
    turned turn.taken base items rest old.applied old.ticked new.applied new.ticked new.course before (g.S.OutputStream.parts new.stream) old.events.items new.events.items old.vm_ticks.items new.vm_ticks.items old.ring.items new.ring.items
    stands.taken turn.next turn.passes.held_events turn.passes.held_ticks (turn.stands base items before stands) hold

pub returns-clause-at_nothing : goal.returns-clause-at_nothing
returns-clause-at_nothing g c none base items rest before stands hold =
    let turn = c.turn.ensures.turns.2 in
    let old = c.args.processor.now in
    let new = c.turn.new.self in
    let empty : rest ≡ [] = took_nothing None old.applied old.ticked old.events.items old.vm_ticks.items old.ring.items _ _ _
    (c.turn.ensures.no_next none) (c.turn.ensures.event_shown none) (c.turn.ensures.vm_tick_shown none) (c.turn.ensures.sample_shown none) items rest stands.taken hold in
    subst (λ (l : List Item). StandsFor base l new.applied new.ticked new.course before (g.S.OutputStream.parts new.stream)) (sym (ap (λ (l : List Item). items ++ l) empty ∙ append-nil items))
    (nothing_taken turn.taken old.course old.course.filing.is_spent new.course.filing.is_spent c.turn.ensures.turns.0 base items new.applied new.ticked new.course before (g.S.OutputStream.parts new.stream)
    (sym c.turn.ensures.turns.1 ∙ none) turn.answers (turn.stands base items before stands))

pub returns-clause-at_over : goal.returns-clause-at_over
returns-clause-at_over g c over base items rest before stands hold legal =
    let turn = c.turn.ensures.turns.2 in
    let old = c.args.processor.now in
    let new = c.turn.new.self in
    over_delivers base (items ++ rest) new.applied new.ticked new.course before (g.S.OutputStream.parts new.stream) new.events.items new.vm_ticks.items new.ring.items
    (turned turn.taken base items rest old.applied old.ticked new.applied new.ticked new.course before (g.S.OutputStream.parts new.stream) old.events.items new.events.items old.vm_ticks.items new.vm_ticks.items old.ring.items new.ring.items
    stands.taken turn.next turn.passes.held_events turn.passes.held_ticks (turn.stands base items before stands) hold)
    legal (c.turn.ensures.over_ended over) (c.turn.ensures.over_none_waits over)

pub returns-clause-progress : goal.returns-clause-progress
returns-clause-progress g c base items rest before stands hold =
    let turn = c.turn.ensures.turns.2 in
    let old = c.args.processor.now in
    let new = c.turn.new.self in
    plain_turn turn.taken base items rest old.applied old.ticked new.applied new.ticked old.course new.course c.turn.ensures.turns.0 c.turn.result before (g.S.OutputStream.parts new.stream)
    old.events.items new.events.items old.vm_ticks.items new.vm_ticks.items old.ring.items new.ring.items stands.taken hold turn.going turn.next turn.passes.held_events turn.passes.held_ticks turn.stays turn.waiting
    (turn.stands base items before stands) turn.answers c.turn.ensures.turns.1
    (λ none. took_nothing None old.applied old.ticked old.events.items old.vm_ticks.items old.ring.items _ _ _
    (c.turn.ensures.no_next none) (c.turn.ensures.event_shown none) (c.turn.ensures.vm_tick_shown none) (c.turn.ensures.sample_shown none) items rest stands.taken hold)
