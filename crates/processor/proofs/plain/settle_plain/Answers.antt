use Rattle.std.proofs.Common.{◌≡◌, arith, subst, sym}
use Rattle.code_event.specs.ItemList.{IsLegalItems}
use Rattle.processor.specs.declared.turn.ProcTurn.TheVariants as turn
use Rattle.processor.proofs.Settled.{settled_at_nothing, settled_at_over}
use Rattle.processor.proofs.Settling.{fewer_to_settle}
use Rattle.processor.proofs.plain.settle_plain.Goals as goal
use Rattle.processor.proofs.plain.settle_plain.Goals.{then-eq-via-then-eq, then-eq-via-else-eq+then-eq-2}

pub returns-then-eq-clause-settled : goal.returns-then-eq-clause-settled
returns-then-eq-clause-settled g c base whole before legal from =
    let had = c.loop-answer.invariant.on base whole before from in
    let old = c.loop-answer.processor in
    let new = c.turn_plain-answer.new.processor in
    let answer = c.turn_plain-answer.result in
    let turned = c.turn_plain-answer.ensures.progress base had.items had.rest before had.stands had.hold in
    elim c.then-eq.branch [
      | then-eq-via-then-eq w ↦
          let over : answer ≡ turn.Over = grind (arith, c.eq.ensures, w.if-eq.true) in
          settled_at_over base whole old.applied old.ticked new.applied new.ticked old.course new.course answer before (g.S.OutputStream.parts old.stream) (g.S.OutputStream.parts new.stream)
          old.events.items new.events.items old.vm_ticks.items new.vm_ticks.items old.ring.items new.ring.items legal had turned over
          (c.turn_plain-answer.ensures.at_over over base had.items had.rest before had.stands had.hold (subst IsLegalItems (sym had.all) legal))
      | then-eq-via-else-eq+then-eq-2 w ↦
          let nothing : answer ≡ turn.Nothing = grind (arith, w.eq-else-eq.ensures, w.if-eq-2.true) in
          settled_at_nothing base whole old.applied old.ticked new.applied new.ticked old.course new.course answer before (g.S.OutputStream.parts old.stream) (g.S.OutputStream.parts new.stream)
          old.events.items new.events.items old.vm_ticks.items new.vm_ticks.items old.ring.items new.ring.items legal had turned nothing
          (c.turn_plain-answer.ensures.nothing nothing had.items had.rest had.stands.taken had.hold)
          (c.turn_plain-answer.ensures.at_nothing nothing base had.items had.rest before had.stands had.hold)
    ]

pub loop-answer-smaller : goal.loop-answer-smaller
loop-answer-smaller g c =
    let amid = c.loop-answer.invariant.amid.1 in
    let had = amid.on in
    let old = c.loop-answer.processor in
    let new = c.turn_plain-answer.new.processor in
    let fewer = fewer_to_settle c.loop-answer.invariant.amid.0 amid.whole old.applied old.ticked new.applied new.ticked old.course new.course c.turn_plain-answer.result
    amid.before (g.S.OutputStream.parts old.stream) (g.S.OutputStream.parts new.stream) old.events.items new.events.items old.vm_ticks.items new.vm_ticks.items old.ring.items new.ring.items amid.legal had
    (c.turn_plain-answer.ensures.progress c.loop-answer.invariant.amid.0 had.items had.rest amid.before had.stands had.hold)
    (λ nothing. absurd (grind (arith, nothing, c.eq-else-eq.ensures, c.if-eq-2.false))) (λ over. absurd (grind (arith, over, c.eq.ensures, c.if-eq.false))) in
    omega (arith, fewer)
