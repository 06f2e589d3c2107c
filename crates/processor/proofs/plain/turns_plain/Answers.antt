use Rattle.std.proofs.Common.{◌++◌, arith, List, [], subst, sym}
use Rattle.code_event.specs.ItemList.{IsLegalItems}
use Rattle.code_event.specs.declared.tick.Item.{Item}
use Rattle.processor.specs.Course.{StandsFor}
use Rattle.processor.specs.CourseLaws.{AreDelivered}
use Rattle.processor.specs.Plain.{GoesOn}
use Rattle.processor.proofs.TurnsLeft.{all_left, one_more}
use Rattle.processor.proofs.plain.turns_plain.Goals as goal

pub returns-then-eq-clause-goes_on : goal.returns-then-eq-clause-goes_on
returns-then-eq-clause-goes_on g c base items rest before stands hold =
    let had = c.loop.invariant base items rest before stands hold in
    let new = c.turn_plain-answer.new.processor in
    subst (λ (l : List Item). GoesOn base l new.applied new.ticked new.course before (g.S.OutputStream.parts new.stream) new.events.items new.vm_ticks.items new.ring.items) had.on.all
    (c.turn_plain-answer.ensures.goes_on base had.on.items had.on.rest before had.on.stands had.on.hold)

pub returns-then-eq-clause-at_nothing : goal.returns-then-eq-clause-at_nothing
returns-then-eq-clause-at_nothing g c is base items rest before stands hold =
    let had = c.loop.invariant base items rest before stands hold in
    let new = c.turn_plain-answer.new.processor in
    subst (λ (l : List Item). StandsFor base l new.applied new.ticked new.course before (g.S.OutputStream.parts new.stream)) had.on.all
    (c.turn_plain-answer.ensures.at_nothing (cc is) base had.on.items had.on.rest before had.on.stands had.on.hold)

pub returns-then-eq-clause-at_over : goal.returns-then-eq-clause-at_over
returns-then-eq-clause-at_over g c is base items rest before stands hold legal =
    let had = c.loop.invariant base items rest before stands hold in
    let new = c.turn_plain-answer.new.processor in
    subst (λ (l : List Item). AreDelivered base l [] new.course.filing before (g.S.OutputStream.parts new.stream)) had.on.all
    (c.turn_plain-answer.ensures.at_over (cc is) base had.on.items had.on.rest before had.on.stands had.on.hold (subst IsLegalItems (sym had.on.all) legal))

pub loop-preserved : goal.loop-preserved
loop-preserved g c base items rest before stands hold =
    let had = c.loop.invariant base items rest before stands hold in
    let old = c.loop.processor in
    let new = c.turn_plain-answer.new.processor in
    one_more base (items ++ rest) c.loop.counter _ old.applied old.ticked new.applied new.ticked old.course new.course c.turn_plain-answer.result before (g.S.OutputStream.parts old.stream) (g.S.OutputStream.parts new.stream)
    old.events.items new.events.items old.vm_ticks.items new.vm_ticks.items old.ring.items new.ring.items had (c.turn_plain-answer.ensures.progress base had.on.items had.on.rest before had.on.stands had.on.hold)
    (λ none. absurd (grind (arith, none, c.eq.ensures, c.if-eq.false))) (λ over. absurd (grind (arith, over, c.eq-else-eq.ensures, c.if-eq-2.false)))

pub loop-init : goal.loop-init
loop-init g c base items rest before stands hold = all_left base items rest _ _ _ before _ _ _ _ stands hold

pub returns-clause-goes_on : goal.returns-clause-goes_on
returns-clause-goes_on g c base items rest before stands hold = (c.loop.invariant base items rest before stands hold).on

pub returns-clause-enough : goal.returns-clause-enough
returns-clause-enough g c none base items rest before stands hold legal =
    let left = (c.loop.invariant base items rest before stands hold).left legal in
    omega (arith, left, c.loop-test.false)
