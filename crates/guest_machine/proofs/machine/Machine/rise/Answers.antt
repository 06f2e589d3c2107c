use Rattle.std.proofs.Common.{ap, suc, arith, Some, None, refl}
use Rattle.guest_machine.proofs.Advancing.{youngest_at, youngest_next, slot_short, risen, run_off, whole_gone}
use Rattle.guest_machine.proofs.Moved.{has_gone}
use Rattle.guest_machine.proofs.machine.Machine.rise.Goals as goal

pub overflow_add-slot : goal.overflow_add-slot
overflow_add-slot c =
    let short = slot_short c.args.self.now c.requires.whole c.slot-slot.result (youngest_at c.args.self.now c.frame-frame.result c.slot-slot.result c.frame-frame.ensures c.slot-slot.ensures.slot) in omega (arith, short)

pub returns-in-Some-clause-whole : goal.returns-in-Some-clause-whole
returns-in-Some-clause-whole c =
    whole_gone c.args.self.now c.requires.whole c.slot-slot.result (youngest_at c.args.self.now c.frame-frame.result c.slot-slot.result c.frame-frame.ensures c.slot-slot.ensures.slot) _ (suc c.slot-slot.result.index)
    c.in-Some.place (youngest_next c.args.self.now c.frame-frame.result c.slot-slot.result c.place.result (Some c.in-Some.place) c.frame-frame.ensures c.place.ensures.place c.in-Some.is)
    (ap (λ s. record c.args.self.now { stack = s }) c.go_to.ensures)

pub returns-in-Some-clause-rises : goal.returns-in-Some-clause-rises
returns-in-Some-clause-rises c =
    risen c.args.self.now c.requires.whole c.slot-slot.result (youngest_at c.args.self.now c.frame-frame.result c.slot-slot.result c.frame-frame.ensures c.slot-slot.ensures.slot) _
    c.in-Some.place (youngest_next c.args.self.now c.frame-frame.result c.slot-slot.result c.place.result (Some c.in-Some.place) c.frame-frame.ensures c.place.ensures.place c.in-Some.is)
    (ap (λ s. record c.args.self.now { stack = s }) c.go_to.ensures)

pub returns-in-None-clause-rises : goal.returns-in-None-clause-rises
returns-in-None-clause-rises c =
    run_off c.args.self.now c.requires.whole c.slot-slot.result (youngest_at c.args.self.now c.frame-frame.result c.slot-slot.result c.frame-frame.ensures c.slot-slot.ensures.slot) _
    (youngest_next c.args.self.now c.frame-frame.result c.slot-slot.result c.place.result None c.frame-frame.ensures c.place.ensures.place c.in-None.is) refl

pub returns-in-Some-clause-moves : goal.returns-in-Some-clause-moves
returns-in-Some-clause-moves c =
    has_gone c.args.self.now _ c.slot-slot.result (suc c.slot-slot.result.index) c.in-Some.place
    (youngest_at c.args.self.now c.frame-frame.result c.slot-slot.result c.frame-frame.ensures c.slot-slot.ensures.slot)
    (youngest_next c.args.self.now c.frame-frame.result c.slot-slot.result c.place.result (Some c.in-Some.place) c.frame-frame.ensures c.place.ensures.place c.in-Some.is)
    (ap (λ s. record c.args.self.now { stack = s }) c.go_to.ensures)
