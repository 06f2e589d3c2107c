use Rattle.std.proofs.Common.{ap, Some, None, true}
use Rattle.guest_machine.proofs.Advancing.{youngest_at, youngest_place, gone, whole_gone, is_found}
use Rattle.guest_machine.proofs.Moved.{has_gone}
use Rattle.guest_machine.proofs.machine.Machine.jump.Goals as goal

pub unreachable-requires : goal.unreachable-requires
unreachable-requires c =
    is_found c.args.self.now c.requires.whole c.slot-slot.result (youngest_at c.args.self.now c.frame-frame.result c.slot-slot.result c.frame-frame.ensures c.slot-slot.ensures.slot) c.args.index c.requires.within
    (youngest_place c.args.self.now c.frame-frame.result c.slot-slot.result c.args.index c.place.result None c.frame-frame.ensures c.place.ensures.place c.in-None.is)

pub returns-clause-whole : goal.returns-clause-whole
returns-clause-whole c =
    whole_gone c.args.self.now c.requires.whole c.slot-slot.result (youngest_at c.args.self.now c.frame-frame.result c.slot-slot.result c.frame-frame.ensures c.slot-slot.ensures.slot) _ c.args.index
    c.in-Some.place (youngest_place c.args.self.now c.frame-frame.result c.slot-slot.result c.args.index c.place.result (Some c.in-Some.place) c.frame-frame.ensures c.place.ensures.place c.in-Some.is)
    (ap (λ s. record c.args.self.now { stack = s }) c.go_to.ensures)

pub returns-clause-does : goal.returns-clause-does
returns-clause-does c =
    gone c.args.self.now c.requires.whole c.slot-slot.result (youngest_at c.args.self.now c.frame-frame.result c.slot-slot.result c.frame-frame.ensures c.slot-slot.ensures.slot) _ c.args.index
    c.in-Some.place (youngest_place c.args.self.now c.frame-frame.result c.slot-slot.result c.args.index c.place.result (Some c.in-Some.place) c.frame-frame.ensures c.place.ensures.place c.in-Some.is)
    (ap (λ s. record c.args.self.now { stack = s }) c.go_to.ensures)

pub returns-clause-stays : goal.returns-clause-stays
returns-clause-stays c = (
  true,
  has_gone c.args.self.now _ c.slot-slot.result c.args.index c.in-Some.place
      (youngest_at c.args.self.now c.frame-frame.result c.slot-slot.result c.frame-frame.ensures c.slot-slot.ensures.slot)
      (youngest_place c.args.self.now c.frame-frame.result c.slot-slot.result c.args.index c.place.result (Some c.in-Some.place) c.frame-frame.ensures c.place.ensures.place c.in-Some.is)
      (ap (λ s. record c.args.self.now { stack = s }) c.go_to.ensures),
)
