use Rattle.std.proofs.Common.{◌≡◌, ◌∙◌, ap, sym, ◌+◌, arith, Some, None}
use Rattle.code_objects.specs.CodeObjects.{layout_of}
use Rattle.code_layout.specs.Laws.{site_at}
use Rattle.guest_machine.proofs.Advancing.{youngest_at}
use Rattle.guest_machine.proofs.Calls.{child_read, child_follows, child_is_next, not_elsewhere}
use Rattle.guest_machine.specs.Machine.{program_of, youngest_layout}
use Rattle.guest_stack.specs.declared.stack.CodeFrame.{CodeFrame}
use Rattle.guest_machine.proofs.machine.Machine.child.Goals as goal

pub returns-then-site-slot-2-clause-child : goal.returns-then-site-slot-2-clause-child
returns-then-site-slot-2-clause-child c =
    let layout : c.layout-layout.result.now ≡ youngest_layout c.args.self.now = c.layout-layout.ensures.layout ∙ ap (λ f. layout_of (program_of c.args.self.now) f.code) c.frame-frame.ensures in
    let next = c.in_ok-next.ensures.lookup.3 in
    child_read c.args.self.now c.requires.whole c.slots.result.now (c.from.result + 1) c.in_ok-next.next.now (c.slots.ensures.slots ∙ ap (λ l. l.slots) layout) next.0 (next.1 c.in_ok-next.next.now)
    c.slot-slot.result (youngest_at c.args.self.now c.frame-frame.result c.slot-slot.result c.frame-frame.ensures c.slot-slot.ensures.slot)
    c.units.result.now c.from-2.result c.index-units-from.result (c.units.ensures.units ∙ ap (λ l. l.units) layout) c.from-2.ensures
    c.in_ok-site.site c.in_ok-site.was c.if-site-slot.true c.if-site-slot-2.true

pub returns-in_err-next-clause-found : goal.returns-in_err-next-clause-found
returns-in_err-next-clause-found c unit child =
    let layout : c.layout-layout.result.now ≡ youngest_layout c.args.self.now = c.layout-layout.ensures.layout ∙ ap (λ f. layout_of (program_of c.args.self.now) f.code) c.frame-frame.ensures in
    absurd (child_is_next c.args.self.now c.requires.whole c.slots.result.now (c.from.result + 1) (c.slots.ensures.slots ∙ ap (λ l. l.slots) layout)
    (omega (arith, c.from.ensures, ap (λ (f : CodeFrame). f.slot) c.frame-frame.ensures)) unit child c.in_err-next.ensures.lookup.3)

pub returns-in_err-site-clause-found : goal.returns-in_err-site-clause-found
returns-in_err-site-clause-found c unit child =
    let layout : c.layout-layout.result.now ≡ youngest_layout c.args.self.now = c.layout-layout.ensures.layout ∙ ap (λ f. layout_of (program_of c.args.self.now) f.code) c.frame-frame.ensures in
    let next = c.in_ok-next.ensures.lookup.3 in
    let parent =
    child_follows c.args.self.now c.requires.whole c.slots.result.now (c.from.result + 1) c.in_ok-next.next.now (c.slots.ensures.slots ∙ ap (λ l. l.slots) layout) next.0 (next.1 c.in_ok-next.next.now)
    c.slot-slot.result (youngest_at c.args.self.now c.frame-frame.result c.slot-slot.result c.frame-frame.ensures c.slot-slot.ensures.slot)
    c.units.result.now c.from-2.result c.index-units-from.result (c.units.ensures.units ∙ ap (λ l. l.units) layout) c.from-2.ensures
    (omega (arith, c.from.ensures, ap (λ (f : CodeFrame). f.slot) c.frame-frame.ensures)) unit child in
    let none : None ≡ Some (site_at c.slot-slot.result) = sym c.in_err-site.was ∙ parent in absurd (cc none)

pub returns-else-site-slot-clause-found : goal.returns-else-site-slot-clause-found
returns-else-site-slot-clause-found c unit child =
    let layout : c.layout-layout.result.now ≡ youngest_layout c.args.self.now = c.layout-layout.ensures.layout ∙ ap (λ f. layout_of (program_of c.args.self.now) f.code) c.frame-frame.ensures in
    let next = c.in_ok-next.ensures.lookup.3 in
    let parent =
    child_follows c.args.self.now c.requires.whole c.slots.result.now (c.from.result + 1) c.in_ok-next.next.now (c.slots.ensures.slots ∙ ap (λ l. l.slots) layout) next.0 (next.1 c.in_ok-next.next.now)
    c.slot-slot.result (youngest_at c.args.self.now c.frame-frame.result c.slot-slot.result c.frame-frame.ensures c.slot-slot.ensures.slot)
    c.units.result.now c.from-2.result c.index-units-from.result (c.units.ensures.units ∙ ap (λ l. l.units) layout) c.from-2.ensures
    (omega (arith, c.from.ensures, ap (λ (f : CodeFrame). f.slot) c.frame-frame.ensures)) unit child in
    absurd (not_elsewhere c.slot-slot.result _ c.in_ok-site.site c.in_ok-site.was parent c.else-site-slot.either)
