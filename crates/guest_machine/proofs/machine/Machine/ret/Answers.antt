use Rattle.std.proofs.Common.{◌∙◌, sym, ap, arith, refl, Some, None, slice_index, subst, ◌<◌, length}
use Rattle.code_objects.specs.CodeObjects.{layout_of}
use Rattle.guest_machine.proofs.Advancing.{youngest_at}
use Rattle.guest_machine.proofs.Instructions.{unit_within}
use Rattle.guest_machine.proofs.Returns.{site_read, site_short, returned_inside, ran_off_inside, whole_inside, next_place}
use Rattle.guest_machine.specs.Machine.{program_of, youngest_layout}
use Rattle.guest_machine.proofs.ReturnRules.{end_keeps, inside_keeps}
use Rattle.plain_machine.specs.declared.ended.Ended.TheVariants as end
use Rattle.guest_machine.proofs.machine.Machine.ret.Goals as goal

pub site-requires-clause-unit : goal.site-requires-clause-unit
site-requires-clause-unit c =
    subst (λ f. c.slot-slot.result.unit < length (layout_of (program_of c.args.self.now) f.code).units) (sym c.frame-frame.ensures)
    (unit_within c.args.self.now c.requires.whole c.slot-slot.result (youngest_at c.args.self.now c.frame-frame.result c.slot-slot.result c.frame-frame.ensures c.slot-slot.ensures.slot))

pub overflow_add-site : goal.overflow_add-site
overflow_add-site c =
    let short = site_short c.args.self.now c.requires.whole c.slot-slot.result.unit c.in-Some.site (site_read c.args.self.now c.frame-frame.result c.slot-slot.result.unit c.site.result (Some c.in-Some.site) c.frame-frame.ensures c.site.ensures.site c.in-Some.is) in
    omega (arith, short)

pub returns-in-Some-place-clause-whole : goal.returns-in-Some-place-clause-whole
returns-in-Some-place-clause-whole c =
    whole_inside c.args.self.now c.requires.whole c.slot-slot.result (youngest_at c.args.self.now c.frame-frame.result c.slot-slot.result c.frame-frame.ensures c.slot-slot.ensures.slot) c.in-Some.site
    (site_read c.args.self.now c.frame-frame.result c.slot-slot.result.unit c.site.result (Some c.in-Some.site) c.frame-frame.ensures c.site.ensures.site c.in-Some.is)
    _ c.in-Some-place.place c.register-number.result
    (next_place (youngest_layout c.args.self.now) (layout_of (program_of c.args.self.now) c.frame-frame.result.code) c.in-Some.site.unit c.in-Some.site.index c.place.result (Some c.in-Some-place.place)
    (ap (λ f. layout_of (program_of c.args.self.now) f.code) c.frame-frame.ensures) c.place.ensures.place c.in-Some-place.is)
    (ap (λ s. record c.args.self.now { stack = s }) c.return_within.ensures)

pub returns-in-Some-place-clause-does : goal.returns-in-Some-place-clause-does
returns-in-Some-place-clause-does c =
    returned_inside c.args.self.now c.requires.whole c.slot-slot.result (youngest_at c.args.self.now c.frame-frame.result c.slot-slot.result c.frame-frame.ensures c.slot-slot.ensures.slot) c.in-Some.site
    (site_read c.args.self.now c.frame-frame.result c.slot-slot.result.unit c.site.result (Some c.in-Some.site) c.frame-frame.ensures c.site.ensures.site c.in-Some.is)
    _ c.in-Some-place.place c.register-number.result
    (c.register-number.ensures ∙ ap (slice_index c.args.self.now.stack.registers) c.new.ensures) (omega (arith, c.register-number.type_inv))
    (next_place (youngest_layout c.args.self.now) (layout_of (program_of c.args.self.now) c.frame-frame.result.code) c.in-Some.site.unit c.in-Some.site.index c.place.result (Some c.in-Some-place.place)
    (ap (λ f. layout_of (program_of c.args.self.now) f.code) c.frame-frame.ensures) c.place.ensures.place c.in-Some-place.is)
    (ap (λ s. record c.args.self.now { stack = s }) c.return_within.ensures)

pub returns-in-None-place-clause-does : goal.returns-in-None-place-clause-does
returns-in-None-place-clause-does c =
    ran_off_inside c.args.self.now c.requires.whole c.slot-slot.result (youngest_at c.args.self.now c.frame-frame.result c.slot-slot.result c.frame-frame.ensures c.slot-slot.ensures.slot) c.in-Some.site
    (site_read c.args.self.now c.frame-frame.result c.slot-slot.result.unit c.site.result (Some c.in-Some.site) c.frame-frame.ensures c.site.ensures.site c.in-Some.is)
    _
    (next_place (youngest_layout c.args.self.now) (layout_of (program_of c.args.self.now) c.frame-frame.result.code) c.in-Some.site.unit c.in-Some.site.index c.place.result None
    (ap (λ f. layout_of (program_of c.args.self.now) f.code) c.frame-frame.ensures) c.place.ensures.place c.in-None-place.is)
    refl

pub returns-in-Some-place-clause-rules : goal.returns-in-Some-place-clause-rules
returns-in-Some-place-clause-rules c =
    inside_keeps c.args.self.now _ c.requires.going (returns-in-Some-place-clause-does c) c.slot-slot.result c.in-Some.site c.in-Some-place.place c.register-number.result
    (youngest_at c.args.self.now c.frame-frame.result c.slot-slot.result c.frame-frame.ensures c.slot-slot.ensures.slot)
    (site_read c.args.self.now c.frame-frame.result c.slot-slot.result.unit c.site.result (Some c.in-Some.site) c.frame-frame.ensures c.site.ensures.site c.in-Some.is)
    (next_place (youngest_layout c.args.self.now) (layout_of (program_of c.args.self.now) c.frame-frame.result.code) c.in-Some.site.unit c.in-Some.site.index c.place.result (Some c.in-Some-place.place)
    (ap (λ f. layout_of (program_of c.args.self.now) f.code) c.frame-frame.ensures) c.place.ensures.place c.in-Some-place.is)
    (ap (λ s. record c.args.self.now { stack = s }) c.return_within.ensures)

pub returns-in-None-place-clause-rules : goal.returns-in-None-place-clause-rules
returns-in-None-place-clause-rules c = end_keeps c.args.self.now _ c.requires.going (returns-in-None-place-clause-does c) end.OffEnd refl
