use Rattle.std.proofs.Common.{◌∙◌, sym, ap, arith, refl, Some, None}
use Rattle.code_objects.specs.CodeObjects.{layout_of}
use Rattle.guest_machine.proofs.Returns.{halted, caller_placed, caller_short, returned_out, ran_off_out, whole_out, next_place}
use Rattle.guest_machine.specs.Machine.{program_of}
use Rattle.guest_machine.proofs.ReturnRules.{end_keeps, out_keeps}
use Rattle.guest_stack.proofs.Positions.{slot_there}
use Rattle.plain_machine.specs.declared.ended.Ended.TheVariants as end
use Rattle.guest_machine.proofs.machine.Machine.return_to_caller.Goals as goal

pub returns-in_default-clause-does : goal.returns-in_default-clause-does
returns-in_default-clause-does c = halted c.args.self.now c.requires.whole c.requires.outermost _ (sym c.caller.ensures ∙ c.in_default.is) refl

pub slot-slot-requires : goal.slot-slot-requires
slot-slot-requires c = record { placed = caller_placed c.args.self.now c.requires.whole c.requires.outermost c.in-Some.caller (sym c.caller.ensures ∙ c.in-Some.is) }

pub overflow_add-slot : goal.overflow_add-slot
overflow_add-slot c =
    let short = caller_short c.args.self.now c.requires.whole c.requires.outermost c.in-Some.caller (sym c.caller.ensures ∙ c.in-Some.is) c.slot-slot.result c.slot-slot.ensures.slot in omega (arith, short)

pub place-requires : goal.place-requires
place-requires c = record { placed = caller_placed c.args.self.now c.requires.whole c.requires.outermost c.in-Some.caller (sym c.caller.ensures ∙ c.in-Some.is) }

pub returns-in-Some-place-clause-whole : goal.returns-in-Some-place-clause-whole
returns-in-Some-place-clause-whole c =
    whole_out c.args.self.now c.requires.whole c.requires.outermost c.in-Some.caller (sym c.caller.ensures ∙ c.in-Some.is) c.slot-slot.result c.slot-slot.ensures.slot _ c.in-Some-place.place c.args.number
    (next_place _ (layout_of (program_of c.args.self.now) c.in-Some.caller.code) c.slot-slot.result.unit c.slot-slot.result.index c.place.result (Some c.in-Some-place.place) refl c.place.ensures.place c.in-Some-place.is)
    (ap (λ s. record c.args.self.now { stack = s }) c.return_to_caller.ensures)

pub returns-in-Some-place-clause-does : goal.returns-in-Some-place-clause-does
returns-in-Some-place-clause-does c =
    returned_out c.args.self.now c.requires.whole c.requires.outermost c.in-Some.caller (sym c.caller.ensures ∙ c.in-Some.is) c.slot-slot.result c.slot-slot.ensures.slot _ c.in-Some-place.place c.args.number
    c.requires.number (omega (arith, c.ranges.number.fits))
    (next_place _ (layout_of (program_of c.args.self.now) c.in-Some.caller.code) c.slot-slot.result.unit c.slot-slot.result.index c.place.result (Some c.in-Some-place.place) refl c.place.ensures.place c.in-Some-place.is)
    (ap (λ s. record c.args.self.now { stack = s }) c.return_to_caller.ensures)

pub returns-in-None-clause-does : goal.returns-in-None-clause-does
returns-in-None-clause-does c =
    ran_off_out c.args.self.now c.requires.whole c.requires.outermost c.in-Some.caller (sym c.caller.ensures ∙ c.in-Some.is) c.slot-slot.result c.slot-slot.ensures.slot _
    (next_place _ (layout_of (program_of c.args.self.now) c.in-Some.caller.code) c.slot-slot.result.unit c.slot-slot.result.index c.place.result None refl c.place.ensures.place c.in-None.is) refl

pub returns-in_default-clause-rules : goal.returns-in_default-clause-rules
returns-in_default-clause-rules c = end_keeps c.args.self.now _ c.requires.going (returns-in_default-clause-does c) end.Halt refl

pub returns-in-Some-place-clause-rules : goal.returns-in-Some-place-clause-rules
returns-in-Some-place-clause-rules c =
    let own = slot_there (program_of c.args.self.now) c.args.self.now.stack.frame c.requires.whole.placed.0.code in
    out_keeps c.args.self.now _ c.requires.going (returns-in-Some-place-clause-does c) own.0 c.in-Some.caller c.slot-slot.result c.in-Some-place.place c.args.number own.1 (c.requires.outermost own.0 own.1)
    (sym c.caller.ensures ∙ c.in-Some.is) c.slot-slot.ensures.slot
    (next_place _ (layout_of (program_of c.args.self.now) c.in-Some.caller.code) c.slot-slot.result.unit c.slot-slot.result.index c.place.result (Some c.in-Some-place.place) refl c.place.ensures.place c.in-Some-place.is)
    (ap (λ s. record c.args.self.now { stack = s }) c.return_to_caller.ensures)

pub returns-in-None-clause-rules : goal.returns-in-None-clause-rules
returns-in-None-clause-rules c = end_keeps c.args.self.now _ c.requires.going (returns-in-None-clause-does c) end.OffEnd refl
