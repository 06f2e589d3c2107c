use Rattle.std.proofs.Common.{ap, arith, refl, Some, None}
use Rattle.std.proofs.lemmas.Result.{IfOk-weaker}
use Rattle.guest_machine.proofs.Calls.{overflows, child_begins, calls_inside, place_read}
use Rattle.guest_machine.proofs.CallRules.{overflow_keeps, within_keeps}
use Rattle.plain_machine.specs.declared.ended.Ended.TheVariants as end
use Rattle.guest_machine.proofs.machine.Machine.call.Goals as goal

pub returns-then-depth-ge-MAX_CALLERS-clause-acts : goal.returns-then-depth-ge-MAX_CALLERS-clause-acts
returns-then-depth-ge-MAX_CALLERS-clause-acts c =
    overflows c.args.self.now c.requires.whole c.args.func.0 c.new.result (omega (arith, c.if-depth-ge-MAX_CALLERS.true, c.depth.ensures)) c.new.ensures

pub unreachable-requires : goal.unreachable-requires
unreachable-requires c =
    child_begins c.args.self.now c.requires.whole c.in-Some.unit c.in-Some.ensures.child c.args.func c.requires.next c.requires.known
    (place_read c.args.self.now c.frame.result c.in-Some.unit c.place.result None c.frame.ensures c.place.ensures.place c.in-None-place.is)

pub returns-in_ok-call_within-in-Some-place-clause-acts : goal.returns-in_ok-call_within-in-Some-place-clause-acts
returns-in_ok-call_within-in-Some-place-clause-acts c =
    calls_inside c.args.self.now c.requires.whole c.in-Some.unit c.in-Some.ensures.child c.args.func c.requires.next c.new-in-Some-place.result c.in-Some-place.place c.new-in-Some-place.ensures
    (omega (arith, c.if-depth-ge-MAX_CALLERS.false, c.depth.ensures))
    (place_read c.args.self.now c.frame.result c.in-Some.unit c.place.result (Some c.in-Some-place.place) c.frame.ensures c.place.ensures.place c.in-Some-place.is) _
    (ap (λ s. record c.args.self.now { stack = s }) c.in_ok-call_within-in-Some-place.ensures.called)

pub returns-in-None-clause-inlined : goal.returns-in-None-clause-inlined
returns-in-None-clause-inlined c = IfOk-weaker c.call_code.result _ _ (λ events acts unit child. absurd (cc (c.in-None.ensures.found unit child))) c.call_code.ensures.acts

pub returns-then-depth-ge-MAX_CALLERS-clause-rules : goal.returns-then-depth-ge-MAX_CALLERS-clause-rules
returns-then-depth-ge-MAX_CALLERS-clause-rules c =
    overflow_keeps c.args.self.now (record c.args.self.now { ended = Some end.Overflow }) c.args.func c.new.result (returns-then-depth-ge-MAX_CALLERS-clause-acts c).does refl c.new.ensures

pub returns-in_ok-call_within-in-Some-place-clause-rules : goal.returns-in_ok-call_within-in-Some-place-clause-rules
returns-in_ok-call_within-in-Some-place-clause-rules c =
    within_keeps c.args.self.now (record c.args.self.now { stack = c.call_within.new.self }) c.args.func c.new-in-Some-place.result (returns-in_ok-call_within-in-Some-place-clause-acts c).does c.requires.whole
    c.requires.going c.in-Some.unit c.in-Some-place.place c.in-Some.ensures.child
    (place_read c.args.self.now c.frame.result c.in-Some.unit c.place.result (Some c.in-Some-place.place) c.frame.ensures c.place.ensures.place c.in-Some-place.is)
    (ap (λ s. record c.args.self.now { stack = s }) c.in_ok-call_within-in-Some-place.ensures.called) c.new-in-Some-place.ensures
