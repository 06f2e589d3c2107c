use Rattle.std.proofs.Common.{◌≡◌, ◌∙◌, sym, ap, refl}
use Rattle.std.proofs.lemmas.Result.{IfOk-weaker}
use Rattle.std.specs.Prelude.{is_some, option_to_list}
use Rattle.code_objects.specs.CodeObjects.{optimised_name, plain_name}
use Rattle.guest_machine.proofs.Said.{plain_alone}
use Rattle.guest_machine.proofs.Calls.{calls_out, code_stays, no_reason_given}
use Rattle.guest_machine.proofs.CallRules.{both_ok, called_optimised, called_plain, out_keeps, sure_there}
use Rattle.guest_machine.specs.Machine.{Acts}
use Rattle.plain_machine.specs.PlainMachine.{calls}
use Rattle.guest_machine.proofs.machine.Machine.call_code.Goals as goal

pub returns-then-is_some-clause-acts : goal.returns-then-is_some-clause-acts
returns-then-is_some-clause-acts c =
    calls_out c.args.self.now c.requires.whole c.args.self.now.code (optimised_name c.args.func) c.requires.known c.requires.room refl
    (ap is_some (sym c.start_of.ensures.start) ∙ sym c.is_some.ensures ∙ c.if-is_some.true) (λ other had. had) (λ func. refl) c.new.result _ c.new.ensures
    (λ ranges lie. lie) (λ ranges why. refl) _ (ap (λ s. record c.args.self.now { stack = s }) c.in_ok-call_code.ensures.called)

pub returns-clause-acts : goal.returns-clause-acts
returns-clause-acts c =
    IfOk-weaker c.events_of.result _ _
    (λ events events_are.
    calls_out c.args.self.now c.requires.whole c.ensure_plain.new.self (plain_name c.args.func) c.requires.known c.requires.room c.ensure_plain.ensures.funcs c.in_ok-created.ensures.there
    (code_stays c.args.self.now.code c.ensure_plain.new.self (plain_name c.args.func) c.in_ok-created.ensures.there c.ensure_plain.ensures.others)
    (plain_alone c.args.self.now.code c.ensure_plain.new.self c.args.func c.ensure_plain.ensures.others) events
    (option_to_list c.in_ok-created.created) events_are c.in_ok-created.ensures.ranges
    (no_reason_given c.args.self.now.code c.ensure_plain.new.self (plain_name c.args.func) c.in_ok-created.created c.in_ok-created.ensures.event) _
    (ap (λ s. record c.args.self.now { code = c.ensure_plain.new.self; stack = s }) c.in_ok-call_code-2.ensures.called))
    c.events_of.ensures

pub returns-then-is_some-clause-rules : goal.returns-then-is_some-clause-rules
returns-then-is_some-clause-rules c =
    let there = ap is_some (sym c.start_of.ensures.start) ∙ sym c.is_some.ensures ∙ c.if-is_some.true in
    out_keeps c.args.self.now (record c.args.self.now { stack = c.call_code.new.self }) c.args.func c.new.result (returns-then-is_some-clause-acts c).does c.requires.going c.requires.outside c.args.self.now.code
    (optimised_name c.args.func) (called_optimised c.args.self.now.code c.args.func there) (sure_there (optimised_name c.args.func) c.args.self.now.code c.new.result there c.new.ensures)
    (ap (λ s. record c.args.self.now { stack = s }) c.in_ok-call_code.ensures.called)

pub returns-clause-rules : goal.returns-clause-rules
returns-clause-rules c =
    let none = ap is_some (sym c.start_of.ensures.start) ∙ sym c.is_some.ensures ∙ c.if-is_some.false in
    both_ok c.events_of.result
    (λ events. Acts c.args.self.now (record c.args.self.now { code = c.ensure_plain.new.self; stack = c.call_code-2.new.self }) events (λ state frame callers. calls state frame callers c.args.func.0))
    (λ events. events ≡ option_to_list c.in_ok-created.created) _
    (λ events acts events_are.
    out_keeps c.args.self.now (record c.args.self.now { code = c.ensure_plain.new.self; stack = c.call_code-2.new.self }) c.args.func events acts.does c.requires.going c.requires.outside c.ensure_plain.new.self
    (plain_name c.args.func) (called_plain c.args.self.now.code c.args.func none)
    (record { event = c.in_ok-created.created; sure = c.in_ok-created.ensures.event; others = c.ensure_plain.ensures.others; funcs = c.ensure_plain.ensures.funcs; raised = events_are })
    (ap (λ s. record c.args.self.now { code = c.ensure_plain.new.self; stack = s }) c.in_ok-call_code-2.ensures.called))
    (returns-clause-acts c) c.events_of.ensures
