use Rattle.std.proofs.Common.{ap}
use Rattle.guest_machine.proofs.PlainSteps.{reflects_after, rules_after}
use Rattle.guest_machine.proofs.machine.Machine.step.Goals as goal

pub returns-clause-reflects : goal.returns-clause-reflects
returns-clause-reflects c =
    reflects_after c.args.self.now c.advance.new.self _ c.in_ok-done.done c.requires.whole c.requires.going c.in_ok-done.ensures.steps (ap (λ n. record c.advance.new.self { steps = n }) c.saturating_add-self.ensures)

pub returns-clause-rules : goal.returns-clause-rules
returns-clause-rules c =
    rules_after c.args.self.now c.advance.new.self _ c.in_ok-done.done c.requires.whole c.requires.going c.in_ok-done.ensures.steps (ap (λ n. record c.advance.new.self { steps = n }) c.saturating_add-self.ensures)
