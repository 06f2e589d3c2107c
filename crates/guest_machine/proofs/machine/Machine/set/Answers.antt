use Rattle.std.proofs.Common.{ap, refl, ◌∷◌}
use Rattle.guest_stack.specs.Stack.{Physical}
use Rattle.std.specs.Prelude.{slice_set}
use Rattle.guest_machine.proofs.Advancing.{has_set, has_not_set, whole_set}
use Rattle.guest_machine.proofs.Moved.{set_stays}
use Rattle.guest_machine.proofs.machine.Machine.set.Goals as goal

pub returns-then-rise-clause-whole : goal.returns-then-rise-clause-whole
returns-then-rise-clause-whole c =
    whole_set c.rise.new.self _ (slice_set c.rise.new.self.stack.registers c.args.to c.args.number) c.rise.ensures.whole (ap (λ s. record c.rise.new.self { stack = s }) c.set.ensures)

pub returns-then-rise-clause-does : goal.returns-then-rise-clause-does
returns-then-rise-clause-does c n number_is =
    has_set c.args.self.now c.rise.new.self _ c.args.to c.args.number n number_is c.if-rise.ensures.rises (ap (λ s. record c.rise.new.self { stack = s }) c.set.ensures)

pub returns-else-rise-clause-does : goal.returns-else-rise-clause-does
returns-else-rise-clause-does c n number_is = has_not_set c.args.self.now c.rise.new.self c.args.to n c.if-rise.ensures.rises

pub returns-then-rise-clause-stays : goal.returns-then-rise-clause-stays
returns-then-rise-clause-stays c =
    set_stays c.rise.result c.args.self.now c.rise.new.self _ c.rise.ensures.moves (ap (λ (s : Physical). s.frame ∷ s.callers) c.set.ensures) refl

pub returns-else-rise-clause-stays : goal.returns-else-rise-clause-stays
returns-else-rise-clause-stays c = (c.rise.result, c.rise.ensures.moves)
