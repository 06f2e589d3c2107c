use Rattle.guest_machine.proofs.Advancing.{has_jumped, has_not_jumped, has_passed}
use Rattle.guest_machine.proofs.machine.Machine.jump_if_zero.Goals as goal

pub returns-then-register-eq0-clause-does : goal.returns-then-register-eq0-clause-does
returns-then-register-eq0-clause-does c = has_jumped c.args.self.now c.jump.new.self c.args.tested c.args.index c.register.result c.register.ensures c.if-register-eq0.true c.jump.ensures.does

pub returns-else-register-eq0-clause-does : goal.returns-else-register-eq0-clause-does
returns-else-register-eq0-clause-does c =
    has_not_jumped c.args.self.now c.rise.new.self c.args.tested c.args.index c.register.result c.register.ensures c.if-register-eq0.false (has_passed c.args.self.now c.rise.new.self c.rise.result c.rise.ensures.rises)

pub returns-else-register-eq0-clause-stays : goal.returns-else-register-eq0-clause-stays
returns-else-register-eq0-clause-stays c = (c.rise.result, c.rise.ensures.moves)
