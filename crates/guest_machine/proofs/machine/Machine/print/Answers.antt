use Rattle.guest_machine.proofs.Advancing.{has_printed, has_not_printed, text_printed, text_not_printed}
use Rattle.guest_machine.proofs.machine.Machine.print.Goals as goal

pub returns-then-rise-clause-does : goal.returns-then-rise-clause-does
returns-then-rise-clause-does c = has_printed c.args.self.now c.rise.new.self c.args.from c.if-rise.ensures.rises

pub returns-then-rise-clause-printed : goal.returns-then-rise-clause-printed
returns-then-rise-clause-printed c = text_printed c.args.self.now c.rise.new.self c.args.from c.register-number.result c.if-rise.ensures.rises c.register-number.ensures

pub returns-else-rise-clause-does : goal.returns-else-rise-clause-does
returns-else-rise-clause-does c = has_not_printed c.args.self.now c.rise.new.self c.args.from c.if-rise.ensures.rises

pub returns-else-rise-clause-printed : goal.returns-else-rise-clause-printed
returns-else-rise-clause-printed c = text_not_printed c.args.self.now c.rise.new.self c.args.from c.if-rise.ensures.rises

pub returns-then-rise-clause-stays : goal.returns-then-rise-clause-stays
returns-then-rise-clause-stays c = (c.rise.result, c.rise.ensures.moves)

pub returns-else-rise-clause-stays : goal.returns-else-rise-clause-stays
returns-else-rise-clause-stays c = (c.rise.result, c.rise.ensures.moves)
