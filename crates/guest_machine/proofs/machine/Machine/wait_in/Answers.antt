use Rattle.std.proofs.Common.{refl}
use Rattle.guest_machine.proofs.Advancing.{has_waited, has_not_waited}
use Rattle.guest_machine.proofs.Moved.{set_stays}
use Rattle.guest_machine.proofs.machine.Machine.wait_in.Goals as goal

pub returns-then-rise-clause-does : goal.returns-then-rise-clause-does
returns-then-rise-clause-does c = has_waited c.args.self.now c.rise.new.self _ c.args.state c.args.steps c.if-rise.ensures.rises refl

pub returns-else-rise-clause-does : goal.returns-else-rise-clause-does
returns-else-rise-clause-does c = has_not_waited c.args.self.now c.rise.new.self c.args.state c.args.steps c.if-rise.ensures.rises

pub returns-then-rise-clause-stays : goal.returns-then-rise-clause-stays
returns-then-rise-clause-stays c = set_stays c.rise.result c.args.self.now c.rise.new.self _ c.rise.ensures.moves refl refl

pub returns-else-rise-clause-stays : goal.returns-else-rise-clause-stays
returns-else-rise-clause-stays c = (c.rise.result, c.rise.ensures.moves)
