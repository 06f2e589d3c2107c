use Rattle.guest_machine.proofs.Raised.{plain_leaves}
use Rattle.guest_machine.proofs.raising.ensure_plain.Goals as goal

pub returns-in_err-push-clause-optimised : goal.returns-in_err-push-clause-optimised
returns-in_err-push-clause-optimised c = plain_leaves c.args.code.now c.ensure_plain.new.self c.args.func c.ensure_plain.ensures.others

pub returns-in_ok-push-clause-optimised : goal.returns-in_ok-push-clause-optimised
returns-in_ok-push-clause-optimised c = plain_leaves c.args.code.now c.ensure_plain.new.self c.args.func c.ensure_plain.ensures.others
