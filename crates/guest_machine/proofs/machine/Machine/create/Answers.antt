use Rattle.guest_machine.proofs.PartsDone.{created_so, on_both, too_large_so}
use Rattle.guest_machine.proofs.machine.Machine.create.Goals as goal

pub returns-then-branch : goal.returns-then-branch
returns-then-branch c =
    created_so c.args.self.now c.ensure_plain.new.code c.create_optimised.new.code c.args.func c.args.events.now c.ensure_plain.new.events c.create_optimised.new.events
    c.in_ok-ensure_plain.ensures.raises c.ensure_plain.ensures.funcs (c.in_ok-create_optimised.ensures.created c.if-branch.true) (c.in_ok-create_optimised.ensures.small c.if-branch.true)

pub returns : goal.returns
returns c =
    on_both c.bar.result
    (too_large_so c.args.self.now c.ensure_plain.new.code c.create_optimised.new.code c.bar.new.self c.args.func c.in_ok-reason.reason c.args.events.now c.ensure_plain.new.events c.create_optimised.new.events c.bar.new.events
    c.in_ok-ensure_plain.ensures.raises c.ensure_plain.ensures.funcs (c.in_ok-create_optimised.ensures.same c.if-branch.false) (c.in_ok-create_optimised.ensures.unraised c.if-branch.false)
    (c.in_ok-create_optimised.ensures.large c.if-branch.false) c.in_ok-reason.ensures) c.bar.ensures.raises c.bar.ensures.flag
