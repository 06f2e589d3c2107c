use Rattle.guest_machine.proofs.PartsDone.{disabled_so, on_both}
use Rattle.guest_machine.proofs.machine.Machine.disable.Goals as goal

pub returns : goal.returns
returns c =
    on_both c.bar.result
    (disabled_so c.args.self.now c.ensure_plain.new.code c.bar.new.self c.args.func c.args.reason c.args.events.now c.ensure_plain.new.events c.bar.new.events c.in_ok-ensure_plain.ensures.raises c.ensure_plain.ensures.funcs)
    c.bar.ensures.raises c.bar.ensures.flag
