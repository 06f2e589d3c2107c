use Rattle.std.specs.Prelude.{nat_lt, if◌then◌else◌}
use Rattle.guest_machine.proofs.Advancing.{register_read, less_value, not_less_value}
use Rattle.plain_machine.specs.PlainMachine.{register}
use Rattle.guest_machine.proofs.machine.Machine.compare.Goals as goal

pub returns-then-register-clause-does : goal.returns-then-register-clause-does
returns-then-register-clause-does c =
    c.set.ensures.does (λ frame. if nat_lt (register frame c.args.to) (register frame c.args.from) then 1 else 0) (λ frame same.
    less_value c.register.result c.register-2.result (register frame c.args.to) (register frame c.args.from)
    (register_read c.args.self.now.stack.registers c.args.to c.register.result frame c.register.ensures same) (register_read c.args.self.now.stack.registers c.args.from c.register-2.result frame c.register-2.ensures same)
    c.if-register.true)

pub returns-else-register-clause-does : goal.returns-else-register-clause-does
returns-else-register-clause-does c =
    c.set-else-register.ensures.does (λ frame. if nat_lt (register frame c.args.to) (register frame c.args.from) then 1 else 0) (λ frame same.
    not_less_value c.register.result c.register-2.result (register frame c.args.to) (register frame c.args.from)
    (register_read c.args.self.now.stack.registers c.args.to c.register.result frame c.register.ensures same) (register_read c.args.self.now.stack.registers c.args.from c.register-2.result frame c.register-2.ensures same)
    c.if-register.false)
