use Rattle.std.proofs.Common.{ap₂, ◌*◌, ◌%◌, ◌^◌}
use Rattle.guest_machine.proofs.Advancing.{register_read}
use Rattle.plain_machine.specs.PlainMachine.{register}
use Rattle.guest_machine.proofs.machine.Machine.multiply.Goals as goal

pub returns-clause-does : goal.returns-clause-does
returns-clause-does c =
    c.set.ensures.does (λ frame. register frame c.args.to * register frame c.args.from) (λ frame same. ap₂ (λ a b. (a * b) % 2 ^ 64)
    (register_read c.args.self.now.stack.registers c.args.to c.register.result frame c.register.ensures same) (register_read c.args.self.now.stack.registers c.args.from c.register-2.result frame c.register-2.ensures same))
