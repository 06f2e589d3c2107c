use Rattle.std.proofs.Common.{◌≡◌, ◌<◌, ap, ap₂, ◌+◌, ◌-◌, ◌%◌, ◌^◌, ◌∙◌, ℕ, arith}
use Rattle.guest_machine.proofs.Advancing.{register_read}
use Rattle.plain_machine.specs.PlainMachine.{register}
use Rattle.guest_machine.proofs.machine.Machine.subtract.Goals as goal

same_difference : (a b : ℕ) → b < 2 ^ 64 → a + (2 ^ 64 - b) ≡ a + 2 ^ 64 - b
same_difference a b small = omega (arith, small)

pub returns-clause-does : goal.returns-clause-does
returns-clause-does c =
    c.set.ensures.does (λ frame. register frame c.args.to + 2 ^ 64 - register frame c.args.from) (λ frame same. ap (λ n. n % 2 ^ 64) (same_difference c.register.result c.register-2.result c.register-2.type_inv)
    ∙ ap₂ (λ a b. (a + 2 ^ 64 - b) % 2 ^ 64)
    (register_read c.args.self.now.stack.registers c.args.to c.register.result frame c.register.ensures same) (register_read c.args.self.now.stack.registers c.args.from c.register-2.result frame c.register-2.ensures same))
