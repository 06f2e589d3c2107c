use Rattle.plain_machine.proofs.Registers.{frames_have_registers}
use Rattle.plain_machine.proofs.laws.registers_are_below_two_to_the_64.Goals as goal

pub returns : goal.returns
returns c = frames_have_registers
