-- The machine that runs is whole.
use Rattle.guest_machine.specs.Machine.{IsMachine}
use Rattle.guest_machine_cases.proofs.run.Given as goal

abbrev pub invariant-loop : goal.invariant-loop
invariant-loop g l = IsMachine l.machine
