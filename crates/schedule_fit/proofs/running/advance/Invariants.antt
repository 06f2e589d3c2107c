use Rattle.std.proofs.Common.{◌≡◌, ◌≤◌, ◌-◌}
use Rattle.guest_machine.specs.Machine.{program_of}
use Rattle.schedule_fit.specs.Reached.{Runs}
use Rattle.schedule_fit.proofs.running.advance.Given as goal

abbrev pub invariant-loop-machine : goal.invariant-loop-machine
invariant-loop-machine l = record {
  program : program_of l.machine ≡ program_of l.fn.machine;
  runs : Runs l.machine;
  order : l.machine.steps ≤ l.step;
}

abbrev pub decreases-loop-machine : goal.decreases-loop-machine
decreases-loop-machine l = l.step - l.machine.steps
