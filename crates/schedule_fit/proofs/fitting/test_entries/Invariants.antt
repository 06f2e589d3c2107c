use Rattle.std.proofs.Common.{◌≡◌, drop, take}
use Rattle.guest_machine.specs.Machine.{program_of}
use Rattle.schedule_fit.specs.Reached.{Runs}
use Rattle.schedule_fit.specs.Unfits.{AllFit, Rise}
use Rattle.schedule_fit.proofs.fitting.test_entries.Given as goal

abbrev pub invariant-loop-entry : goal.invariant-loop-entry
invariant-loop-entry l = record {
  number : l.number ≡ l.entry-index;
  program : program_of l.machine ≡ program_of l.fn.machine;
  runs : Runs l.machine;
  order : Rise l.machine.steps (drop l.entry-index l.entries);
  fits : AllFit (program_of l.fn.machine) (take l.entry-index l.entries);
}
