use Rattle.std.proofs.Common.{◌≡◌}
use Rattle.std.specs.Prelude.{drop}
use Rattle.schedule_ports.specs.ScheduleCalls.{is_dropped_at}
use Rattle.schedule_ports.proofs.ports.is_dropped_from.Given as goal

abbrev pub invariant-loop-at : goal.invariant-loop-at
invariant-loop-at l = is_dropped_at l.step (drop l.at l.entries) ≡ is_dropped_at l.step (drop l.from l.entries)
