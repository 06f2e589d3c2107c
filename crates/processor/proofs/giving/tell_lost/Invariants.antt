use Rattle.std.proofs.Common.{◌≡◌, take}
use Rattle.std.specs.Prelude.{is_err}
use Rattle.processor.specs.Filing.{AreToldLost}
use Rattle.processor.proofs.giving.tell_lost.Given as goal

abbrev pub invariant-loop-session : goal.invariant-loop-session
invariant-loop-session g l = record {
  home : g.X.FilePorts.home l.ports ≡ g.X.FilePorts.home l.fn.ports;
  given : AreToldLost (take l.session-index l.running) (is_err l.told) (g.X.FilePorts.given l.fn.ports) (g.X.FilePorts.given l.ports);
}
