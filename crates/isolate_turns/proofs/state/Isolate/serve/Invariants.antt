use Rattle.std.proofs.Common.{◌≡◌, ◌≤◌, false}
use Rattle.std.specs.Prelude.{None}
use Rattle.isolate_acts.specs.Phases.{after_command, at_port}
use Rattle.isolate_acts.specs.Progress.{Moment}
use Rattle.isolate_ends.specs.Queues.{shown}
use Rattle.isolate_ends.specs.Runs.{Runs, Stays, whole}
use Rattle.isolate_turns.specs.Ready.{IsIsolate, IsNow}
use Rattle.isolate_turns.proofs.state.Isolate.serve.Given as goal

abbrev pub invariant-loop-taken : goal.invariant-loop-taken
invariant-loop-taken g l = record {
  whole_is : IsIsolate l.self.guest.machine l.self.progress;
  not_sampled : l.self.progress.ending ≡ None → l.self.progress.is_sampled ≡ false;
  spare : l.self.progress.ending ≡ None → 1 ≤ g.E.Tail.spare l.self.ends.events;
  spare_kept : l.self.progress.ending ≡ None → g.E.Tail.spare l.self.ends.events ≡ g.E.Tail.spare l.initial.self.ends.events;
  guest : l.self.guest ≡ l.initial.self.guest;
  printed : l.self.printed ≡ l.initial.self.printed;
  stays : Stays l.initial.self.progress l.self.progress;
  home : g.E.Tail.home l.self.ends.events ≡ g.E.Tail.home l.initial.self.ends.events;
  vm_home : g.V.Tail.home l.self.ends.vm_ticks ≡ g.V.Tail.home l.initial.self.ends.vm_ticks;
  ring : l.self.ends.ring ≡ l.initial.self.ends.ring;
  ports : g.P.IsoPorts.ports_home l.ports ≡ g.P.IsoPorts.ports_home l.initial.ports;
  runs :
      (moment : Moment)
      → IsNow l.initial.self.guest.machine l.initial.self.progress l.initial.self.printed.items moment
      → Runs (whole moment l.initial.self.progress (g.P.IsoPorts.calls l.initial.ports) (shown g.E.Tail.passed g.V.Tail.passed g.O.Offer.passed g.E.Tail.holds g.V.Tail.holds g.O.Offer.holds l.initial.self.ends))
      (whole moment l.self.progress (g.P.IsoPorts.calls l.ports) (shown g.E.Tail.passed g.V.Tail.passed g.O.Offer.passed g.E.Tail.holds g.V.Tail.holds g.O.Offer.holds l.self.ends))
      (at_port l.port l.commands) (after_command l.self.progress l.port l.taken);
}
