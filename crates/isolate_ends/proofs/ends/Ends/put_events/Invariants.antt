use Rattle.std.proofs.Common.{◌≡◌, ◌≤◌, ◌^◌, ◌-◌, ◌++◌, length}
use Rattle.std.specs.Vec.Iter.{into_iter_items}
use Rattle.isolate_acts.specs.Acts.{numbered}
use Rattle.isolate_ends.specs.Queues.{HaveMore, shown}
use Rattle.isolate_ends.proofs.ends.Ends.put_events.Given as goal

abbrev pub invariant-loop-event : goal.invariant-loop-event
invariant-loop-event g l = record {
  can_next : (goal.iterator-loop-event g).can_next l.event-iterator;
  is_finite : (goal.iterator-loop-event g).is_finite l.event-iterator;
  rest : l.fn.events ≡ l.yielded ++ into_iter_items l.event-iterator;
  counted : l.count ≡ length l.yielded;
  few : length l.fn.events ≤ 2 ^ 32 - 1;
  more :
      HaveMore (shown g.E.Tail.passed g.V.Tail.passed g.O.Offer.passed g.E.Tail.holds g.V.Tail.holds g.O.Offer.holds l.initial.self)
      (shown g.E.Tail.passed g.V.Tail.passed g.O.Offer.passed g.E.Tail.holds g.V.Tail.holds g.O.Offer.holds l.self) (numbered l.before l.ticks l.yielded);
  spare : g.E.Tail.spare l.self.events ≡ g.E.Tail.spare l.initial.self.events;
  home : g.E.Tail.home l.self.events ≡ g.E.Tail.home l.initial.self.events;
  vm_ticks : l.self.vm_ticks ≡ l.initial.self.vm_ticks;
  ring : l.self.ring ≡ l.initial.self.ring;
}
