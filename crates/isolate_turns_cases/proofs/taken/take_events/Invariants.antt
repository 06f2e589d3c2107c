-- The queue keeps its spare place.
use Rattle.std.specs.Prelude.{◌≡◌}
use Rattle.isolate_turns_cases.proofs.taken.take_events.Given as goal

abbrev pub invariant-loop : goal.invariant-loop
invariant-loop l = l.queue.queue.spare ≡ l.fn.queue.queue.spare
