use Rattle.std.proofs.Common.{◌≡◌, ◌≤◌, None}
use Rattle.isolate_turns.specs.Ready.{IsIsolate}
use Rattle.prof_rows.proofs.held.turn_to_end.Given as goal

abbrev pub invariant-loop : goal.invariant-loop
invariant-loop l = IsIsolate l.isolate.guest.machine l.isolate.progress × (l.isolate.progress.ending ≡ None → 1 ≤ l.isolate.ends.events.spare)
