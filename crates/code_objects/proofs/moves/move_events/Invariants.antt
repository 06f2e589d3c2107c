use Rattle.std.proofs.Common.{◌≡◌, ◌≤◌, ◌+◌, ◌++◌, length, map, take, vec_len, vec_capacity}
use Rattle.code_objects.specs.Changes.{move_event}
use Rattle.code_objects.proofs.moves.move_events.Given as goal

abbrev pub invariant-loop-item : goal.invariant-loop-item
invariant-loop-item l =
    record {
      events : l.events.items ≡ l.initial.events.items ++ map move_event (take l.item-index l.moves);
      room : vec_len l.events + length l.moves ≤ vec_capacity l.events + l.item-index;
    }
