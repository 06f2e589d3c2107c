use Rattle.std.proofs.Common.{◌≡◌, ◌+◌, ◌<◌, ℕ, length}
use Rattle.std.specs.Prelude.{slice_index}
use Rattle.profile_tree.proofs.walk.ids.Given as goal

-- the keys before this place have their ids
abbrev pub invariant-loop-at : goal.invariant-loop-at
invariant-loop-at l =
    record {
      sized : length l.ids.items ≡ l.count;
      done : (place : ℕ) → place < l.at → slice_index l.ids.items (slice_index l.order place) ≡ place + 1;
    }
