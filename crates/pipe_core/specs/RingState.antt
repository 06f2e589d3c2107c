-- What lies in the slots of a ring, by the ticks that were sent through it and those that were taken out of it.
use Rattle.std.specs.Prelude.{◌≡◌, ℕ, ◌+◌, ◌%◌, ◌<◌, ◌≤◌, List, ◌++◌, length, Bool, true, false, ◌&&◌, ◌==◌, nat_lt, Option, Some, None, if◌then◌else◌}
use Rattle.std.specs.List.{slice_get}
use Rattle.code_event.specs.declared.tick.Tick.{Tick}
use Rattle.pipe_core.specs.declared.world.Cell.{Cell}

-- The slot of the n-th tick, from 0, where the first `taken` ticks of those sent were taken out. The slot of a tick that was sent is marked full and has it, but the slot of the first one not taken has nothing while that tick is held. A slot for a tick that is not yet sent is marked empty and has nothing, but the next one may have the tick of an offer.
abbrev pub cell_of : List Tick → ℕ → Bool → Option Tick → ℕ → Cell
cell_of sent taken is_held offered n =
    if nat_lt n (length sent) then record { full = true; tick = if is_held && (n == taken) then None else slice_get sent n }
    else record { full = false; tick = if n == length sent then offered else None }

-- The slots of a ring: at most as many ticks wait as there are places, and each slot from that of the first tick that waits on, once round the ring, is as `cell_of` says.
pub record IsRing (cells : List Cell) (taken waiting : List Tick) (is_held : Bool) (offered : Option Tick) : Type 0 where
  pub some : 0 < length cells
  pub within : length waiting ≤ length cells
  pub each : (n : ℕ) → length taken ≤ n → n < length taken + length cells → slice_get cells (n % length cells) ≡ Some (cell_of (taken ++ waiting) (length taken) is_held offered n)
