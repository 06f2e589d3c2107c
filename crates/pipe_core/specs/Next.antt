-- Which item is next, for a processor that has taken a number of events and a number of ticks.
use Rattle.std.specs.Prelude.{ℕ, suc, ◌==◌, ◌&&◌, Bool, false, Option, Some, None}
use Rattle.pipe_core.specs.declared.stamp.Stamp.{Stamp}

-- the event with this stamp is next: its number is one more than that of the events taken, and just the ticks taken come before it
abbrev pub is_event_next : ℕ → ℕ → Stamp → Bool
is_event_next events ticks stamp = (stamp.event == suc events) && (stamp.tick == ticks)

-- the tick with this stamp is next: just the events taken come before it, and its number is one more than that of the ticks taken
abbrev pub is_tick_next : ℕ → ℕ → Stamp → Bool
is_tick_next events ticks stamp = (stamp.event == events) && (stamp.tick == suc ticks)

-- a stamp is shown, and it passes
abbrev pub is_shown : (Stamp → Bool) → Option Stamp → Bool
is_shown passes None = false
is_shown passes (Some stamp) = passes stamp
