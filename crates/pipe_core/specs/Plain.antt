-- The queue and the ring of one thread, as their users see them.
use Rattle.std.specs.Prelude.{ℕ, List, Bool, Option, None, option_map, if◌then◌else◌}
use Rattle.code_event.specs.declared.tick.Tick.{Tick}
use Rattle.pipe_core.specs.declared.stamp.Stamp.{Stamp}
use Rattle.pipe_core.specs.Observed.{first_of}

-- a queue: the items that it holds, its spare places, whether the last look shows its first item, and how often it was looked at
pub record QueueValue (T : Type 0) : Type 0 where
  pub items : List T
  pub spare : ℕ
  pub is_shown : Bool
  pub looks : ℕ

-- the stamp that the last look showed, as long as its item is there
abbrev pub shown_of : {T : Type 0} → (T → Stamp) → QueueValue T → Option Stamp
shown_of stamp queue = if queue.is_shown then option_map stamp (first_of queue.items) else None

-- a ring: the ticks that it holds, a held one first; the number of its places; whether its first tick is held; how often it answered Full, and how often Empty
pub record RingValue : Type 0 where
  pub items : List Tick
  pub places : ℕ
  pub is_held : Bool
  pub fulls : ℕ
  pub empties : ℕ

-- the tick that is held
abbrev pub held_of : RingValue → Option Tick
held_of ring = if ring.is_held then first_of ring.items else None
