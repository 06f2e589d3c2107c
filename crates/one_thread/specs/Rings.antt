-- The ring of one thread, which the processor empties after each turn.
use Rattle.std.specs.Prelude.{ℕ, List, [], length, Bool, nat_lt, Option, Some, None, if◌then◌else◌}
use Rattle.code_event.specs.declared.tick.Tick.{Tick}
use Rattle.pipe_core.specs.Plain.{RingValue}

-- what has gone into a ring that refuses each tick: nothing; else this cannot be observed
abbrev pub passed_now : Bool → Option (List Tick)
passed_now refuses = if refuses then Some [] else None

-- the count of full slots as it matters for a turn: of a ring that refuses each tick, the number of those that it has refused; else none where the ring has room for a tick
abbrev pub fulls_now : Bool → RingValue → List Tick → ℕ
fulls_now refuses ring refused = if refuses then length refused else if nat_lt (length ring.items) ring.places then 0 else ring.fulls
