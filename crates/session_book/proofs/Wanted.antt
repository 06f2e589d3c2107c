-- Whether a tick is kept after those since the last that was kept with an interval above 0.
use Rattle.std.proofs.Common.{ℕ, List}
use Rattle.std.specs.Prelude.{Bool, ◌==◌, ◌||◌, Option}
use Rattle.code_event.specs.Subsample.{is_due}
use Rattle.code_event.specs.declared.seen.ResolvedTick.{ResolvedTick}

-- a tick is kept, by the ticks since the last that was kept with an interval above 0
abbrev pub is_wanted : ℕ → Option (List ResolvedTick) → ResolvedTick → Bool
is_wanted rounded since tick = (tick.interval == 0) || is_due rounded tick.interval since
