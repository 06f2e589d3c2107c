-- Kept ticks by sums: a sum takes the place of the ticks since the last that was kept.
use Rattle.std.specs.Prelude.{ℕ, ◌+◌, List, [], ◌∷◌, ◌==◌, nat_lt, Option, Some, None, if◌then◌else◌}
use Rattle.std.specs.Option.{option_map_or}
use Rattle.code_event.specs.declared.seen.ResolvedTick.{ResolvedTick}

-- the sum of the intervals after a tick that is not kept; none where it is due
abbrev pub sum_after : ℕ → ℕ → Option ℕ → Option ℕ
sum_after rounded interval None = None
sum_after rounded interval (Some sum) = if nat_lt (sum + interval) rounded then Some (sum + interval) else None

-- the kept ticks, by the sum of the intervals since the last that was kept with one above 0
abbrev pub kept_by_sum : ℕ → Option ℕ → List ResolvedTick → List ResolvedTick
kept_by_sum rounded since [] = []
kept_by_sum rounded since (tick ∷ ticks) =
    if tick.interval == 0 then tick ∷ kept_by_sum rounded since ticks
    else option_map_or (λ sum. kept_by_sum rounded (Some sum) ticks) (sum_after rounded tick.interval since) (tick ∷ kept_by_sum rounded (Some 0) ticks)
