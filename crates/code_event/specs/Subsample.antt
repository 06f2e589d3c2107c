-- The subsample of a session: which of its ticks it keeps, by its own interval.
use Rattle.std.specs.Prelude.{ℕ, ◌+◌, List, [], ◌∷◌, ◌++◌, Bool, true, ◌==◌, nat_le, Option, Some, None, option_map, sum_by, if◌then◌else◌}
use Rattle.prof_base.specs.Interval.{rounded_of}
use Rattle.code_event.specs.declared.seen.ResolvedTick.{ResolvedTick}
use Rattle.code_event.specs.declared.recording.Begun.{Begun}

-- a tick of this interval is kept after those since the last that was kept with an interval above 0: where none was, or where all together reach the session's interval
abbrev pub is_due : ℕ → ℕ → Option (List ResolvedTick) → Bool
is_due rounded interval None = true
is_due rounded interval (Some since) = nat_le rounded (sum_by (λ tick. tick.interval) since + interval)

-- the kept ticks, by those since the last that was kept with an interval above 0, if one was; a tick of interval 0 is always kept
abbrev pub kept_since : ℕ → Option (List ResolvedTick) → List ResolvedTick → List ResolvedTick
kept_since rounded since [] = []
kept_since rounded since (tick ∷ ticks) =
    if tick.interval == 0 then tick ∷ kept_since rounded since ticks
    else if is_due rounded tick.interval since then tick ∷ kept_since rounded (Some []) ticks
    else kept_since rounded (option_map (λ before. before ++ tick ∷ []) since) ticks

-- the ticks that a recording keeps, by the isolate's base
abbrev pub kept : ℕ → Begun → List ResolvedTick
kept base begun = kept_since (rounded_of base begun.options.interval) None begun.ticks
