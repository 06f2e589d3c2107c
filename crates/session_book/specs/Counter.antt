-- The counter of a session: what is left until its next tick is due.
use Rattle.std.specs.Prelude.{◌≡◌, ℕ, ◌+◌, ◌-◌, List, [], ◌∷◌, ◌++◌, Bool, ◌||◌, ◌==◌, nat_le, Option, Some, None, option_map, sum_by, if◌then◌else◌}
use Rattle.code_event.specs.Subsample.{is_due}
use Rattle.code_event.specs.declared.seen.ResolvedTick.{ResolvedTick}
use Rattle.session_book.specs.declared.counter.Counter.{Counter}

-- a tick of this interval is kept, by what is left
abbrev pub keeps : ℕ → ℕ → Bool
keeps left interval = (interval == 0) || nat_le left interval

-- the counter after a tick of this interval
abbrev pub counted : Counter → ℕ → Counter
counted counter interval =
    if interval == 0 then counter
    else if nat_le counter.left interval then record counter { left = counter.rounded }
    else record counter { left = counter.left - interval }

-- the ticks since then, after one more
abbrev pub since_next : ℕ → Option (List ResolvedTick) → ResolvedTick → Option (List ResolvedTick)
since_next rounded since tick =
    if tick.interval == 0 then since
    else if is_due rounded tick.interval since then Some []
    else option_map (λ before. before ++ tick ∷ []) since

-- the ticks since then, after more
abbrev pub since_after : ℕ → Option (List ResolvedTick) → List ResolvedTick → Option (List ResolvedTick)
since_after rounded since [] = since
since_after rounded since (tick ∷ ticks) = since_after rounded (since_next rounded since tick) ticks

-- what is left, with the intervals of the ticks since then, is the rounded interval; nothing is left where no tick was kept with an interval above 0
abbrev pub IsLeft : Counter → Option (List ResolvedTick) → Type 0
IsLeft counter None = counter.left ≡ 0
IsLeft counter (Some since) = counter.left + sum_by (λ tick. tick.interval) since ≡ counter.rounded
