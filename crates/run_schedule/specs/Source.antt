-- The interval at which samples are taken for the sessions that run.
use Rattle.std.specs.Prelude.{ℕ, zero, suc, ◌%◌, ◌^◌, nat_lt, List, [], ◌∷◌, map, take, ◌==◌, if◌then◌else◌}
use Rattle.prof_base.specs.Interval.{rounded_of, IsSourceInterval}
use Rattle.run_schedule.specs.ScheduleParts.{ScheduleParts}
use Rattle.run_schedule.specs.Schedule.{Running, running_after}

-- Euclid's algorithm, with at most this many remainders
abbrev pub gcd_within : ℕ → ℕ → ℕ → ℕ
gcd_within zero a b = a
gcd_within (suc times) a b = if b == 0 then a else gcd_within times b (a % b)

-- How many remainders are enough. Two of them halve the smaller number, so below 2^128 it takes 256; it never takes more than one for each number that is smaller.
abbrev pub enough_for : ℕ → ℕ
enough_for b = if nat_lt b (2 ^ 128) then 256 else suc b

-- the greatest common divisor
abbrev pub gcd : ℕ → ℕ → ℕ
gcd a b = gcd_within (enough_for b) a b

-- the greatest common divisor of a number and the rounded intervals
abbrev pub source_with : ℕ → ℕ → List ℕ → ℕ
source_with base source [] = source
source_with base source (interval ∷ intervals) = source_with base (gcd source (rounded_of base interval)) intervals

-- the greatest common divisor of the rounded intervals, 0 where there are none
abbrev pub source_of : ℕ → List ℕ → ℕ
source_of base intervals = source_with base 0 intervals

-- the source interval of the sessions that run
abbrev pub source_for : ℕ → List Running → ℕ
source_for base running = source_of base (map (λ session. session.interval) running)

-- the source interval after the first `number` entries
abbrev pub source_after : ScheduleParts → ℕ → ℕ
source_after schedule number = source_for schedule.base (running_after (take number schedule.entries))

-- `source_of` is the common divisor that every common divisor divides
abbrev pub SourcesAreGreatest : Type 0
SourcesAreGreatest = (base : ℕ) (intervals : List ℕ) → IsSourceInterval base intervals (source_of base intervals)
