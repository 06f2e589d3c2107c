-- Sampling intervals: what a session's interval is rounded to, and the interval that serves several sessions.
use Rattle.std.specs.Prelude.{ℕ, ◌*◌, ◌≤◌, List, max}
use Rattle.std.specs.List.{AllByRecursion}
use Rattle.std.specs.Int.{◌∣◌, div_ceil}

-- the base, as many times as it takes to reach the interval, and at least once
abbrev pub rounded_of : ℕ → ℕ → ℕ
rounded_of base interval = max (div_ceil interval base) 1 * base

-- the least multiple of the base that is at least the interval and at least the base
pub record IsRounded (base interval rounded : ℕ) : Type 0 where
  pub multiple : base ∣ rounded
  pub long_enough : interval ≤ rounded
  pub not_none : base ≤ rounded
  pub least : (n : ℕ) → base ∣ n → interval ≤ n → base ≤ n → rounded ≤ n

-- a number divides the rounded interval of each of these
abbrev pub DividesEach : ℕ → List ℕ → ℕ → Type 0
DividesEach base intervals d = AllByRecursion (λ interval. d ∣ rounded_of base interval) intervals

-- the common divisor of the rounded intervals that every common divisor divides; 0 if there are no intervals
pub record IsSourceInterval (base : ℕ) (intervals : List ℕ) (source : ℕ) : Type 0 where
  pub common : DividesEach base intervals source
  pub greatest : (d : ℕ) → DividesEach base intervals d → d ∣ source
