-- How many samples a profile lists.
use Rattle.std.specs.Prelude.{ℕ, min, Option, Some, None}

-- at most this many, or all
abbrev pub listed : Option ℕ → ℕ → ℕ
listed None count = count
listed (Some most) count = min count most
