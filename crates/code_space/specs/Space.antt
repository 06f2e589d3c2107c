-- The space in which code lies, and where the next code is placed in it.
use Rattle.std.specs.Prelude.{◌≡◌, ℕ, ◌+◌, ◌%◌, ◌≤◌, ◌⊎◌, List, [], ◌∷◌, length, not, ◌==◌, nat_lt, Option, find, filter, if◌then◌else◌}
use Rattle.std.specs.List.{AllByRecursion}
use Rattle.code_space.specs.declared.range.CodeRange.{CodeRange}
use Rattle.code_space.specs.declared.range.TheConstants.{FIRST_ADDRESS, SPACE_END, ALIGNMENT, MAX_SIZE, MAX_RANGES}

-- a size of code in bytes: of at least one slot, at most the greatest size, and of whole slots
pub record IsCodeSize (size : ℕ) : Type 0 where
  pub least : ALIGNMENT ≤ size
  pub greatest : size ≤ MAX_SIZE
  pub whole : size % ALIGNMENT ≡ 0

-- a range that code takes: it starts at a multiple of a slot's bytes, and ends within the space
pub record IsCodeRange (range : CodeRange) : Type 0 where
  pub size : IsCodeSize range.size
  pub aligned : range.start % ALIGNMENT ≡ 0
  pub within : range.start + range.size ≤ SPACE_END

-- each starts at or above the end of the one before, and the first at or above this address
abbrev pub AreRising : ℕ → List CodeRange → Type 0
AreRising low [] = Unit {0}
AreRising low (range ∷ ranges) = (low ≤ range.start) × AreRising (range.start + range.size) ranges

-- the ranges in use, in rising order; no two of them share an address
pub record IsSpace (ranges : List CodeRange) : Type 0 where
  pub few : length ranges ≤ MAX_RANGES
  pub each : AllByRecursion IsCodeRange ranges
  pub rising : AreRising FIRST_ADDRESS ranges

-- a new range of this size that starts at this address would share no address with any of the ranges
abbrev pub Fits : List CodeRange → ℕ → ℕ → Type 0
Fits ranges size start = AllByRecursion (λ range. (start + size ≤ range.start) ⊎ (range.start + range.size ≤ start)) ranges

-- the least address of the space at which a new range of this size fits
pub record IsLeastFit (ranges : List CodeRange) (size start : ℕ) : Type 0 where
  pub above : FIRST_ADDRESS ≤ start
  pub fits : Fits ranges size start
  pub least : (other : ℕ) → FIRST_ADDRESS ≤ other → Fits ranges size other → start ≤ other

-- the ranges with a new one, which comes before those that start above it
abbrev pub inserted : List CodeRange → CodeRange → List CodeRange
inserted [] new = new ∷ []
inserted (range ∷ ranges) new = if nat_lt new.start range.start then new ∷ range ∷ ranges else range ∷ inserted ranges new

-- the range that starts at this address
abbrev pub range_at : List CodeRange → ℕ → Option CodeRange
range_at ranges start = find (λ range. range.start == start) ranges

-- the ranges except the one that starts at this address
abbrev pub without_range : List CodeRange → ℕ → List CodeRange
without_range ranges start = filter (λ range. not (range.start == start)) ranges
