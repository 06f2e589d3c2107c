-- What holds of all spaces.
use Rattle.std.specs.Prelude.{◌≡◌, ℕ, ◌+◌, ◌≤◌, List, [], ◌∷◌, ◌++◌, map, Bool, not, ◌&&◌, nat_lt, nat_le, filter, count_by, Contains}
use Rattle.std.specs.Option.{option_map_or}
use Rattle.code_space.specs.Compaction.{compacted, moves_between}
use Rattle.code_space.specs.Space.{IsSpace, IsLeastFit, range_at, without_range}
use Rattle.code_space.specs.declared.range.CodeMove.{CodeMove}
use Rattle.code_space.specs.declared.range.CodeRange.{CodeRange}
use Rattle.code_space.specs.declared.range.TheConstants.{FIRST_ADDRESS}

-- the address lies in the range
abbrev pub holds : ℕ → CodeRange → Bool
holds address range = nat_le range.start address && nat_lt address (range.start + range.size)

-- no address is in two ranges of a space
abbrev pub AddressesHaveOneOwner : Type 0
AddressesHaveOneOwner = (ranges : List CodeRange) (address : ℕ) → IsSpace ranges → count_by (holds address) ranges ≤ 1

-- there is one least fit
abbrev pub LeastFitIsUnique : Type 0
LeastFitIsUnique = (ranges : List CodeRange) (size one other : ℕ) → IsLeastFit ranges size one → IsLeastFit ranges size other → one ≡ other

-- compaction keeps the sizes, and their order
abbrev pub CompactionKeepsSizes : Type 0
CompactionKeepsSizes = (ranges : List CodeRange) → map (λ range. range.size) (compacted FIRST_ADDRESS ranges) ≡ map (λ range. range.size) ranges

-- two ranges share an address
abbrev pub meets : CodeRange → CodeRange → Bool
meets one other = nat_lt one.start (other.start + other.size) && nat_lt other.start (one.start + one.size)

-- a new range replaces each range that it meets
abbrev pub with_range : List CodeRange → CodeRange → List CodeRange
with_range ranges new = filter (λ range. not (meets range new)) ranges ++ new ∷ []

-- What a move does to any ranges, in any order, as to those of a code map: the one that starts at its first address is taken out, what meets the new place is removed, and it is added there.
abbrev pub after_move : List CodeRange → CodeMove → List CodeRange
after_move ranges move =
    option_map_or (λ range. with_range (without_range ranges move.from) (record { start = move.to; size = range.size })) (range_at ranges move.from) ranges

-- moves done one after the other
abbrev pub after_moves : List CodeRange → List CodeMove → List CodeRange
after_moves ranges [] = ranges
after_moves ranges (move ∷ moves) = after_moves (after_move ranges move) moves

-- the same ranges, in any order
abbrev pub AreSame : List CodeRange → List CodeRange → Type 0
AreSame ranges others = (range : CodeRange) → (Contains ranges range → Contains others range) × (Contains others range → Contains ranges range)

-- Where the ranges are those of a space, and the moves of its compaction are done to them one after the other, they are then those of the compacted space. So no move removes another range, although a range may go to where one was that has moved before, or overlap its own old place.
abbrev pub MovesCompact : Type 0
MovesCompact =
    (ranges space : List CodeRange) → IsSpace space → AreSame ranges space
    → AreSame (after_moves ranges (moves_between space (compacted FIRST_ADDRESS space))) (compacted FIRST_ADDRESS space)
