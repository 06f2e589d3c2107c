-- Moves in rising order, and how a search finds the one that begins at an address.
use Rattle.std.proofs.Common.{◌≡◌, ℕ, zero, suc, ◌+◌, ◌<◌, ◌≤◌, List, [], ◌∷◌, length, get_or, refl, sym, subst, arith}
use Rattle.std.proofs.lemmas.Bool.{cond_both, ne_eqb}
use Rattle.std.proofs.lemmas.Bool.Decides.{nat_tests}
use Rattle.std.specs.Prelude.{Bool, true, false, cond, find, Option, Some, None, ◌==◌}
use Rattle.std.specs.List.{slice_get, AllByRecursion}
use Rattle.std.specs.List.Sorted.{IsNonDecreasingBy}
use Rattle.code_event.proofs.EachElement.{all_mapped}
use Rattle.code_space.specs.Compaction.{compacted, moves_between}
use Rattle.code_space.specs.Space.{AreRising, IsSpace}
use Rattle.code_space.specs.declared.range.CodeMove.{CodeMove}
use Rattle.code_space.specs.declared.range.CodeRange.{CodeRange}
use Rattle.code_space.specs.declared.range.TheConstants.{FIRST_ADDRESS}
use Rattle.code_objects.specs.Objects.{if_from}

-- ---- the order of the moves

-- all of these begin at an address or above
abbrev AllFrom : ℕ → List CodeMove → Type 0
AllFrom low moves = AllByRecursion (λ move. low ≤ move.from) moves

from_at : (low : ℕ) (moves : List CodeMove) (i : ℕ) (d : CodeMove) → AllFrom low moves → i < length moves → low ≤ (get_or moves i d).from
from_at low [] i d all less = absurd (omega arith)
from_at low (move ∷ moves) zero d all less = all.0
from_at low (move ∷ moves) (suc i) d all less = from_at low moves i d all.1 (omega (arith, less))

one_before : (move : CodeMove) (moves : List CodeMove) → AllFrom move.from moves → IsNonDecreasingBy (λ (m : CodeMove). m.from) moves → IsNonDecreasingBy (λ (m : CodeMove). m.from) (move ∷ moves)
one_before move moves all rising zero zero d le less = omega arith
one_before move moves all rising zero (suc j) d le less = from_at move.from moves j d all (omega (arith, less))
one_before move moves all rising (suc i) zero d le less = absurd (omega (arith, le))
one_before move moves all rising (suc i) (suc j) d le less = rising i j d (omega (arith, le)) (omega (arith, less))

lower_from : (low high : ℕ) (moves : List CodeMove) → low ≤ high → AllFrom high moves → AllFrom low moves
lower_from low high moves le all = all_mapped (λ (move : CodeMove). high ≤ move.from) (λ (move : CodeMove). low ≤ move.from) moves (λ move from. omega (arith, le, from)) all

all_from : (low : ℕ) (before after : List CodeRange) → AreRising low before → AllFrom low (moves_between before after)
all_from low [] after rising = tt
all_from low (old ∷ before) [] rising = tt
all_from low (old ∷ before) (new ∷ after) rising =
    let from = rising.0 in
    let rest = lower_from low (old.start + old.size) (moves_between before after) (omega (arith, from)) (all_from (old.start + old.size) before after rising.1) in
    cond_both (old.start == new.start) (moves_between before after) (record { from = old.start; to = new.start } ∷ moves_between before after) (AllFrom low) (λ stays. rest) (λ goes. (from, rest))

moves_rise : (low : ℕ) (before after : List CodeRange) → AreRising low before → IsNonDecreasingBy (λ (m : CodeMove). m.from) (moves_between before after)
moves_rise low [] after rising = λ i j d le less. absurd (omega (arith, less))
moves_rise low (old ∷ before) [] rising = λ i j d le less. absurd (omega (arith, less))
moves_rise low (old ∷ before) (new ∷ after) rising =
    let rest = moves_rise (old.start + old.size) before after rising.1 in
    let above = lower_from old.start (old.start + old.size) (moves_between before after) (omega arith) (all_from (old.start + old.size) before after rising.1) in
    cond_both (old.start == new.start) (moves_between before after) (record { from = old.start; to = new.start } ∷ moves_between before after) (IsNonDecreasingBy (λ (m : CodeMove). m.from))
    (λ stays. rest) (λ goes. one_before (record { from = old.start; to = new.start }) (moves_between before after) above rest)

-- the moves of a compaction rise
pub compaction_rises : (moves : List CodeMove) (space : List CodeRange) → IsSpace space → moves ≡ moves_between space (compacted FIRST_ADDRESS space) → IsNonDecreasingBy (λ (m : CodeMove). m.from) moves
compaction_rises moves space is moves_are = subst (IsNonDecreasingBy (λ (m : CodeMove). m.from)) (sym moves_are) (moves_rise FIRST_ADDRESS space (compacted FIRST_ADDRESS space) is.rising)

-- ---- the search

pass : (move : CodeMove) (rest found : Option CodeMove) (b : Bool) → b ≡ false → rest ≡ found → cond b (Some move) rest ≡ found
pass move rest found true e is = absurd (cc)
pass move rest found false e is = is

none_above : (moves : List CodeMove) (start : ℕ) → ((k : ℕ) (d : CodeMove) → k < length moves → start < (get_or moves k d).from) → find (λ m. m.from == start) moves ≡ None
none_above [] start above = refl
none_above (move ∷ moves) start above =
    let here : start < move.from = above 0 move (omega arith) in
    pass move (find (λ m. m.from == start) moves) None (move.from == start) (ne_eqb move.from start (λ same. absurd (omega (arith, here, same))))
    (none_above moves start (λ k d less. above (suc k) d (omega (arith, less))))

first_case : (start : ℕ) (move : CodeMove) (rest : Option CodeMove) (b : Bool) → (move.from == start) ≡ b → (b ≡ false → rest ≡ None) → cond b (Some move) rest ≡ cond b (Some move) None
first_case start move rest true e none = refl
first_case start move rest false e none = none refl

-- where all before a place begin below an address, and all from there on at it or above
pub found_at_point : (moves : List CodeMove) (start at : ℕ) → IsNonDecreasingBy (λ (m : CodeMove). m.from) moves → ((k : ℕ) (d : CodeMove) → k < at → (get_or moves k d).from < start)
    → ((k : ℕ) (d : CodeMove) → at ≤ k → k < length moves → start ≤ (get_or moves k d).from) → find (λ m. m.from == start) moves ≡ if_from start (slice_get moves at)
found_at_point [] start at rising below above = refl
found_at_point (move ∷ moves) start zero rising below above =
    first_case start move (find (λ m. m.from == start) moves) (move.from == start) refl (λ other.
    let from : start ≤ move.from = above 0 move (omega arith) (omega arith) in
    none_above moves start (λ k d less.
    let later : move.from ≤ (get_or moves k d).from = rising 0 (suc k) d (omega arith) (omega (arith, less)) in
    let past : start < move.from = grind (arith, nat_tests) in omega (arith, past, later)))
found_at_point (move ∷ moves) start (suc at) rising below above =
    let here : move.from < start = below 0 move (omega arith) in
    pass move (find (λ m. m.from == start) moves) (if_from start (slice_get moves at)) (move.from == start) (ne_eqb move.from start (λ same. absurd (omega (arith, here, same))))
    (found_at_point moves start at (λ i j d le less. rising (suc i) (suc j) d (omega (arith, le)) (omega (arith, less))) (λ k d less. below (suc k) d (omega (arith, less))) (λ k d from less. above (suc k) d (omega (arith, from)) (omega (arith, less))))
