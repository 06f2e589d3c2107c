-- Where ranges start after a change.
use Rattle.std.proofs.Common.{◌≡◌, ℕ, List, [], ◌∷◌, ◌++◌, refl, ap, ◌∙◌, sym, arith}
use Rattle.std.proofs.lemmas.Bool.{cond_both, eqb-true, eqb-false, ne_eqb}
use Rattle.std.specs.Prelude.{Bool, true, false, not, cond, filter, Option, Some, None, ◌==◌}
use Rattle.std.specs.Option.{option_map_or}
use Rattle.code_event.specs.CodeMap.{meets, with_range, without_range, range_at, range_of, after_event}
use Rattle.code_event.specs.declared.event.CodeEvent.TheVariants.{Move}
use Rattle.code_event.specs.declared.code_map.Range.{Range}
use Rattle.code_objects.proofs.Finding.{passes, same_kept, none_left, found_before, none_before}

-- what is found starts there
pub found_starts : (ranges : List Range) (start : ℕ) (range : Range) → range_at ranges start ≡ Some range → range.start ≡ start
found_starts ranges start range found = eqb-true range.start start (passes (λ r. r.start == start) ranges range found)

other_kept : (ranges : List Range) (from start : ℕ) → (start ≡ from → ⊥) → range_at (without_range ranges from) start ≡ range_at ranges start
other_kept ranges from start other =
    same_kept (λ r. r.start == start) (λ r. not (r.start == from)) ranges
    (λ range found. ap not (ne_eqb range.start from (λ same. other (sym (found_starts ranges start range found) ∙ same))))

-- without the range that starts at one place, there is none there, and else all as before
pub at_without : (ranges : List Range) (from start : ℕ) → range_at (without_range ranges from) start ≡ cond (from == start) None (range_at ranges start)
at_without ranges from start =
    cond_both (from == start) None (range_at ranges start) (λ o. range_at (without_range ranges from) start ≡ o)
    (λ same. ap (λ s. range_at (without_range ranges from) s) (sym (eqb-true from start same)) ∙ none_left (λ r. r.start == from) ranges)
    (λ not_same. other_kept ranges from start (λ same. eqb-false from start not_same (sym same)))

-- none of the ranges meets the new one
abbrev pub MeetsNone : List Range → Range → Type 0
MeetsNone ranges new = (start : ℕ) (range : Range) → range_at ranges start ≡ Some range → meets range new ≡ false

one_more : (kept : List Range) (new : Range) (start : ℕ) (o : Option Range) → range_at kept start ≡ o → (new.start ≡ start → o ≡ None) → range_at (kept ++ new ∷ []) start ≡ cond (new.start == start) (Some new) o
one_more kept new start None found none = none_before (λ r. r.start == start) kept (new ∷ []) found
one_more kept new start (Some range) found none =
    found_before (λ r. r.start == start) kept (new ∷ []) range found
    ∙ cond_both (new.start == start) (Some new) (Some range) (λ o. Some range ≡ o) (λ same. let no : Some range ≡ None = none (eqb-true new.start start same) in absurd (grind arith)) (λ other. refl)

-- with a new range that meets none
pub at_with : (ranges : List Range) (new : Range) (start : ℕ) → MeetsNone ranges new → range_at ranges new.start ≡ None → range_at (with_range ranges new) start ≡ cond (new.start == start) (Some new) (range_at ranges start)
at_with ranges new start apart free =
    let kept : range_at (filter (λ r. not (meets r new)) ranges) start ≡ range_at ranges start =
    same_kept (λ r. r.start == start) (λ r. not (meets r new)) ranges (λ range found. ap not (apart start range found)) in
    one_more (filter (λ r. not (meets r new)) ranges) new start (range_at ranges start) kept (λ same. ap (λ s. range_at ranges s) (sym same) ∙ free)

-- but for the one that moves, none of the ranges meets the new one
abbrev pub OthersMeetNone : List Range → ℕ → Range → Type 0
OthersMeetNone ranges from new = (start : ℕ) (range : Range) → (from ≡ start → ⊥) → range_at ranges start ≡ Some range → meets range new ≡ false

none_there : (ranges : List Range) (from start : ℕ) → range_at ranges start ≡ None → range_at (without_range ranges from) start ≡ None
none_there ranges from start free = at_without ranges from start ∙ cond_both (from == start) None (range_at ranges start) (λ o. o ≡ None) (λ same. refl) (λ other. free)

others_case : (ranges : List Range) (from start : ℕ) (range new : Range) (b : Bool) → (from == start) ≡ b → OthersMeetNone ranges from new → cond b None (range_at ranges start) ≡ Some range → meets range new ≡ false
others_case ranges from start range new true same apart found = absurd (grind arith)
others_case ranges from start range new false other apart found = apart start range (eqb-false from start other) found

others_apart : (ranges : List Range) (from : ℕ) (new : Range) → OthersMeetNone ranges from new → MeetsNone (without_range ranges from) new
others_apart ranges from new apart start range found = others_case ranges from start range new (from == start) refl apart (sym (at_without ranges from start) ∙ found)

-- with a range moved to where it meets no other: it is at its new place alone, and all others are where they were
pub at_moved : (ranges : List Range) (from to : ℕ) (range : Range) (start : ℕ) → range_at ranges from ≡ Some range → range_at ranges to ≡ None → OthersMeetNone ranges from (range_of to range.layout)
    → range_at (after_event ranges (Move from to)) start ≡ cond (to == start) (Some (range_of to range.layout)) (cond (from == start) None (range_at ranges start))
at_moved ranges from to range start found free apart =
    let new = range_of to range.layout in
    let taken = without_range ranges from in
    let event : after_event ranges (Move from to) ≡ with_range taken new = ap (λ o. option_map_or (λ r. with_range taken (range_of to r.layout)) o ranges) found in
    ap (λ rs. range_at rs start) event
    ∙ at_with taken new start (others_apart ranges from new apart) (none_there ranges from to free)
    ∙ ap (λ o. cond (to == start) (Some new) o) (at_without ranges from start)
