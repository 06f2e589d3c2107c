use Rattle.std.proofs.Common.{◌≡◌, ℕ, List, map, take}
use Rattle.std.specs.BTreeMap.{get_by}
use Rattle.std.specs.Ordering.{nat_cmp}
use Rattle.std.specs.Cmp.Lexicographic.{slice_cmp}
use Rattle.guest_text.specs.OutlineDraft.{first_number}
use Rattle.guest_text.proofs.outline.numbered.Given as goal

abbrev pub invariant-loop-number : goal.invariant-loop-number
invariant-loop-number l = (q : List ℕ) → get_by (λ key. slice_cmp nat_cmp q key.now) l.numbers ≡ first_number (map (λ other. other.now) (take l.number l.labels)) q
