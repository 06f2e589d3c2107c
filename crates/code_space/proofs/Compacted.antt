-- A compacted space.
use Rattle.std.proofs.Common.{◌≡◌, ℕ, ◌+◌, ◌%◌, List, [], ◌∷◌, ◌++◌, length, take, drop, map, refl, ap, ◌∙◌, sym, subst, arith, append-nil}
use Rattle.std.proofs.lemmas.List.{take_all, drop_all}
use Rattle.std.specs.List.{AllByRecursion}
use Rattle.code_space.specs.Compaction.{compacted}
use Rattle.code_space.specs.Laws.{CompactionKeepsSizes}
use Rattle.code_space.specs.Space.{IsCodeRange, AreRising, IsSpace}
use Rattle.code_space.specs.declared.range.CodeRange.{CodeRange}
use Rattle.code_space.specs.declared.range.TheConstants.{FIRST_ADDRESS, ALIGNMENT}
use Rattle.code_space.proofs.Freeing.{rising_lower}
use Rattle.code_space.proofs.Sliding.{length-compacted}

each_compacted : (low : ℕ) (ranges : List CodeRange) → low % ALIGNMENT ≡ 0 → AllByRecursion IsCodeRange ranges → AreRising low ranges → AllByRecursion IsCodeRange (compacted low ranges)
each_compacted low [] aligned each rising = tt
each_compacted low (range ∷ ranges) aligned each rising =
    let above = rising.0 in
    let within = each.0.within in
    let whole = each.0.size.whole in (
      record { size = each.0.size; aligned = aligned; within = omega (arith, above, within) },
      each_compacted (low + range.size) ranges (omega (arith, aligned, whole)) each.1 (rising_lower (range.start + range.size) (low + range.size) ranges (omega (arith, above)) rising.1),
    )

rising_compacted : (low : ℕ) (ranges : List CodeRange) → AreRising low (compacted low ranges)
rising_compacted low [] = tt
rising_compacted low (range ∷ ranges) = (omega arith, rising_compacted (low + range.size) ranges)

space_compacted : (ranges : List CodeRange) → IsSpace ranges → IsSpace (compacted FIRST_ADDRESS ranges)
space_compacted ranges space =
    let size = length-compacted FIRST_ADDRESS ranges in
    let few = space.few in
    record {
      few = omega (arith, size, few);
      each = each_compacted FIRST_ADDRESS ranges (omega arith) space.each space.rising;
      rising = rising_compacted FIRST_ADDRESS ranges;
    }

sizes_kept : (low : ℕ) (ranges : List CodeRange) → map (λ range. range.size) (compacted low ranges) ≡ map (λ range. range.size) ranges
sizes_kept low [] = refl
sizes_kept low (range ∷ ranges) = ap (λ sizes. range.size ∷ sizes) (sizes_kept (low + range.size) ranges)

pub compaction_keeps_sizes : CompactionKeepsSizes
compaction_keeps_sizes ranges = sizes_kept FIRST_ADDRESS ranges

-- the elements of a vector whose slice was written over by as many
written_back : {X : Type 0} (len : ℕ) (new old : List X) → length new ≡ len → length old ≡ len → take len (new ++ drop (length new) old) ≡ new
written_back len new old new_size old_size =
    ap (λ behind. take len (new ++ behind)) (drop_all (length new) old (omega (arith, new_size, old_size)))
    ∙ ap (take len) (append-nil new) ∙ take_all len new (omega (arith, new_size))

pub space_written : (len : ℕ) (new old : List CodeRange) → IsSpace old → new ≡ compacted FIRST_ADDRESS old → length old ≡ len → IsSpace (take len (new ++ drop (length new) old))
space_written len new old space is size =
    let new_size : length new ≡ len = ap length is ∙ length-compacted FIRST_ADDRESS old ∙ size in
    subst IsSpace (sym (written_back len new old new_size size ∙ is)) (space_compacted old space)
