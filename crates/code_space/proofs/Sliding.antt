-- Ranges that are slid down one after the other.
use Rattle.std.proofs.Common.{◌≡◌, ℕ, zero, suc, ◌+◌, ◌<◌, ◌≤◌, List, [], ◌∷◌, ◌++◌, length, take, drop, get_or, set, refl, ap, ap₂, ◌∙◌, sym, subst, arith, append-nil}
use Rattle.std.specs.Prelude.{Bool, true, false, cond, ◌==◌}
use Rattle.std.specs.List.{AllByRecursion}
use Rattle.std.proofs.lemmas.List.{append_assoc, take_all, drop_all}
use Rattle.code_space.specs.Compaction.{compacted, moves_between}
use Rattle.code_space.specs.Space.{IsCodeRange, AreRising, IsSpace}
use Rattle.code_space.specs.declared.range.CodeMove.{CodeMove}
use Rattle.code_space.specs.declared.range.CodeRange.{CodeRange}
use Rattle.code_space.specs.declared.range.TheConstants.{FIRST_ADDRESS}
use Rattle.code_space.proofs.Freeing.{rising_lower}

-- The ranges before this place are slid down, up to the first address that is free, and their moves are told.
pub record IsSlid (old now : List CodeRange) (told all : List CodeMove) (free at : ℕ) : Type 0 where
  pub ranges : now ≡ take at (compacted FIRST_ADDRESS old) ++ drop at old
  pub rest : drop at (compacted FIRST_ADDRESS old) ≡ compacted free (drop at old)
  pub moves : all ≡ told ++ moves_between (drop at old) (compacted free (drop at old))
  pub rising : AreRising free (drop at old)
  pub each : AllByRecursion IsCodeRange (drop at old)

pub length-compacted : (low : ℕ) (ranges : List CodeRange) → length (compacted low ranges) ≡ length ranges
length-compacted low [] = refl
length-compacted low (range ∷ ranges) = ap (λ n. suc n) (length-compacted (low + range.size) ranges)

module _ {X : Type 0} where
  drop_next : (at : ℕ) (xs : List X) → drop (suc at) xs ≡ drop 1 (drop at xs)
  drop_next zero xs = refl
  drop_next (suc at) [] = refl
  drop_next (suc at) (x ∷ xs) = drop_next at xs

  drop_first : (at : ℕ) (xs : List X) (d : X) → at < length xs → drop at xs ≡ get_or xs at d ∷ drop (suc at) xs
  drop_first at [] d less = absurd (omega (arith, less))
  drop_first zero (x ∷ xs) d less = refl
  drop_first (suc at) (x ∷ xs) d less = drop_first at xs d (omega (arith, less))

  first_same : (x y : X) (xs ys : List X) → x ∷ xs ≡ y ∷ ys → x ≡ y
  first_same x y xs ys same = cc

  get_or_joined : (front old : List X) (at : ℕ) (d : X) → at < length old → length front ≡ length old → get_or (take at front ++ drop at old) at d ≡ get_or old at d
  get_or_joined front [] at d less size = absurd (omega (arith, less))
  get_or_joined [] (o ∷ old) at d less size = absurd (omega (arith, size))
  get_or_joined (f ∷ front) (o ∷ old) zero d less size = refl
  get_or_joined (f ∷ front) (o ∷ old) (suc at) d less size = get_or_joined front old at d (omega (arith, less)) (omega (arith, size))

  set_joined : (front old : List X) (at : ℕ) (new : X) (rest : List X) → at < length old → drop at front ≡ new ∷ rest → set (take at front ++ drop at old) at new ≡ take (suc at) front ++ drop (suc at) old
  set_joined front [] at new rest less is = absurd (omega (arith, less))
  set_joined [] (o ∷ old) zero new rest less is = absurd (cc)
  set_joined [] (o ∷ old) (suc at) new rest less is = absurd (cc)
  set_joined (f ∷ front) (o ∷ old) zero new rest less is = ap (λ x. x ∷ old) (sym (first_same f new front rest is))
  set_joined (f ∷ front) (o ∷ old) (suc at) new rest less is = ap (λ xs. f ∷ xs) (set_joined front old at new rest (omega (arith, less)) is)

told_if : (moved : Bool) (move : CodeMove) (told rest : List CodeMove) → told ++ cond moved rest (move ∷ rest) ≡ cond moved told (told ++ move ∷ []) ++ rest
told_if true move told rest = refl
told_if false move told rest = sym (append_assoc told (move ∷ []) rest)

-- what the range is that is next
next_range : (old now : List CodeRange) (told all : List CodeMove) (free at : ℕ) (d : CodeRange) → IsSlid old now told all free at → at < length old → get_or now at d ≡ get_or old at d
next_range old now told all free at d slid less = ap (λ rs. get_or rs at d) slid.ranges ∙ get_or_joined (compacted FIRST_ADDRESS old) old at d less (length-compacted FIRST_ADDRESS old)

module _ (old now : List CodeRange) (told all : List CodeMove) (free at : ℕ) (range d : CodeRange) (slid : IsSlid old now told all free at) (less : at < length old) (is : range ≡ get_or now at d) where
  first : drop at old ≡ range ∷ drop (suc at) old
  first = drop_first at old d less ∙ ap (λ r. r ∷ drop (suc at) old) (sym (is ∙ next_range old now told all free at d slid less))

  rising_here : AreRising free (range ∷ drop (suc at) old)
  rising_here = subst (AreRising free) first slid.rising

  each_here : AllByRecursion IsCodeRange (range ∷ drop (suc at) old)
  each_here = subst (AllByRecursion IsCodeRange) first slid.each

  front_here : drop at (compacted FIRST_ADDRESS old) ≡ record { start = free; size = range.size } ∷ compacted (free + range.size) (drop (suc at) old)
  front_here = slid.rest ∙ ap (compacted free) first

  slid_next : (new : CodeRange) (more : List CodeMove) → new ≡ record { start = free; size = range.size }
      → more ≡ cond (range.start == free) told (told ++ record { from = range.start; to = free } ∷ []) → IsSlid old (set now at new) more all (free + range.size) (suc at)
  slid_next new more new_is more_is =
      let behind = drop (suc at) old in
      let next = compacted (free + range.size) behind in
      let above = rising_here.0 in
      record {
        ranges =
            ap₂ (λ rs r. set rs at r) slid.ranges new_is
            ∙ set_joined (compacted FIRST_ADDRESS old) old at (record { start = free; size = range.size }) next less front_here;
        rest = drop_next at (compacted FIRST_ADDRESS old) ∙ ap (drop 1) front_here;
        moves =
            slid.moves ∙ ap (λ rs. told ++ moves_between rs (compacted free rs)) first
            ∙ told_if (range.start == free) (record { from = range.start; to = free }) told (moves_between behind next)
            ∙ ap (λ ms. ms ++ moves_between behind next) (sym more_is);
        rising = rising_lower (range.start + range.size) (free + range.size) behind (omega (arith, above)) rising_here.1;
        each = each_here.1;
      }

  pub slid_more : (new : CodeRange) (more : List CodeMove) (next : ℕ) → next ≡ suc at → new ≡ record { start = free; size = range.size }
      → more ≡ cond (range.start == free) told (told ++ record { from = range.start; to = free } ∷ []) → IsSlid old (set now at new) more all (free + range.size) next
  slid_more new more next next_is new_is more_is = subst (IsSlid old (set now at new) more all (free + range.size)) (sym next_is) (slid_next new more new_is more_is)

-- before the first range
pub none_slid : (ranges : List CodeRange) (told : List CodeMove) → IsSpace ranges → IsSlid ranges ranges told (told ++ moves_between ranges (compacted FIRST_ADDRESS ranges)) FIRST_ADDRESS 0
none_slid ranges told space = record { ranges = refl; rest = refl; moves = refl; rising = space.rising; each = space.each }

module _ (old now : List CodeRange) (told all : List CodeMove) (free at : ℕ) (slid : IsSlid old now told all free at) (past : length old ≤ at) where
  pub all_slid : now ≡ compacted FIRST_ADDRESS old
  all_slid =
      let size = length-compacted FIRST_ADDRESS old in
      slid.ranges
      ∙ ap₂ (λ front behind. front ++ behind) (take_all at (compacted FIRST_ADDRESS old) (omega (arith, past, size))) (drop_all at old past)
      ∙ append-nil (compacted FIRST_ADDRESS old)

  pub all_told : told ≡ all
  all_told = sym (slid.moves ∙ ap (λ rs. told ++ moves_between rs (compacted free rs)) (drop_all at old past) ∙ append-nil told)
