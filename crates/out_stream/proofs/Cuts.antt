-- The chunks that bytes are cut into.
use Rattle.std.proofs.Common.{ℕ, zero, suc, ◌≡◌, ◌+◌, ◌-◌, ◌*◌, ◌/◌, ◌%◌, ◌<◌, ◌≤◌, min, [], ◌∷◌, ◌++◌, length, get_or, inl, inr, refl, sym, ap, ap₂, ◌∙◌, arith, add-one}
use Rattle.std.specs.Prelude.{sum}
use Rattle.std.specs.List.{repeat}
use Rattle.std.proofs.lemmas.Bool.{cases_lt}
use Rattle.std.proofs.lemmas.List.Sums.{sum_by-cons}
use Rattle.std.proofs.Math.Nat.{div-eq-sub-div, mod-eq-sub-mod, div-eq_of_lt, mod-eq_of_lt, mod-lt, div-add-mod, mul-suc, zero-div, zero-mod}
use Rattle.out_stream.specs.Cut.{cut, last_chunk}
use Rattle.out_stream.specs.CutLaws.{CutsAddUp, ChunksAreWhole, ChunksAreNotEmpty, ChunksFit}

pub cut_of_none : (size : ℕ) → cut size 0 ≡ []
unfolding cut
cut_of_none size = ap₂ (λ q r. repeat q (size ∷ []) ++ last_chunk r) (zero-div size) (zero-mod size)

cut_whole : (size bytes : ℕ) → 1 ≤ size → size ≤ bytes → cut size bytes ≡ size ∷ cut size (bytes - size)
unfolding cut
cut_whole size bytes some whole =
    ap₂ (λ q r. repeat q (size ∷ []) ++ last_chunk r) (div-eq-sub-div some whole ∙ add-one ((bytes - size) / size)) (mod-eq-sub-mod whole)

cut_last : (size n : ℕ) → suc n < size → cut size (suc n) ≡ suc n ∷ []
unfolding cut
cut_last size n short = ap₂ (λ q r. repeat q (size ∷ []) ++ last_chunk r) (div-eq_of_lt short) (mod-eq_of_lt short)

cut_short : (size bytes count : ℕ) → 1 ≤ bytes → bytes < size → count ≡ bytes → cut size bytes ≡ count ∷ cut size (bytes - count)
cut_short size zero count more short is = absurd (omega arith)
cut_short size (suc n) count more short is =
    let none : cut size (suc n - count) ≡ [] = ap (cut size) (omega arith) ∙ cut_of_none size in
    cut_last size n short ∙ ap₂ (λ k ks. k ∷ ks) (sym is) (sym none)

-- the first chunk, and the cut of what is left
pub cut_next : (size bytes count : ℕ) → 1 ≤ size → 1 ≤ bytes → count ≡ min size bytes → cut size bytes ≡ count ∷ cut size (bytes - count)
cut_next size bytes count some more is = elim (cases_lt bytes size) [
  | inl short ↦ cut_short size bytes count more short (omega arith)
  | inr whole ↦ let e : count ≡ size = omega arith in cut_whole size bytes some whole ∙ ap (λ k. k ∷ cut size (bytes - k)) (sym e)
]

-- whole chunks, and perhaps one that is shorter
sum_of_whole : (size q r : ℕ) → sum (repeat q (size ∷ []) ++ last_chunk r) ≡ size * q + r
sum_of_whole size zero zero = omega arith
sum_of_whole size zero (suc r) = omega arith
sum_of_whole size (suc q) r = omega (arith, sum_by-cons (λ (k : ℕ). k) size (repeat q (size ∷ []) ++ last_chunk r), sum_of_whole size q r, mul-suc size q)

pub cuts_add_up : CutsAddUp
unfolding cut
cuts_add_up size bytes some = sum_of_whole size (bytes / size) (bytes % size) ∙ div-add-mod bytes size

whole_at : (size q r at : ℕ) → at + 1 < length (repeat q (size ∷ []) ++ last_chunk r) → get_or (repeat q (size ∷ []) ++ last_chunk r) at 0 ≡ size
whole_at size zero zero at below = absurd (omega arith)
whole_at size zero (suc r) at below = absurd (omega arith)
whole_at size (suc q) r zero below = refl
whole_at size (suc q) r (suc at) below = whole_at size q r at (omega arith)

pub chunks_are_whole : ChunksAreWhole
unfolding cut
chunks_are_whole size bytes at some below = whole_at size (bytes / size) (bytes % size) at below

not_empty_at : (size q r at : ℕ) → 1 ≤ size → at < length (repeat q (size ∷ []) ++ last_chunk r) → 1 ≤ get_or (repeat q (size ∷ []) ++ last_chunk r) at 0
not_empty_at size zero zero at some below = absurd (omega arith)
not_empty_at size zero (suc r) zero some below = omega arith
not_empty_at size zero (suc r) (suc at) some below = absurd (omega arith)
not_empty_at size (suc q) r zero some below = some
not_empty_at size (suc q) r (suc at) some below = not_empty_at size q r at some (omega arith)

pub chunks_are_not_empty : ChunksAreNotEmpty
unfolding cut
chunks_are_not_empty size bytes at some below = not_empty_at size (bytes / size) (bytes % size) at some below

fits_at : (size q r at : ℕ) → r < size → at < length (repeat q (size ∷ []) ++ last_chunk r) → get_or (repeat q (size ∷ []) ++ last_chunk r) at 0 ≤ size
fits_at size zero zero at short below = absurd (omega arith)
fits_at size zero (suc r) zero short below = omega arith
fits_at size zero (suc r) (suc at) short below = absurd (omega arith)
fits_at size (suc q) r zero short below = omega arith
fits_at size (suc q) r (suc at) short below = fits_at size q r at short (omega arith)

pub chunks_fit : ChunksFit
unfolding cut
chunks_fit size bytes at some below = fits_at size (bytes / size) (bytes % size) at (mod-lt bytes some) below
