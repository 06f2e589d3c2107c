-- Where no plain word comes next.
use Rattle.std.proofs.Common.{◌≡◌, ℕ, suc, ◌<◌, List, [], ◌∷◌, ◌++◌, length, take, drop, Bool, true, false, cond, not, ◌==◌, Err, ◌↔◌, ◌⊎◌, inl, inr, refl, ap, ◌∙◌, sym, arith}
use Rattle.std.specs.List.{list_all}
use Rattle.std.proofs.lemmas.Bool.{both_ways, not-true, or_cases}
use Rattle.std.proofs.lemmas.List.{take_at, take-append-drop}
use Rattle.prof_lines.specs.declared.fault.Cause.TheVariants.{Word}
use Rattle.prof_lines.specs.Words.{after_spaces, len_before, is_no_space, is_plain, is_end, word_at}
use Rattle.prof_lines.specs.Spelled.{spaces, BeginsWith, HasWords}
use Rattle.prof_lines.specs.Causes.{NoWordComes, HasOtherNext}
use Rattle.prof_lines.proofs.Steps.{guard_found}
use Rattle.prof_lines.proofs.PlainWords.{not_none, spaces_passed, stops_after, next_after_spaces, len_before-next}
use Rattle.prof_lines.proofs.Ends.{none_left, left_none, some_left}
use Rattle.prof_lines.proofs.PlaceFaults.{word_refuses}

first_by : (b : ℕ) (t : Bool) (bytes : List ℕ) → (b == 32) ≡ t → ((len_before 32 (after_spaces bytes) == 0) ≡ true → is_end bytes ≡ true)
    → (len_before 32 (cond t (after_spaces bytes) (b ∷ bytes)) == 0) ≡ true → (length (cond t (after_spaces bytes) (b ∷ bytes)) == 0) ≡ true
first_by b true bytes e later h = later h
first_by b false bytes e later h = absurd (let some : (cond (b == 32) 0 (suc (len_before 32 bytes)) == 0) ≡ true = h in both_ways _ (rw e (not_none (suc (len_before 32 bytes)) (omega arith))) some)

-- what stands after the spaces begins with no space
none_after_spaces : (bytes : List ℕ) → (len_before 32 (after_spaces bytes) == 0) ≡ true → is_end bytes ≡ true
none_after_spaces [] h = refl
none_after_spaces (b ∷ bytes) h = first_by b (b == 32) bytes refl (none_after_spaces bytes) h

spaceless_by : (b : ℕ) (t : Bool) (bytes : List ℕ) → (b == 32) ≡ t → list_all is_no_space (take (len_before 32 bytes) bytes) ≡ true
    → list_all is_no_space (take (cond t 0 (suc (len_before 32 bytes))) (b ∷ bytes)) ≡ true
spaceless_by b true bytes e h = refl
spaceless_by b false bytes e h = rw (e, h) refl

spaceless : (bytes : List ℕ) → list_all is_no_space (take (len_before 32 bytes) bytes) ≡ true
spaceless [] = refl
spaceless (b ∷ bytes) = spaceless_by b (b == 32) bytes refl (spaceless bytes)

other_next : (bytes : List ℕ) → list_all is_plain (take (len_before 32 (after_spaces bytes)) (after_spaces bytes)) ≡ false → HasOtherNext bytes
other_next bytes h =
    let front = after_spaces bytes in
    let len = len_before 32 front in
    let passed = spaces_passed bytes in
    let begins : BeginsWith (take len front) (drop len front) bytes =
    record { before = passed.0; is = passed.1 ∙ ap (λ (z : List ℕ). spaces passed.0 ++ z) (sym (take-append-drop len front)); stops = stops_after front } in
    (take len front, drop len front, begins, spaceless front, h)

missing_or_other : (bytes : List ℕ) → NoWordComes bytes → HasWords [] bytes ⊎ HasOtherNext bytes
unfolding word_at
missing_or_other bytes none =
    let front = after_spaces bytes in
    let len = len_before 32 front in
    let refused : word_at {C = ℕ} bytes ≡ Err Word = word_refuses.again bytes Word (refl, none) in
    elim (or_cases (len == 0) (not (list_all is_plain (take len front))) (guard_found _ (take len front, drop len front) Word Word refused).0) [
      | inl e ↦ inl (none_left bytes (none_after_spaces bytes e))
      | inr e ↦ inr (other_next bytes (not-true _ e))
    ]

some_other : (other : List ℕ) → list_all is_plain other ≡ false → 0 < length other
some_other [] h = absurd cc
some_other (b ∷ other) h = omega arith

other_refused : (other rest bytes : List ℕ) → BeginsWith other rest bytes → list_all is_no_space other ≡ true → list_all is_plain other ≡ false → word_at {C = ℕ} bytes ≡ Err Word
unfolding word_at
other_refused other rest bytes s h plain =
    let some = some_other other plain in
    rw (next_after_spaces other rest bytes some h s, len_before-next other rest h s.stops, take_at other rest (length other) refl, plain, not_none (length other) some) refl

none_comes : (bytes : List ℕ) → HasWords [] bytes ⊎ HasOtherNext bytes → NoWordComes bytes
none_comes bytes (inl h) = λ word rest fits s. both_ways (is_end bytes) (some_left word rest bytes fits s) (left_none bytes h)
none_comes bytes (inr o) = (word_refuses.says bytes Word (other_refused o.0 o.1 bytes o.2 o.3 o.4)).1

pub missing_iff : (bytes : List ℕ) → NoWordComes bytes ↔ (HasWords [] bytes ⊎ HasOtherNext bytes)
missing_iff bytes = (missing_or_other bytes, none_comes bytes)
