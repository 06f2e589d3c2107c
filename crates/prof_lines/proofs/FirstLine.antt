-- The first line of a text, and the text after it.
use Rattle.std.proofs.Common.{◌≡◌, ℕ, ◌<◌, List, [], ◌∷◌, length, take, drop, suc, ◌-◌, cond, length-drop, Bool, true, false, ◌==◌, refl, ◌∙◌, arith}
use Rattle.std.proofs.lemmas.List.{take_all}
use Rattle.prof_lines.specs.Words.{len_before}
use Rattle.prof_lines.specs.Lines.{onto_first, lines_of}

-- the bytes after the first n and the one after these
abbrev past : ℕ → List ℕ → List ℕ
past n text = drop 1 (drop n text)

first_by : (b : ℕ) (t : Bool) (text : List ℕ) (n : ℕ) → lines_of text ≡ take n text ∷ lines_of (past n text)
    → cond t ([] ∷ lines_of text) (onto_first b (lines_of text)) ≡ take (cond t 0 (suc n)) (b ∷ text) ∷ lines_of (past (cond t 0 (suc n)) (b ∷ text))
first_by b true text n h = refl
first_by b false text n h = rw h refl

first_alone : (b : ℕ) (t : Bool) → cond t ([] ∷ []) ((b ∷ []) ∷ []) ≡ take (cond t 0 1) (b ∷ []) ∷ lines_of (past (cond t 0 1) (b ∷ []))
first_alone b true = refl
first_alone b false = refl

first_and_rest : (text : List ℕ) → 0 < length text → lines_of text ≡ take (len_before 10 text) text ∷ lines_of (past (len_before 10 text) text)
first_and_rest [] h = absurd (omega arith)
first_and_rest (b ∷ []) h = first_alone b (b == 10)
first_and_rest (b ∷ c ∷ text) h = first_by b (b == 10) (c ∷ text) (len_before 10 (c ∷ text)) (first_and_rest (c ∷ text) (omega arith))

no_rest : (rest : List ℕ) → length rest < 1 → drop 1 rest ≡ rest
no_rest [] h = refl
no_rest (b ∷ rest) h = absurd (omega arith)

-- the last line, which has no end
pub last_line : (text line rest : List ℕ) (n : ℕ) → 0 < length text → n ≡ len_before 10 text → line ≡ take n text → rest ≡ drop n text → length rest < 1
    → lines_of text ≡ line ∷ lines_of rest
last_line text line rest n h e f g none = first_and_rest text h ∙ rw (← e, ← f, ← g, no_rest rest none) refl

-- a line with its end, and the text after that
pub ended_line : (text line rest : List ℕ) (n : ℕ) → 0 < length text → n ≡ len_before 10 text → line ≡ take n text → rest ≡ drop n text
    → lines_of text ≡ line ∷ lines_of (take (length rest - 1) (drop 1 rest))
ended_line text line rest n h e f g =
    let whole : take (length rest - 1) (drop 1 rest) ≡ drop 1 rest = take_all _ _ (omega (arith, length-drop 1 rest)) in
    first_and_rest text h ∙ rw (whole, ← e, ← f, ← g) refl
