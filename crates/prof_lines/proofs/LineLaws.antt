-- What the lines of a text are, and which are passed over.
use Rattle.std.proofs.Common.{◌≡◌, ℕ, ◌<◌, List, [], ◌∷◌, ◌++◌, length, true, not, ◌==◌, ◌↔◌, ◌⊎◌, inl, inr, refl, ap, ◌∙◌, append-nil, arith}
use Rattle.std.proofs.lemmas.Bool.{and_parts, not-true, eqb-true}
use Rattle.prof_lines.specs.Words.{after_spaces}
use Rattle.prof_lines.specs.Lines.{onto_first, lines_of, is_comment, is_passed}
use Rattle.prof_lines.specs.Spelled.{spaces, HasWords}
use Rattle.prof_lines.specs.Canonical.{is_one_line}
use Rattle.prof_lines.proofs.PlainWords.{spaces_passed, after_spaces-spaces}
use Rattle.prof_lines.proofs.Ends.{after_spaces-all}

pub lines_of-last : (line : List ℕ) → 0 < length line → is_one_line line ≡ true → lines_of line ≡ line ∷ []
lines_of-last [] some h = absurd (omega (arith, some))
lines_of-last (b ∷ []) some h = rw (not-true (b == 10) (and_parts (not (b == 10)) true h).0) refl
lines_of-last (b ∷ c ∷ line) some h =
    let f = and_parts (not (b == 10)) (is_one_line (c ∷ line)) h in
    rw (not-true (b == 10) f.0) (ap (onto_first b) (lines_of-last (c ∷ line) (omega arith) f.1))

-- a line that is passed over
abbrev Passed : List ℕ → Type 0
Passed line = HasWords [] line ⊎ ((before : ℕ) × (rest : List ℕ) × (line ≡ spaces before ++ 35 ∷ rest))

passed_by : (line front : List ℕ) (n : ℕ) → line ≡ spaces n ++ front → is_comment front ≡ true → Passed line
passed_by line [] n e h = inl (n, e ∙ append-nil (spaces n))
passed_by line (b ∷ front) n e h = inr (n, front, e ∙ ap (λ (z : ℕ). spaces n ++ z ∷ front) (eqb-true b 35 h))

passed_from : (line : List ℕ) → is_passed line ≡ true → Passed line
passed_from line h = let passed = spaces_passed line in passed_by line (after_spaces line) passed.0 passed.1 h

passed_again : (line : List ℕ) → Passed line → is_passed line ≡ true
passed_again line (inl h) = rw (h.1, after_spaces-all h.0) refl
passed_again line (inr h) = rw (h.2, after_spaces-spaces h.0 (35 ∷ h.1)) refl

pub passed_iff : (line : List ℕ) → (is_passed line ≡ true) ↔ Passed line
passed_iff line = (passed_from line, passed_again line)
