-- The lines of a text, their numbers, and the lines that are passed over.
use Rattle.std.specs.Prelude.{ℕ, ◌+◌, List, [], ◌∷◌, length, Bool, true, ◌==◌, if◌then◌else◌}
use Rattle.prof_lines.specs.Words.{after_spaces}

-- a byte before the first line
abbrev pub onto_first : ℕ → List (List ℕ) → List (List ℕ)
onto_first b [] = (b ∷ []) ∷ []
onto_first b (line ∷ lines) = (b ∷ line) ∷ lines

-- the lines without their ends; byte 10 ends a line, and the last one may lack it
abbrev pub lines_of : List ℕ → List (List ℕ)
lines_of [] = []
lines_of (b ∷ bytes) = if b == 10 then [] ∷ lines_of bytes else onto_first b (lines_of bytes)

-- there is no byte, or the first is `#`
abbrev pub is_comment : List ℕ → Bool
is_comment [] = true
is_comment (b ∷ bytes) = b == 35

-- a line is passed over where it has no word, or where its first byte after spaces is `#`
abbrev pub is_passed : List ℕ → Bool
is_passed line = is_comment (after_spaces line)

-- the lines that are not passed over, with their numbers; the first of all lines has this number
abbrev pub counted_from : ℕ → List (List ℕ) → List (ℕ × List ℕ)
counted_from number [] = []
counted_from number (line ∷ lines) =
    if is_passed line then counted_from (number + 1) lines else (number, line) ∷ counted_from (number + 1) lines

-- the lines of a text that are not passed over, with their numbers from 1
abbrev pub counted : List ℕ → List (ℕ × List ℕ)
counted text = counted_from 1 (lines_of text)

-- the number of lines plus 1
abbrev pub number_after : List ℕ → ℕ
number_after text = 1 + length (lines_of text)

-- what is left of a text: its lines that are not passed over, the number of the line that comes next, and the number after the last
pub record Left : Type 0 where
  pub lines : List (ℕ × List ℕ)
  pub at : ℕ
  pub after : ℕ

-- all lines of a text are left, and the first has this number
abbrev pub left_of : ℕ → List ℕ → Left
left_of number text = record { lines = counted_from number (lines_of text); at = number; after = number + length (lines_of text) }
