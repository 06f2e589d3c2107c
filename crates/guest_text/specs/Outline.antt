-- What is known of a program's text before its lines are read: which functions there are, and how long they are.
use Rattle.std.specs.Prelude.{ℕ, zero, suc, List, [], ◌∷◌, get_or, Option, Some, None, Result, Ok, Err, codes}
use Rattle.prof_lines.specs.declared.fault.Cause.{Cause}
use Rattle.prof_lines.specs.Answers.{Front}
use Rattle.prof_lines.specs.Words.{word_at, fixed_at}
use Rattle.guest_text.specs.declared.rule.Rule.{Rule}

-- what is read of a line, or its first fault
abbrev pub Read : Type 0 → Type 0
Read A = Result A (Cause Rule)

abbrev pub word_or_none : Read (Front (List ℕ)) → List ℕ
word_or_none (Ok word) = word.0
word_or_none (Err cause) = []

abbrev pub second_word : Read (List ℕ) → Option (List ℕ)
second_word (Ok rest) = Some (word_or_none (word_at rest))
second_word (Err cause) = None

-- The label of a function's line, which is a line whose first word is `func`: its second word, or no bytes where no plain word comes second.
-- None of another line, which is an instruction's.
abbrev pub func_label : List ℕ → Option (List ℕ)
func_label line = second_word (fixed_at (codes "func") line)

-- the functions of a text, in order: their labels, and how many instructions each has
pub record Functions : Type 0 where
  pub labels : List (List ℕ)
  pub sizes : List ℕ

abbrev pub onto_size : Option (List ℕ) → ℕ → ℕ
onto_size None size = suc size
onto_size (Some label) size = 0

-- how many instructions come before the next function's line
abbrev pub leading : List (ℕ × List ℕ) → ℕ
leading [] = 0
leading (line ∷ lines) = onto_size (func_label line.1) (leading lines)

abbrev pub onto_functions : Option (List ℕ) → ℕ → Functions → Functions
onto_functions None size functions = functions
onto_functions (Some label) size functions = record { labels = label ∷ functions.labels; sizes = size ∷ functions.sizes }

-- the functions of these lines: each function's line, with the instructions that follow it
abbrev pub functions_of : List (ℕ × List ℕ) → Functions
functions_of [] = record { labels = []; sizes = [] }
functions_of (line ∷ lines) = onto_functions (func_label line.1) (leading lines) (functions_of lines)

-- how many instructions the last of the first n functions has; none where n is 0
abbrev pub size_after : List ℕ → ℕ → Option ℕ
size_after sizes zero = None
size_after sizes (suc n) = Some (get_or sizes n 0)
