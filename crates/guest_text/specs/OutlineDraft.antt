-- What is kept of a program's functions while the lines of its text are counted.
use Rattle.std.specs.Prelude.{ℕ, suc, ◌+◌, List, [], ◌∷◌, ◌++◌, position, bytes_eq, Option}
use Rattle.guest_text.specs.Outline.{Functions, leading, functions_of}

-- one more instruction of the last function
abbrev pub with_instr : List ℕ → List ℕ
with_instr [] = []
with_instr (size ∷ []) = suc size ∷ []
with_instr (size ∷ next ∷ sizes) = size ∷ with_instr (next ∷ sizes)

-- the sizes so far, with more instructions of the last function, and then those of further functions
abbrev pub with_more : List ℕ → ℕ → List ℕ → List ℕ
with_more [] instrs more = more
with_more (size ∷ []) instrs more = (size + instrs) ∷ more
with_more (size ∷ next ∷ sizes) instrs more = size ∷ with_more (next ∷ sizes) instrs more

-- the functions so far, and those of the lines that are left
abbrev pub functions_with : List (List ℕ) → List ℕ → List (ℕ × List ℕ) → Functions
functions_with labels sizes lines = record { labels = labels ++ (functions_of lines).labels; sizes = with_more sizes (leading lines) (functions_of lines).sizes }

-- the number of the first of these labels that is this one
abbrev pub first_number : List (List ℕ) → List ℕ → Option ℕ
first_number labels label = position (λ other. bytes_eq other label) labels
