-- Reading line by line up to the first fault.
use Rattle.std.specs.Prelude.{◌≡◌, ℕ, List, [], ◌∷◌, ◌++◌, Result, Ok, Err, ◌⊎◌}
use Rattle.prof_lines.specs.Answers.{◌>>=◌}
use Rattle.prof_lines.specs.Lines.{counted, number_after}

-- a fault gets the number of its line
abbrev pub placed : {A C : Type 0} → ℕ → Result A C → Result A (ℕ × C)
placed number (Ok x) = Ok x
placed number (Err cause) = Err (number, cause)

-- the state after the lines, each of which is read in the state that the lines before it leave; or the first fault
abbrev pub read_lines : {S C : Type 0} → (S → List ℕ → Result S C) → S → List (ℕ × List ℕ) → Result S (ℕ × C)
read_lines read state [] = Ok state
read_lines read state (line ∷ lines) = placed line.0 (read state line.1) >>= λ next. read_lines read next lines

-- the first fault is here: the lines before it are read, and its line is at fault in the state that they leave
pub record IsFirstFault {S C : Type 0} (read : S → List ℕ → Result S C) (start : S) (lines : List (ℕ × List ℕ)) (place : ℕ × C) : Type 0 where
  pub before : List (ℕ × List ℕ)
  pub line : ℕ × List ℕ
  pub after : List (ℕ × List ℕ)
  pub state : S
  pub are : lines ≡ before ++ line ∷ after
  pub number : line.0 ≡ place.0
  pub reads : read_lines read start before ≡ Ok state
  pub fault : read state line.1 ≡ Err place.1

-- what the state after all lines ends in; a fault of the end gets the number after the last line
abbrev pub read_text : {S V C : Type 0} → (S → List ℕ → Result S C) → (S → Result V C) → S → List ℕ → Result V (ℕ × C)
read_text read end start text = read_lines read start (counted text) >>= λ state. placed (number_after text) (end state)

-- all lines are read, and the end of the text is at fault in the state that they leave
abbrev pub IsEndFault : {S V C : Type 0} → (S → List ℕ → Result S C) → (S → Result V C) → S → List ℕ → ℕ × C → Type 0
IsEndFault {S = S} read end start text place =
    (state : S) × (read_lines read start (counted text) ≡ Ok state) × (end state ≡ Err place.1) × (place.0 ≡ number_after text)

-- the fault of a text is that of its first line at fault, or else of its end
abbrev pub IsTextFault : {S V C : Type 0} → (S → List ℕ → Result S C) → (S → Result V C) → S → List ℕ → ℕ × C → Type 0
IsTextFault read end start text place = IsFirstFault read start (counted text) place ⊎ IsEndFault read end start text place
