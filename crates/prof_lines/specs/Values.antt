-- Texts whose lines spell a value each: the values so far, and the rules of a text over them.
use Rattle.std.specs.Prelude.{◌≡◌, ℕ, List, [], ◌∷◌, ◌++◌, Result, Ok, Err, Bool, IsTrue, Option, Some, None}
use Rattle.prof_lines.specs.declared.fault.Cause.{Cause}
use Rattle.prof_lines.specs.Answers.{Reader, ◌>>=◌}
use Rattle.prof_lines.specs.Lines.{counted}
use Rattle.prof_lines.specs.Spelled.{HasWords}
use Rattle.prof_lines.specs.Forms.{Wording, IsForm}
use Rattle.prof_lines.specs.Canonical.{IsLine}

-- a reader of the line that comes after these values
abbrev pub LineReader : Type 0 → Type 0 → Type 0
LineReader V C = List V → Reader V C

-- the values that may come after these, as far as their own line says
abbrev pub Fitting : Type 0 → Type 1
Fitting V = List V → V → Type 0

-- the cause of the first rule that a value breaks after these values
abbrev pub Rules : Type 0 → Type 0 → Type 0
Rules V C = List V → V → Option (Cause C)

-- what all values of a text end in
abbrev pub TextEnd : Type 0 → Type 0 → Type 0 → Type 0
TextEnd V W C = List V → Result W (Cause C)

-- the values that pass a test after these
abbrev pub PassesAfter : {V : Type 0} → (List V → V → Bool) → Fitting V
PassesAfter fits before value = IsTrue (fits before value)

-- after any values the line that comes next has a form, whose values fit
abbrev pub HaveForms : {V C : Type 0} → LineReader V C → Fitting V → Wording V → Type 0
HaveForms {V = V} read Fits words = (before : List V) → IsForm (read before) (Fits before) words

-- each value that fits has a canonical line
abbrev pub HaveLines : {V : Type 0} → Fitting V → Wording V → Type 0
HaveLines {V = V} Fits words = (before : List V) (value : V) → Fits before value → IsLine (words value)

-- each value, in order, is spelled by the line in its place
abbrev pub EachIsSpelled : {V : Type 0} → Wording V → List V → List (ℕ × List ℕ) → Type 0
EachIsSpelled words [] [] = Unit {0}
EachIsSpelled words [] (line ∷ lines) = ⊥
EachIsSpelled words (value ∷ values) [] = ⊥
EachIsSpelled words (value ∷ values) (line ∷ lines) = HasWords (words value) line.1 × EachIsSpelled words values lines

-- what is kept, where the rules have no fault
abbrev pub kept : {V C : Type 0} → Option (Cause C) → V → Result V (Cause C)
kept None value = Ok value
kept (Some cause) value = Err cause

-- the values so far and that of one more line: the form that belongs after the values so far reads its words, and then the rules of the text hold
abbrev pub next_value : {V C : Type 0} → LineReader V C → Rules V C → List V → Reader (List V) C
next_value read fault before line = read before line >>= λ value. kept (fault before value) (before ++ value ∷ [])

-- each value fits and breaks no rule after those before it; the first comes after `before`
abbrev pub Keeps : {V C : Type 0} → Fitting V → Rules V C → List V → List V → Type 0
Keeps Fits fault before [] = Unit {0}
Keeps Fits fault before (value ∷ values) = Fits before value × (fault before value ≡ None) × Keeps Fits fault (before ++ value ∷ []) values

-- the lines spell these values, which fit and break no rule after those before them
abbrev pub Spells : {V C : Type 0} → Fitting V → Wording V → Rules V C → List V → List V → List (ℕ × List ℕ) → Type 0
Spells Fits words fault before values lines = Keeps Fits fault before values × EachIsSpelled words values lines

-- the lines of the text spell values that break no rule and end in this
abbrev pub EndsIn : {V W C : Type 0} → Fitting V → Wording V → Rules V C → TextEnd V W C → List ℕ → W → Type 0
EndsIn {V = V} Fits words fault end text whole = (values : List V) × Spells Fits words fault [] values (counted text) × (end values ≡ Ok whole)
