-- How words are spelled on a line, in terms that no reader shares.
use Rattle.std.specs.Prelude.{◌≡◌, ℕ, zero, suc, ◌<◌, ◌≤◌, List, [], ◌∷◌, ◌++◌, length, Bool, true, false, if◌then◌else◌, flat_map}
use Rattle.std.specs.List.{list_all, AllByRecursion}
use Rattle.prof_lines.specs.Words.{is_plain, InRange}
use Rattle.prof_lines.specs.Quoted.{is_escapable}

-- a plain word
pub record IsWord (word : List ℕ) : Type 0 where
  pub some : 0 < length word
  pub plain : list_all is_plain word ≡ true

-- this many spaces
abbrev pub spaces : ℕ → List ℕ
spaces zero = []
spaces (suc n) = 32 ∷ spaces n

-- a space or the end of the line comes next
abbrev pub Stops : List ℕ → Type 0
Stops [] = Unit {0}
Stops (b ∷ bytes) = b ≡ 32

-- the bytes begin with spaces, if any, then the word, then the rest, which begins with a space or is the end of the line
pub record BeginsWith (word rest bytes : List ℕ) : Type 0 where
  pub before : ℕ
  pub is : bytes ≡ spaces before ++ (word ++ rest)
  pub stops : Stops rest

-- the line has these words and no others: one or more spaces separate them, and there may be spaces at either end
abbrev pub HasWords : List (List ℕ) → List ℕ → Type 0
HasWords [] line = (after : ℕ) × (line ≡ spaces after)
HasWords (word ∷ words) line = (rest : List ℕ) × BeginsWith word rest line × HasWords words rest

-- a word that may be missing
abbrev pub optional_word : List ℕ → Bool → List (List ℕ)
optional_word word true = word ∷ []
optional_word word false = []

-- at most as many numbers as there is room for, each in the range
abbrev pub AreNumbers : ℕ → ℕ → ℕ → List ℕ → Type 0
AreNumbers least most room numbers = (length numbers ≤ room) × AllByRecursion (InRange least most) numbers

-- a byte of a text in quotes: `"` and `\` come after a `\`
abbrev pub escaped_byte : ℕ → List ℕ
escaped_byte b = if is_escapable b then 92 ∷ b ∷ [] else b ∷ []

-- the bytes of a text between its quotes
abbrev pub escaped : List ℕ → List ℕ
escaped text = flat_map escaped_byte text

-- a text in quotes
abbrev pub quoted : List ℕ → List ℕ
quoted text = 34 ∷ (escaped text ++ 34 ∷ [])
