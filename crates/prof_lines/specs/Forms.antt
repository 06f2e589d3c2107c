-- Readers of words, places and whole lines: each reads the values that are spelled, and nothing else.
use Rattle.std.specs.Prelude.{◌≡◌, ℕ, List, Ok, Bool, IsTrue}
use Rattle.prof_lines.specs.Answers.{Reader, Front}
use Rattle.prof_lines.specs.Spelled.{IsWord, BeginsWith, HasWords}

-- the values that pass a test
abbrev pub Passes : {A : Type 0} → (A → Bool) → A → Type 0
Passes fits value = IsTrue (fits value)

-- a reader of a plain word, the values that it gives, and the word that spells each of them
pub record IsNaming {A C : Type 0} (read : Reader A C) (Fits : A → Type 0) (word : A → List ℕ) : Type 0 where
  -- what is read fits, and the word spells it
  pub takes : (text : List ℕ) (value : A) → read text ≡ Ok value → Fits value × (word value ≡ text)
  -- the word of what fits is read as it
  pub again : (value : A) → Fits value → read (word value) ≡ Ok value
  pub plain : (value : A) → Fits value → IsWord (word value)

-- a reader of the word that comes next in a line, the values that it gives, and the word that spells each of them
pub record IsPlace {A C : Type 0} (read : Reader (Front A) C) (Fits : A → Type 0) (word : A → List ℕ) : Type 0 where
  -- what is read fits, and its word comes next
  pub takes : (bytes rest : List ℕ) (value : A) → read bytes ≡ Ok (value, rest) → Fits value × BeginsWith (word value) rest bytes
  -- what fits and whose word comes next is read
  pub again : (bytes rest : List ℕ) (value : A) → Fits value → BeginsWith (word value) rest bytes → read bytes ≡ Ok (value, rest)

-- the words that spell a value
abbrev pub Wording : Type 0 → Type 0
Wording V = V → List (List ℕ)

-- a reader of a line up to its end, the values that it gives, and the words that spell each of them
pub record IsForm {V C : Type 0} (read : Reader V C) (Fits : V → Type 0) (words : Wording V) : Type 0 where
  -- what is read fits, and the line has its words
  pub takes : (line : List ℕ) (value : V) → read line ≡ Ok value → Fits value × HasWords (words value) line
  -- what fits and whose words the line has is read
  pub again : (line : List ℕ) (value : V) → Fits value → HasWords (words value) line → read line ≡ Ok value
