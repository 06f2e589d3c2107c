-- The lines of a canonical text spell its values.
use Rattle.std.proofs.Common.{◌≡◌, ℕ, ◌+◌, List, [], ◌∷◌, ◌++◌, true, false, not, ◌||◌, ◌==◌, Ok, refl, append_assoc}
use Rattle.std.specs.List.{AllByRecursion}
use Rattle.std.proofs.lemmas.Bool.{and_parts, or_parts, not-true}
use Rattle.prof_lines.specs.Lines.{lines_of, is_passed, counted_from, counted}
use Rattle.prof_lines.specs.Spelled.{Stops, HasWords}
use Rattle.prof_lines.specs.Canonical.{further, joined, line_of, text_of, begins_line, is_one_line, IsLine}
use Rattle.prof_lines.specs.Forms.{Wording}
use Rattle.prof_lines.specs.Folds.{read_lines}
use Rattle.prof_lines.specs.Values.{LineReader, Fitting, Rules, HaveForms, HaveLines, next_value, EachIsSpelled, Keeps, Spells}
use Rattle.prof_lines.proofs.Values.{values_again}

pub lines_of-line : (line rest : List ℕ) → is_one_line line ≡ true → lines_of (line ++ 10 ∷ rest) ≡ line ∷ lines_of rest
lines_of-line [] rest h = refl
lines_of-line (b ∷ line) rest h = let f = and_parts (not (b == 10)) (is_one_line line) h in rw (not-true (b == 10) f.0, lines_of-line line rest f.1) refl

is_not_passed : (line : List ℕ) → begins_line line ≡ true → is_passed line ≡ false
is_not_passed [] h = absurd cc
is_not_passed (b ∷ line) h = let f = or_parts (b == 32) (b == 35) (not-true (b == 32 || b == 35) h) in rw (f.0, f.1) refl

further_stops : (words : List (List ℕ)) → Stops (further words)
further_stops [] = tt
further_stops (word ∷ words) = refl

-- words, each after a space, are the words of their line
pub further_has : (words : List (List ℕ)) → HasWords words (further words)
further_has [] = (0, refl)
further_has (word ∷ words) = (further words, record { before = 1; is = refl; stops = further_stops words }, further_has words)

-- words with one space between them are the words of their line
pub joined_has : (words : List (List ℕ)) → HasWords words (joined words)
joined_has [] = (0, refl)
joined_has (word ∷ words) = (further words, record { before = 0; is = refl; stops = further_stops words }, further_has words)

canonical_from : {V : Type 0} (words : Wording V) (number : ℕ) (values : List V) → AllByRecursion (λ value. IsLine (words value)) values
    → EachIsSpelled words values (counted_from number (lines_of (text_of words values)))
canonical_from words number [] h = tt
canonical_from words number (value ∷ values) h =
    let line = joined (words value) in
    let split : line_of (words value) ++ text_of words values ≡ line ++ 10 ∷ text_of words values = append_assoc line (10 ∷ []) (text_of words values) in
    rw (split, lines_of-line line (text_of words values) h.0.one_line, is_not_passed line h.0.begins) (joined_has (words value), canonical_from words (number + 1) values h.1)

-- the lines of the canonical text of values spell each of them
pub canonical : {V : Type 0} (words : Wording V) (values : List V) → AllByRecursion (λ value. IsLine (words value)) values → EachIsSpelled words values (counted (text_of words values))
canonical words values h = canonical_from words 1 values h

all_lines : {V C : Type 0} (Fits : Fitting V) (words : Wording V) (fault : Rules V C) → HaveLines Fits words
    → (before values : List V) → Keeps Fits fault before values → AllByRecursion (λ value. IsLine (words value)) values
all_lines Fits words fault each before [] h = tt
all_lines Fits words fault each before (value ∷ values) h = (each before value h.0, all_lines Fits words fault each (before ++ value ∷ []) values h.2)

-- the lines of the canonical text of values that keep the rules spell them
pub canonical_spells : {V C : Type 0} (Fits : Fitting V) (words : Wording V) (fault : Rules V C) → HaveLines Fits words
    → (values : List V) → Keeps Fits fault [] values → Spells Fits words fault [] values (counted (text_of words values))
canonical_spells Fits words fault each values h = (h, canonical words values (all_lines Fits words fault each [] values h))

-- the canonical text of values that keep the rules is read as these values
pub canonical_read : {V C : Type 0} (read : LineReader V C) (Fits : Fitting V) (words : Wording V) (fault : Rules V C) → HaveForms read Fits words → HaveLines Fits words
    → (values : List V) → Keeps Fits fault [] values → read_lines (next_value read fault) [] (counted (text_of words values)) ≡ Ok values
canonical_read read Fits words fault forms each values h = values_again read Fits words fault forms [] values (counted (text_of words values)) (canonical_spells Fits words fault each values h)
