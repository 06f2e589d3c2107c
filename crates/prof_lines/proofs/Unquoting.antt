-- Reading a text in quotes, as the code does it.
use Rattle.std.proofs.Common.{◌≡◌, ℕ, ◌<◌, List, [], ◌∷◌, ◌++◌, length, get_or, Option, Some, None, false, not, nat_le, position, refl, sym, ap, append_assoc}
use Rattle.std.specs.List.{list_all}
use Rattle.std.proofs.lemmas.Bool.{and_left, and_right, le-leb, lt-leb, not-true}
use Rattle.std.proofs.lemmas.List.Folds.{list_all_at}
use Rattle.std.proofs.lemmas.List.Sums.{list_all-from_AllPass}
use Rattle.std.proofs.lemmas.List.Quantifiers.{position-Some}
use Rattle.prof_base.specs.Text.{is_printable, IsText}
use Rattle.prof_base.specs.declared.text.TheConstants.Text.{MAX_LEN}
use Rattle.prof_lines.specs.Answers.{Front}
use Rattle.prof_lines.specs.Quoted.{onto_text, checked_text}

-- what was read so far, before what is still read
abbrev pub after_read : List ℕ → Option (Front (List ℕ)) → Option (Front (List ℕ))
after_read read None = None
after_read read (Some text) = Some (read ++ text.0, text.1)

pub after_read-none : (later : Option (Front (List ℕ))) → after_read [] later ≡ later
after_read-none None = refl
after_read-none (Some text) = refl

pub after_read-onto : (read : List ℕ) (b : ℕ) (later : Option (Front (List ℕ))) → after_read read (onto_text b later) ≡ after_read (read ++ b ∷ []) later
after_read-onto read b None = refl
after_read-onto read b (Some text) = ap (λ (x : List ℕ). Some (x, text.1)) (sym (append_assoc read (b ∷ []) text.0))

pub text_is_taken : (bytes : List ℕ) → IsText bytes → checked_text bytes ≡ Some bytes
unfolding checked_text
text_is_taken bytes h = rw (le-leb (length bytes) MAX_LEN h.short, list_all-from_AllPass is_printable bytes h.printable) refl

pub long_is_refused : (bytes : List ℕ) → MAX_LEN < length bytes → checked_text bytes ≡ None
unfolding checked_text
long_is_refused bytes h = rw (and_left _ (list_all is_printable bytes) (lt-leb (length bytes) MAX_LEN h)) refl

pub unprintable_is_refused : (bytes : List ℕ) (at : ℕ) → position (λ b. not (is_printable b)) bytes ≡ Some at → checked_text bytes ≡ None
unfolding checked_text
unprintable_is_refused bytes at h =
    let there = position-Some (λ b. not (is_printable b)) bytes at 0 h in
    let fails : list_all is_printable bytes ≡ false = list_all_at is_printable bytes at 0 there.0 (not-true (is_printable (get_or bytes at 0)) there.1) in
    rw (and_right (nat_le (length bytes) MAX_LEN) (list_all is_printable bytes) fails) refl
