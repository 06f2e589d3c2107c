-- Texts in quotes, read from the left.
use Rattle.std.specs.Prelude.{ℕ, List, [], ◌∷◌, length, Result, Ok, Err, Bool, true, false, ◌&&◌, ◌||◌, nat_le, ◌==◌, if◌then◌else◌, Option, Some, None}
use Rattle.std.specs.List.{list_all}
use Rattle.prof_base.specs.Text.{is_printable}
use Rattle.prof_base.specs.declared.text.TheConstants.Text.{MAX_LEN}
use Rattle.prof_lines.specs.declared.fault.Cause.{Cause}
use Rattle.prof_lines.specs.declared.fault.Cause.TheVariants.{Word}
use Rattle.prof_lines.specs.Answers.{Front, ◌>>=◌}
use Rattle.prof_lines.specs.Words.{after_spaces}

-- `"` and `\`
abbrev pub is_escapable : ℕ → Bool
is_escapable b = b == 34 || b == 92

-- a byte before the bytes of a text, where one was read
abbrev pub onto_text : ℕ → Option (Front (List ℕ)) → Option (Front (List ℕ))
onto_text b None = None
onto_text b (Some text) = Some (b ∷ text.0, text.1)

-- the bytes meant up to the `"` that closes the text, and the bytes after it; each `\` means the `"` or `\` after it.
-- The first argument says whether a `\` comes before the first byte.
abbrev pub unquoted : Bool → List ℕ → Option (Front (List ℕ))
unquoted escaped [] = None
unquoted escaped (b ∷ bytes) =
    if escaped then (if is_escapable b then onto_text b (unquoted false bytes) else None)
    else if b == 34 then Some ([], bytes)
    else if b == 92 then unquoted true bytes
    else onto_text b (unquoted false bytes)

-- the bytes, where they are printable and at most as many as a text may have
unfoldable pub checked_text : List ℕ → Option (List ℕ)
checked_text bytes = if nat_le (length bytes) MAX_LEN && list_all is_printable bytes then Some bytes else None

-- a space or the line's end comes next
abbrev pub is_stop : List ℕ → Bool
is_stop [] = true
is_stop (b ∷ bytes) = b == 32

-- the bytes after the `"` that comes next
abbrev pub opened : List ℕ → Option (List ℕ)
opened [] = None
opened (b ∷ bytes) = if b == 34 then Some bytes else None

-- where there is nothing, a word is at fault
abbrev pub or_word : {A C : Type 0} → Option A → Result A (Cause C)
or_word (Some x) = Ok x
or_word None = Err Word

-- the text in quotes that comes next
unfoldable pub quoted_at : {C : Type 0} → List ℕ → Result (Front (List ℕ)) (Cause C)
quoted_at bytes = do
  inside ← or_word (opened (after_spaces bytes))
  raw ← or_word (unquoted false inside)
  text ← or_word (checked_text raw.0)
  if is_stop raw.1 then Ok (text, raw.1) else Err Word
