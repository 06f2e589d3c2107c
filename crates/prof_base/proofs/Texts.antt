-- Texts are ASCII.
use Rattle.std.proofs.Common.{ℕ, ◌<◌, ◌≤◌, ◌≡◌, ◌⊎◌, inl, inr, List, length, get_or, true, arith}
use Rattle.std.proofs.lemmas.List.{get_or_past}
use Rattle.std.proofs.lemmas.Bool.Decides.{nat_tests}
use Rattle.std.specs.Str.{IsAscii, IsUtf8}
use Rattle.std.proofs.lemmas.Str.{IsUtf8-from_ascii}
use Rattle.prof_base.specs.Text.{is_printable, IsText}

printable_ascii : (b : ℕ) → is_printable b ≡ true → b < 128
printable_ascii b h = grind (arith, nat_tests)

within_or_past : (i n : ℕ) → (i < n) ⊎ (n ≤ i)
within_or_past i n = grind arith

text_is_ascii : (bytes : List ℕ) → IsText bytes → IsAscii bytes
text_is_ascii bytes h i = elim (within_or_past i (length bytes)) [
  | inl within ↦ printable_ascii (get_or bytes i 0) (h.printable i 0 within)
  | inr past ↦ omega (arith, get_or_past bytes i 0 past)
]

pub text_is_utf8 : (bytes : List ℕ) → IsText bytes → IsUtf8 bytes
text_is_utf8 bytes h = IsUtf8-from_ascii bytes (text_is_ascii bytes h)
