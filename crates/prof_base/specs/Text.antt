-- What a text is.
use Rattle.std.specs.Prelude.{ℕ, ◌≤◌, List, length, Bool, ◌&&◌, nat_le}
use Rattle.std.specs.List.{AllPass}
use Rattle.prof_base.specs.declared.text.TheConstants.Text.{MAX_LEN}

-- a byte of printable ASCII, which includes the space
abbrev pub is_printable : ℕ → Bool
is_printable b = nat_le 0x20 b && nat_le b 0x7E

-- printable bytes, and no more of them than a text may have
pub record IsText (bytes : List ℕ) : Type 0 where
  pub short : length bytes ≤ MAX_LEN
  pub printable : AllPass is_printable bytes
