-- Why bytes are no text.
use Rattle.std.specs.Prelude.{ℕ, ◌<◌, ◌≤◌, ◌≡◌, List, length, not, position, Some}
use Rattle.prof_base.specs.Text.{is_printable}
use Rattle.prof_base.specs.declared.text.TheConstants.Text.{MAX_LEN}
use Rattle.prof_base.specs.declared.text.TextRefused.{TextRefused}
use Rattle.prof_base.specs.declared.text.TextRefused.TheVariants.{TooLong, NotPrintable, Memory}

-- what a refusal says of the bytes; running out of memory says nothing of them
abbrev pub IsRefusedAs : List ℕ → TextRefused → Type 0
IsRefusedAs bytes TooLong = MAX_LEN < length bytes
IsRefusedAs bytes (NotPrintable at) = (length bytes ≤ MAX_LEN) × (position (λ b. not (is_printable b)) bytes ≡ Some at)
IsRefusedAs bytes Memory = Unit {0}
