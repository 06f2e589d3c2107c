-- What a text of a file is.
use Rattle.std.specs.Prelude.{ℕ, ◌≤◌, List, length, IsUtf8}
use Rattle.cpuprofile.specs.declared.file_text.TheConstants.FileText.{MAX_LEN}

-- UTF-8, and no more bytes than a text may have
pub record IsFileText (bytes : List ℕ) : Type 0 where
  pub short : length bytes ≤ MAX_LEN
  pub utf8 : IsUtf8 bytes
