-- Names in a folder.
use Rattle.std.specs.Prelude.{ℕ, ◌≢◌, List, [], ◌++◌, ◌∷◌, codes, decimal}
use Rattle.std.specs.List.{Contains}

-- the name of a file in the folder itself: it is not empty, is neither the folder nor the one above it, and has no slash
pub record IsFileName (name : List ℕ) : Type 0 where
  pub some_bytes : name ≢ []
  pub not_here : name ≢ codes "."
  pub not_above : name ≢ codes ".."
  pub no_slash : ¬ Contains name 0x2F

-- the name of this draft. No text has its last byte
abbrev pub draft_name : ℕ → List ℕ
draft_name number = codes "cpuprof-draft-" ++ decimal number ++ 0x7F ∷ []
