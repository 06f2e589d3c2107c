-- Prefixes of lists.
use Rattle.std.specs.Prelude.{◌≡◌, List, ◌++◌}

-- the list whole begins with part
abbrev pub IsPrefix : {A : Type 0} → List A → List A → Type 0
IsPrefix {A} part whole = (rest : List A) × (whole ≡ part ++ rest)
