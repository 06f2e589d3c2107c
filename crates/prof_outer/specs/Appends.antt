-- How the bytes of a sink grow. Where they cannot be observed, each equation says only that they cannot be observed afterwards.
use Rattle.std.specs.Prelude.{ℕ, ◌≡◌, List, ◌++◌, Option, option_map}
use Rattle.prof_base.specs.Prefix.{IsPrefix}

-- all of these bytes were appended
abbrev pub AppendsWhole : Option (List ℕ) → Option (List ℕ) → List ℕ → Type 0
AppendsWhole old new bytes = new ≡ option_map (λ written. written ++ bytes) old

-- a prefix of these bytes was appended
abbrev pub AppendsPart : Option (List ℕ) → Option (List ℕ) → List ℕ → Type 0
AppendsPart old new bytes = (part : List ℕ) × IsPrefix part bytes × AppendsWhole old new part
