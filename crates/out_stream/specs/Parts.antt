-- The parts of a stream: the closed ones, and the unfinished one. Where they cannot be observed, each equation says only that they cannot be observed afterwards.
use Rattle.std.specs.Prelude.{ℕ, ◌≡◌, List, [], ◌∷◌, ◌++◌, Option, option_map}
use Rattle.prof_base.specs.Prefix.{IsPrefix}

-- the closed parts, and the bytes of the unfinished one
abbrev pub Parts : Type 0
Parts = List (List ℕ) × List ℕ

-- the unfinished part is longer by these bytes
abbrev pub grown : Option Parts → List ℕ → Option Parts
grown parts bytes = option_map (λ p. (p.0, p.1 ++ bytes)) parts

-- the unfinished part is closed, and the next one has no bytes
abbrev pub closed : Option Parts → Option Parts
closed parts = option_map (λ p. (p.0 ++ p.1 ∷ [], [])) parts

-- the unfinished part is longer by a prefix of these bytes
abbrev pub GrowsByPrefix : Option Parts → Option Parts → List ℕ → Type 0
GrowsByPrefix old new bytes = (part : List ℕ) × IsPrefix part bytes × (new ≡ grown old part)
