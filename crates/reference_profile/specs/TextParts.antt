-- Parts of a profile's text, as the code writes them.
use Rattle.std.specs.Prelude.{ℕ, zero, suc, List, [], codes}

-- what comes before the item of a list at this place
abbrev pub comma_before : ℕ → List ℕ
comma_before zero = []
comma_before (suc before) = codes ","
