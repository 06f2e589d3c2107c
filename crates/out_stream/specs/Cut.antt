-- How many bytes each chunk of a part has.
use Rattle.std.specs.Prelude.{ℕ, zero, suc, ◌/◌, ◌%◌, List, [], ◌∷◌, ◌++◌}
use Rattle.std.specs.List.{repeat}

-- what is left after the whole chunks: one shorter chunk, or none
abbrev pub last_chunk : ℕ → List ℕ
last_chunk zero = []
last_chunk (suc n) = suc n ∷ []

-- the sizes of the chunks that this many bytes are cut into: whole chunks of `size` bytes, and then one of what is left
unfoldable pub cut : ℕ → ℕ → List ℕ
cut size bytes = repeat (bytes / size) (size ∷ []) ++ last_chunk (bytes % size)
