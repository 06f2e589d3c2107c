-- What a cut is, in four laws; no other list meets them all.
use Rattle.std.specs.Prelude.{ℕ, ◌≡◌, ◌+◌, ◌<◌, ◌≤◌, length, slice_index, sum}
use Rattle.out_stream.specs.Cut.{cut}

-- the chunks have all bytes
abbrev pub CutsAddUp : Type 0
CutsAddUp = (size bytes : ℕ) → 1 ≤ size → sum (cut size bytes) ≡ bytes

-- each chunk but the last has the whole size
abbrev pub ChunksAreWhole : Type 0
ChunksAreWhole = (size bytes at : ℕ) → 1 ≤ size → at + 1 < length (cut size bytes) → slice_index (cut size bytes) at ≡ size

-- no chunk is empty
abbrev pub ChunksAreNotEmpty : Type 0
ChunksAreNotEmpty = (size bytes at : ℕ) → 1 ≤ size → at < length (cut size bytes) → 1 ≤ slice_index (cut size bytes) at

-- no chunk is longer than the size
abbrev pub ChunksFit : Type 0
ChunksFit = (size bytes at : ℕ) → 1 ≤ size → at < length (cut size bytes) → slice_index (cut size bytes) at ≤ size
