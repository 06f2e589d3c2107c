-- The names of the files that hold parts.
use Rattle.std.specs.Prelude.{ℕ, List, ◌++◌, codes, decimal}

-- the name of this part of the stream with this number
abbrev pub part_name : ℕ → ℕ → List ℕ
part_name number part = codes "cpuprof-" ++ decimal number ++ codes "-" ++ decimal part ++ codes ".cpuprofile"
