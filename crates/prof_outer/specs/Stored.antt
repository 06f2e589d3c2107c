-- Files in memory.
use Rattle.std.specs.Prelude.{ℕ, List, map}
use Rattle.std.specs.FinMap.{from_entries}
use Rattle.prof_outer.specs.Files.{FileMap}
use Rattle.prof_outer.specs.declared.depot.Stored.{Stored}

-- a file's name and its bytes
abbrev pub named_bytes : Stored → List ℕ × List ℕ
named_bytes file = (file.name, file.bytes.items)

-- the files by their names: of two with one name, the first
abbrev pub files_of : List Stored → FileMap
files_of files = from_entries (map named_bytes files)
