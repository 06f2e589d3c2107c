use Rattle.std.proofs.Common.{◌≡◌, drop}
use Rattle.prof_outer.specs.Files.{file_at}
use Rattle.prof_outer.specs.Stored.{files_of}
use Rattle.prof_outer.proofs.depot.find.Given as goal

abbrev pub invariant-loop-file : goal.invariant-loop-file
invariant-loop-file l = file_at (files_of (drop l.file-index l.files)) l.name ≡ file_at (files_of l.files) l.name
