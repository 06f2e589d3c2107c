use Rattle.std.proofs.Common.{◌≡◌, map, take}
use Rattle.std.specs.List.{AllByRecursion}
use Rattle.cpuprofile.specs.Converted.{file_ticks}
use Rattle.cpuprofile.specs.Valid.{IsExact}
use Rattle.cpuprofile.proofs.convert.file_ticks.Given as goal

abbrev pub invariant-loop-line : goal.invariant-loop-line
invariant-loop-line l = record { exact : l.made.items ≡ map file_ticks (take l.line-index l.lines); small : AllByRecursion (λ at. IsExact at.line) l.made.items }
