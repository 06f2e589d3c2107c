use Rattle.std.proofs.Common.{◌≡◌, map, take}
use Rattle.cpuprofile.specs.Converted.{file_delta}
use Rattle.cpuprofile.proofs.convert.file_deltas.Given as goal

abbrev pub invariant-loop-delta : goal.invariant-loop-delta
invariant-loop-delta l = l.made.items ≡ map file_delta (take l.delta-index l.deltas)
