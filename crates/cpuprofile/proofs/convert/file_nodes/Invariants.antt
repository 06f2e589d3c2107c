use Rattle.std.proofs.Common.{◌≡◌, take}
use Rattle.std.specs.List.{AllByRecursion}
use Rattle.cpuprofile.specs.Converted.{file_nodes}
use Rattle.cpuprofile.specs.Given.{HasSmallNumbers}
use Rattle.cpuprofile.proofs.convert.file_nodes.Given as goal

abbrev pub invariant-loop-at : goal.invariant-loop-at
invariant-loop-at l = record { exact : l.made.items ≡ file_nodes 1 (take l.at l.nodes); small : AllByRecursion HasSmallNumbers l.made.items }
