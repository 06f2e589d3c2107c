use Rattle.std.proofs.Common.{◌≡◌, ◌++◌, map, take, drop}
use Rattle.code_objects.specs.Objects.{code_moved}
use Rattle.code_objects.proofs.func_code.slide_objects.Given as goal

abbrev pub invariant-loop-code : goal.invariant-loop-code
invariant-loop-code l = l.codes ≡ map (code_moved l.moves) (take l.code-index l.initial.codes) ++ drop l.code-index l.initial.codes
