use Rattle.std.proofs.Common.{ℕ, ◌<◌}
use Rattle.guest_program.specs.Program.{IsMain}
use Rattle.guest_text.proofs.reading.main_of.Given as goal

abbrev pub invariant-loop-number : goal.invariant-loop-number
invariant-loop-number l = (number : ℕ) → number < l.number → ¬ IsMain l.funcs number
