-- The size of a function that calls one which is inlined.
use Rattle.std.proofs.Common.{◌≡◌, ℕ, ◌+◌, ◌*◌, length, arith}
use Rattle.std.proofs.lemmas.List.Folds.{sum_by-replicate}
use Rattle.std.proofs.lemmas.List.{length-replicate}
use Rattle.std.specs.Prelude.{replicate, sum_by}
use Rattle.guest_program.specs.InlinedSize.{taken_in, inlined_size}
use Rattle.code_layout.specs.Examples.{calling, return}

pub calling_size : (size : ℕ) → inlined_size (calling size) 4 0 ≡ size + 2
calling_size size =
    let adds = taken_in (calling size) (λ other. inlined_size (calling size) 2 other) in
    let none : sum_by adds (replicate size return) ≡ size * 0 = sum_by-replicate adds size return in
    let all : length (replicate size return) ≡ size = length-replicate size return in
    omega (arith, none, all)
