use Rattle.std.proofs.Common.{ℕ, ◌≡◌, List, ◌++◌, IfOk, string_bytes, append_assoc, subst}
use Rattle.std.specs.Prelude.{codes, decimal}
use Rattle.out_stream.specs.PartName.{part_name}
use Rattle.out_stream.proofs.file.part_name.Goals as goal

spelled : (number part : ℕ) → codes "cpuprof-" ++ (decimal number ++ (codes "-" ++ (decimal part ++ codes ".cpuprofile"))) ≡ part_name number part
spelled number part = simp append_assoc

pub returns : goal.returns
returns c =
    let P : List ℕ → Type 0 = λ text. IfOk c.format.result (λ name. string_bytes name ≡ text) in
    subst P (spelled c.args.number c.args.part) c.format.ensures.ok
