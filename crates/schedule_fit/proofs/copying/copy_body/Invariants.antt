use Rattle.std.proofs.Common.{◌≡◌, take}
use Rattle.schedule_fit.proofs.copying.copy_body.Given as goal

abbrev pub invariant-loop-instr : goal.invariant-loop-instr
invariant-loop-instr l = l.copies.items ≡ take l.instr-index l.instr-items
