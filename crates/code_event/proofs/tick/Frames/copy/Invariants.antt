use Rattle.std.proofs.Common.{◌≡◌, take}
use Rattle.code_event.proofs.tick.Frames.copy.Given as goal

abbrev pub invariant-loop-address : goal.invariant-loop-address
invariant-loop-address l = l.copy ≡ take l.address-index l.address-items
