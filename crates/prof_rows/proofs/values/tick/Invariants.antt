use Rattle.std.proofs.Common.{◌≡◌, take}
use Rattle.prof_rows.proofs.values.tick.Given as goal

abbrev pub invariant-loop-address : goal.invariant-loop-address
invariant-loop-address l = l.frames ≡ take l.address-index l.addresses
