use Rattle.std.proofs.Common.{◌≡◌, take}
use Rattle.reference_profile.proofs.deopt_reasons.copy_reasons.Given as goal

abbrev pub invariant-loop-reason : goal.invariant-loop-reason
invariant-loop-reason l = l.copies ≡ take l.reason-index l.reason-items
