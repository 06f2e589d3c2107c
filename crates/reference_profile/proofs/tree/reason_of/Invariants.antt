use Rattle.std.proofs.Common.{◌≡◌, drop}
use Rattle.code_event.specs.DeoptReasons.{reasons_in}
use Rattle.reference_profile.proofs.tree.reason_of.Given as goal

abbrev pub invariant-loop-reason : goal.invariant-loop-reason
invariant-loop-reason l = reasons_in (drop l.reason-index l.reasons) l.entry ≡ reasons_in l.reasons l.entry
