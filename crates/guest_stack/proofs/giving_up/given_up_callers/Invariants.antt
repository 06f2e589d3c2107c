use Rattle.std.proofs.Common.{◌≡◌, reverse, take}
use Rattle.std.specs.Prelude.{flat_map}
use Rattle.guest_stack.specs.GivingUp.{given_up_by}
use Rattle.guest_stack.proofs.giving_up.given_up_callers.Given as goal

abbrev pub invariant-loop-frame : goal.invariant-loop-frame
invariant-loop-frame l = l.frames.items ≡ flat_map (λ frame. reverse (given_up_by l.fn.layout l.fn.func.0 frame)) (take l.frame-index l.callers)
