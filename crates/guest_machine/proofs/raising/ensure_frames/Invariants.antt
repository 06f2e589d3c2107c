use Rattle.std.proofs.Common.{take}
use Rattle.guest_machine.proofs.Raised.{AreEnsured}
use Rattle.guest_machine.proofs.raising.ensure_frames.Given as goal

abbrev pub invariant-loop-frame : goal.invariant-loop-frame
invariant-loop-frame l = AreEnsured (take l.frame-index l.frames) l.initial.code l.code l.initial.events l.events
