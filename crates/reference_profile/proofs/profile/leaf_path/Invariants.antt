use Rattle.std.proofs.Common.{◌≡◌, take}
use Rattle.code_event.specs.Symbolizer.{leaf_path}
use Rattle.reference_profile.proofs.profile.leaf_path.Given as goal

abbrev pub invariant-loop-frame : goal.invariant-loop-frame
invariant-loop-frame l = l.found ≡ leaf_path (take l.frame-index l.frames)
