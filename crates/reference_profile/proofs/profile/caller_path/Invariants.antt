use Rattle.std.proofs.Common.{◌≡◌, ◌++◌, drop}
use Rattle.code_event.specs.Symbolizer.{caller_path}
use Rattle.reference_profile.proofs.profile.caller_path.Given as goal

abbrev pub invariant-loop-frame : goal.invariant-loop-frame
invariant-loop-frame l = l.found ++ caller_path l.line (drop l.frame-index l.frames) ≡ caller_path 0 l.frames
