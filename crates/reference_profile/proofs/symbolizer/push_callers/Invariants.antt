use Rattle.std.proofs.Common.{◌≡◌, ◌++◌, take}
use Rattle.std.specs.List.{flat_map}
use Rattle.code_event.specs.Symbolizer.{caller_frames}
use Rattle.reference_profile.proofs.symbolizer.push_callers.Given as goal

abbrev pub invariant-loop-caller : goal.invariant-loop-caller
invariant-loop-caller l = l.frames ≡ l.initial.frames ++ flat_map (caller_frames l.ranges) (take l.caller-index l.callers)
