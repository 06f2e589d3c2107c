use Rattle.std.proofs.Common.{◌≡◌, List, drop, reverse, flat_map}
use Rattle.code_event.specs.Symbolizer.{caller_frames}
use Rattle.code_event.specs.declared.code_map.Range.{Range}
use Rattle.code_map.specs.CodeMap.{HasRanges, RangesStay, ReasonsStay}
use Rattle.symbolizer.specs.Paths.{with_frames}
use Rattle.symbolizer.proofs.stack.push_callers.Given as goal

abbrev pub invariant-loop-at : goal.invariant-loop-at
invariant-loop-at l = record {
  paths : (ranges : List Range) → HasRanges l.fn.map ranges → l.paths ≡ with_frames l.fn.paths (reverse (flat_map (caller_frames ranges) (drop l.at l.callers)));
  ranges : RangesStay l.fn.map l.map;
  reasons : ReasonsStay l.fn.map l.map;
}
