-- The functions at an address by the place that a map finds it at.
use Rattle.std.proofs.Common.{◌≡◌, ℕ, List, [], ap, ◌∙◌}
use Rattle.std.specs.Prelude.{Option, Some, None, option_map, option_and_then, find}
use Rattle.std.specs.Option.{option_map_or}
use Rattle.std.specs.List.{slice_get}
use Rattle.code_event.specs.CodeMap.{range_at}
use Rattle.code_event.specs.Symbolizer.{holds, slot_frames, range_frames, frames_at}
use Rattle.code_event.specs.declared.code_map.Range.{Range}
use Rattle.code_event.specs.declared.seen.ResolvedFrame.{ResolvedFrame}
use Rattle.code_map.specs.declared.found.Found.{Found}
use Rattle.code_map.specs.Objects.{found_in}
use Rattle.code_map.specs.Parts.{MapParts}
use Rattle.code_map.specs.CodeMap.{HasRanges, found_at}
use Rattle.code_map.proofs.FoundCode.{found_starts}
use Rattle.symbolizer.specs.Paths.{found_frames}

-- the functions at a slot of the range that is held, if one is
frames_in : ℕ → Option Range → List ResolvedFrame
frames_in slot held = option_map_or (λ r. option_map_or (slot_frames r.layout) (slice_get r.layout.slots slot) []) held []

frames_held : (held : Option Range) (address : ℕ) (found : Found) → Some found ≡ option_map (found_in address) held → frames_in found.slot held ≡ option_map_or (range_frames address) held []
unfolding frames_in
frames_held None address found is = absurd (cc)
frames_held (Some range) address found is =
    let same : found ≡ found_in address range = cc in
    ap (λ f. option_map_or (slot_frames range.layout) (slice_get range.layout.slots f.slot) []) same

-- they are those at the address
pub found_frames-at : (map : MapParts) (ranges : List Range) (address : ℕ) (found : Found) → HasRanges map ranges → Some found ≡ found_at ranges address
    → found_frames ranges found ≡ frames_at ranges address
unfolding frames_in
found_frames-at map ranges address found of is =
    ap (frames_in found.slot) (ap (option_and_then (λ f. range_at ranges f.start)) is ∙ found_starts map ranges address of) ∙ frames_held (find (holds address) ranges) address found is
