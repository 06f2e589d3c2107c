-- Paths that grow by frames, oldest first.
use Rattle.std.specs.Prelude.{ℕ, List, [], ◌∷◌, ◌++◌, flat_map}
use Rattle.std.specs.Option.{option_map_or}
use Rattle.std.specs.List.{slice_get}
use Rattle.code_event.specs.Parts.{LayoutParts}
use Rattle.code_event.specs.Layout.{sites_above}
use Rattle.code_event.specs.CodeMap.{range_at}
use Rattle.code_event.specs.Symbolizer.{unit_frame, slot_frames, path, leaf_line}
use Rattle.code_event.specs.declared.code_map.Range.{Range}
use Rattle.code_event.specs.declared.event.Mode.TheVariants.{Leaf, Caller}
use Rattle.code_event.specs.declared.path.PathPair.{PathPair}
use Rattle.code_event.specs.declared.seen.ResolvedFrame.{ResolvedFrame}
use Rattle.code_map.specs.declared.found.Found.{Found}

-- the paths of resolved frames
abbrev pub paths_of : List ResolvedFrame → PathPair
paths_of frames = record { leaf = path Leaf frames; caller = path Caller frames; leaf_line = leaf_line frames }

-- the paths of no frames
abbrev pub no_paths : PathPair
no_paths = record { leaf = []; caller = []; leaf_line = 0 }

-- the paths with one frame more
abbrev pub with_frame : PathPair → ResolvedFrame → PathPair
with_frame paths frame =
    record {
      leaf = paths.leaf ++ record { entry = frame.entry; call_line = 0 } ∷ [];
      caller = paths.caller ++ record { entry = frame.entry; call_line = paths.leaf_line } ∷ [];
      leaf_line = frame.line;
    }

-- the paths with these frames more
abbrev pub with_frames : PathPair → List ResolvedFrame → PathPair
with_frames paths [] = paths
with_frames paths (frame ∷ frames) = with_frames (with_frame paths frame) frames

-- the unit with this number at this line, and those above, at most this many
abbrev pub unit_frames : LayoutParts → ℕ → ℕ → ℕ → List ResolvedFrame
unit_frames layout most number line = unit_frame layout number line ++ flat_map (λ site. unit_frame layout site.unit site.line) (sites_above most layout.units number)

-- the functions at a place of the code, youngest first
abbrev pub found_frames : List Range → Found → List ResolvedFrame
found_frames ranges found = option_map_or (λ r. option_map_or (slot_frames r.layout) (slice_get r.layout.slots found.slot) []) (range_at ranges found.start) []
