-- The text of a profile: the members of `Profile` in the Chrome DevTools Protocol 1.3 as JSON (RFC 8259), with no space.
use Rattle.std.specs.Prelude.{ℕ, zero, suc, List, [], ◌∷◌, ◌++◌, map, codes, decimal}
use Rattle.std.specs.Fmt.{signed_decimal}
use Rattle.json.specs.Print.{quoted}
use Rattle.code_event.specs.FileText.{list_text, children_text, reason_text}
use Rattle.cpuprofile.specs.declared.profile.FileNode.{FileNode}
use Rattle.cpuprofile.specs.declared.profile.FileTicks.{FileTicks}
use Rattle.cpuprofile.specs.declared.profile.Profile.{Profile}

-- `Runtime.CallFrame`
abbrev pub call_frame_text : FileNode → List ℕ
call_frame_text node =
    codes "{\"functionName\":" ++ quoted node.name ++ codes ",\"scriptId\":" ++ quoted node.script ++ codes ",\"url\":" ++ quoted node.url
    ++ codes ",\"lineNumber\":" ++ signed_decimal node.line ++ codes ",\"columnNumber\":" ++ signed_decimal node.column ++ codes "}"

-- `PositionTickInfo`
abbrev pub ticks_text : FileTicks → List ℕ
ticks_text ticks = codes "{\"line\":" ++ decimal ticks.line ++ codes ",\"ticks\":" ++ decimal ticks.ticks ++ codes "}"

-- the ticks by lines, where there are any
abbrev pub all_ticks_text : List FileTicks → List ℕ
all_ticks_text [] = []
all_ticks_text (first ∷ rest) = codes ",\"positionTicks\":" ++ list_text (map ticks_text (first ∷ rest))

-- `ProfileNode`
abbrev pub node_text : FileNode → List ℕ
node_text node =
    codes "{\"id\":" ++ decimal node.id ++ codes ",\"callFrame\":" ++ call_frame_text node ++ codes ",\"hitCount\":" ++ decimal node.hits
    ++ children_text node.children ++ all_ticks_text node.ticks ++ reason_text node.reason ++ codes "}"

-- `Profile`
abbrev pub profile_text : Profile → List ℕ
profile_text profile =
    codes "{\"nodes\":" ++ list_text (map node_text profile.nodes)
    ++ codes ",\"startTime\":" ++ decimal profile.start ++ codes ",\"endTime\":" ++ decimal profile.end
    ++ codes ",\"samples\":" ++ list_text (map decimal profile.samples) ++ codes ",\"timeDeltas\":" ++ list_text (map signed_decimal profile.deltas) ++ codes "}"

-- what comes before the item of a list at this place
abbrev pub comma_before : ℕ → List ℕ
comma_before zero = []
comma_before (suc before) = codes ","
