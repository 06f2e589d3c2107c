-- The text of a profile's file: the members of `Profile` in the Chrome DevTools Protocol 1.3 as JSON (RFC 8259), with no space.
use Rattle.std.specs.Prelude.{ℕ, suc, zero, List, [], ◌∷◌, ◌++◌, map, codes, decimal, Option, Some, None}
use Rattle.std.specs.List.{join_with_byte}
use Rattle.json.specs.Print.{quoted}
use Rattle.prof_base.specs.declared.ids.SessionId.{SessionId}
use Rattle.code_event.specs.Seen.{Seen}
use Rattle.code_event.specs.Profile.{finished_of}
use Rattle.code_event.specs.declared.entry.Entry.{Entry}
use Rattle.code_event.specs.declared.profile.FinNode.{FinNode}
use Rattle.code_event.specs.declared.profile.LineTicks.{LineTicks}
use Rattle.code_event.specs.declared.profile.Finished.{Finished}
use Rattle.std.specs.Option.{option_map}

-- texts in brackets, with commas between
abbrev pub list_text : List (List ℕ) → List ℕ
list_text texts = codes "[" ++ join_with_byte 44 texts ++ codes "]"

-- a number that counts from 1, counted from 0; -1 for 0
abbrev pub from_zero : ℕ → List ℕ
from_zero zero = codes "-1"
from_zero (suc n) = decimal n

-- `Runtime.CallFrame`
abbrev pub call_frame_text : Entry → List ℕ
call_frame_text entry =
    codes "{\"functionName\":" ++ quoted entry.name ++ codes ",\"scriptId\":\"" ++ decimal entry.script ++ codes "\",\"url\":" ++ quoted entry.url
    ++ codes ",\"lineNumber\":" ++ from_zero entry.line ++ codes ",\"columnNumber\":" ++ from_zero entry.column ++ codes "}"

-- `PositionTickInfo`
abbrev pub line_text : LineTicks → List ℕ
line_text line = codes "{\"line\":" ++ decimal line.line ++ codes ",\"ticks\":" ++ decimal line.ticks ++ codes "}"

-- the ids of the children, where there are any
abbrev pub children_text : List ℕ → List ℕ
children_text [] = []
children_text (id ∷ ids) = codes ",\"children\":" ++ list_text (map decimal (id ∷ ids))

-- the lines, where there are any
abbrev pub lines_text : List LineTicks → List ℕ
lines_text [] = []
lines_text (line ∷ lines) = codes ",\"positionTicks\":" ++ list_text (map line_text (line ∷ lines))

-- the reason, where there is one and it is not empty
abbrev pub reason_text : Option (List ℕ) → List ℕ
reason_text None = []
reason_text (Some []) = []
reason_text (Some (b ∷ bytes)) = codes ",\"deoptReason\":" ++ quoted (b ∷ bytes)

-- `ProfileNode`
abbrev pub node_text : ℕ → FinNode → List ℕ
node_text id node =
    codes "{\"id\":" ++ decimal id ++ codes ",\"callFrame\":" ++ call_frame_text node.entry ++ codes ",\"hitCount\":" ++ decimal node.hits
    ++ children_text node.children ++ lines_text node.lines ++ reason_text node.reason ++ codes "}"

-- the nodes, of which the first has this id
abbrev pub node_texts : ℕ → List FinNode → List (List ℕ)
node_texts id [] = []
node_texts id (node ∷ nodes) = node_text id node ∷ node_texts (suc id) nodes

-- `Profile`
abbrev pub file_text : Finished → List ℕ
file_text profile =
    codes "{\"nodes\":" ++ list_text (node_texts 1 profile.nodes)
    ++ codes ",\"startTime\":" ++ decimal profile.start ++ codes ",\"endTime\":" ++ decimal profile.end
    ++ codes ",\"samples\":" ++ list_text (map decimal profile.samples) ++ codes ",\"timeDeltas\":" ++ list_text (map decimal profile.deltas) ++ codes "}"

-- the file of a session in what is seen, by the isolate's base
abbrev pub file : ℕ → SessionId → List Seen → Option (List ℕ)
file base session seen = option_map file_text (finished_of base session seen)
