-- What a finished profile becomes has its text.
use Rattle.std.proofs.Common.{◌≡◌, ℕ, zero, suc, ◌+◌, ◌-◌, ◌^◌, ◌<◌, min, List, [], ◌∷◌, ◌++◌, map, length, take, get_or, codes, decimal, Option, Some, None, refl, sym, ap, ap₂, ◌∙◌, subst, append_assoc, arith}
use Rattle.std.specs.List.{AllByRecursion}
use Rattle.std.specs.Fmt.{signed_decimal, digits}
use Rattle.json.specs.Print.{quoted}
use Rattle.code_event.specs.FileText.{from_zero, list_text, children_text, line_text, lines_text, reason_text, file_text}
use Rattle.code_event.specs.FileText as finished_text
use Rattle.code_event.specs.declared.entry.Entry.{Entry}
use Rattle.code_event.specs.declared.profile.FinNode.{FinNode}
use Rattle.code_event.specs.declared.profile.LineTicks.{LineTicks}
use Rattle.code_event.specs.declared.profile.Finished.{Finished}
use Rattle.cpuprofile.specs.declared.profile.Profile.{Profile}
use Rattle.cpuprofile.specs.Converted.{less_one, some_reason, file_ticks, file_node, file_nodes, file_delta, file_profile}
use Rattle.cpuprofile.specs.Given.{DeltasFit}
use Rattle.cpuprofile.specs.ProfileText.{call_frame_text, ticks_text, all_ticks_text, node_text, profile_text}
use Rattle.cpuprofile.proofs.Escapes.{escape-decimal}

line_same : (n : ℕ) → signed_decimal (less_one n) ≡ from_zero n
unfolding digits
line_same zero = refl
line_same (suc n) = refl

ticks_same : (lines : List LineTicks) → map ticks_text (map file_ticks lines) ≡ map line_text lines
ticks_same [] = refl
ticks_same (line ∷ lines) = ap (λ texts. line_text line ∷ texts) (ticks_same lines)

all_ticks_same : (lines : List LineTicks) → all_ticks_text (map file_ticks lines) ≡ lines_text lines
all_ticks_same [] = refl
all_ticks_same (line ∷ lines) = ap (λ texts. codes ",\"positionTicks\":" ++ list_text texts) (ticks_same (line ∷ lines))

reason_same : (reason : Option (List ℕ)) → reason_text (some_reason reason) ≡ reason_text reason
reason_same None = refl
reason_same (Some []) = refl
reason_same (Some (b ∷ bytes)) = refl

-- the quotes of a number stand with the number, or with the texts at its sides
quotes_moved : (front before number after : List ℕ) → front ++ before ++ (34 ∷ (number ++ 34 ∷ [])) ++ after ≡ front ++ (before ++ 34 ∷ []) ++ number ++ (34 ∷ after)
quotes_moved front before number after = simp append_assoc

call_frame_same : (id : ℕ) (node : FinNode) → call_frame_text (file_node id node) ≡ finished_text.call_frame_text node.entry
call_frame_same id node =
    let entry : Entry = node.entry in
    (λ i. codes "{\"functionName\":" ++ quoted entry.name ++ codes ",\"scriptId\":" ++ (34 ∷ (escape-decimal entry.script i ++ 34 ∷ [])) ++ codes ",\"url\":" ++ quoted entry.url
    ++ codes ",\"lineNumber\":" ++ line_same entry.line i ++ codes ",\"columnNumber\":" ++ line_same entry.column i ++ codes "}")
    ∙ ap (λ text. text ++ quoted entry.url ++ codes ",\"lineNumber\":" ++ from_zero entry.line ++ codes ",\"columnNumber\":" ++ from_zero entry.column ++ codes "}")
    (quotes_moved (codes "{\"functionName\":" ++ quoted entry.name) (codes ",\"scriptId\":") (decimal entry.script) (codes ",\"url\":"))

node_same : (id : ℕ) (node : FinNode) → node_text (file_node id node) ≡ finished_text.node_text id node
node_same id node =
    λ i. codes "{\"id\":" ++ decimal id ++ codes ",\"callFrame\":" ++ call_frame_same id node i ++ codes ",\"hitCount\":" ++ decimal node.hits
    ++ children_text node.children ++ all_ticks_same node.lines i ++ reason_same node.reason i ++ codes "}"

nodes_same : (id : ℕ) (nodes : List FinNode) → map node_text (file_nodes id nodes) ≡ finished_text.node_texts id nodes
nodes_same id [] = refl
nodes_same id (node ∷ nodes) = ap₂ (λ text texts. text ∷ texts) (node_same id node) (nodes_same (suc id) nodes)

delta_same : (delta : ℕ) → delta < 2 ^ 63 → min delta (2 ^ 63 - 1) ≡ delta
delta_same delta fits = omega arith

deltas_same : (deltas : List ℕ) → AllByRecursion (λ delta. delta < 2 ^ 63) deltas → map signed_decimal (map file_delta deltas) ≡ map decimal deltas
deltas_same [] fit = refl
deltas_same (delta ∷ deltas) fit = ap₂ (λ text texts. text ∷ texts) (ap decimal (delta_same delta fit.0)) (deltas_same deltas fit.1)

pub profile_same : (finished : Finished) (profile : Profile) → profile.nodes ≡ file_nodes 1 finished.nodes → profile.start ≡ finished.start → profile.end ≡ finished.end → profile.samples ≡ finished.samples → profile.deltas ≡ map file_delta finished.deltas → profile ≡ file_profile finished
profile_same finished profile nodes start end samples deltas = λ i. record { nodes = nodes i; start = start i; end = end i; samples = samples i; deltas = deltas i }

pub text_same : (finished : Finished) → DeltasFit finished → profile_text (file_profile finished) ≡ file_text finished
text_same finished fit =
    λ i. codes "{\"nodes\":" ++ list_text (nodes_same 1 finished.nodes i)
    ++ codes ",\"startTime\":" ++ decimal finished.start ++ codes ",\"endTime\":" ++ decimal finished.end
    ++ codes ",\"samples\":" ++ list_text (map decimal finished.samples) ++ codes ",\"timeDeltas\":" ++ list_text (deltas_same finished.deltas fit i) ++ codes "}"

pub file_nodes-more : (id : ℕ) (nodes : List FinNode) (i at : ℕ) (d : FinNode) → i < length nodes → at ≡ id + i → file_nodes id (take (suc i) nodes) ≡ file_nodes id (take i nodes) ++ file_node at (get_or nodes i d) ∷ []
file_nodes-more id [] i at d h e = absurd (omega arith)
file_nodes-more id (node ∷ nodes) zero at d h e =
    let same : id ≡ at = omega arith in
    ap (λ n. file_node n node ∷ []) same
file_nodes-more id (node ∷ nodes) (suc i) at d h e =
    ap (λ made. file_node id node ∷ made) (file_nodes-more (suc id) nodes i at d (omega arith) (omega arith))

-- one more node, as the loop over them makes it
pub file_nodes-push : (nodes : List FinNode) (i : ℕ) (node d : FinNode) → i < length nodes → node ≡ get_or nodes i d → file_nodes 1 (take (i + 1) nodes) ≡ file_nodes 1 (take i nodes) ++ file_node (i + 1) node ∷ []
file_nodes-push nodes i node d h e =
    let next : suc i ≡ i + 1 = omega arith in
    let P : ℕ → Type 0 = λ n. file_nodes 1 (take n nodes) ≡ file_nodes 1 (take i nodes) ++ file_node (i + 1) node ∷ [] in
    subst P next (file_nodes-more 1 nodes i (i + 1) d h (omega arith) ∙ ap (λ n. file_nodes 1 (take i nodes) ++ file_node (i + 1) n ∷ []) (sym e))
