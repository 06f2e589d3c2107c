-- The tree of a profile: the set of all prefixes of all paths.
use Rattle.std.specs.Prelude.{ℕ, suc, List, [], ◌∷◌, length, map, take, filter, count_by, Bool, ◌&&◌, ◌==◌, nat_lt, codes, if◌then◌else◌}
use Rattle.std.specs.declared.cmp.Ordering.{Ordering}
use Rattle.std.specs.Ordering.{is_lt, is_eq, ordering_then, nat_cmp}
use Rattle.std.specs.Cmp.Lexicographic.{slice_cmp}
use Rattle.prof_base.specs.Ordered.{insert_sorted, place}
use Rattle.code_event.specs.DeoptReasons.{DeoptReasons}
use Rattle.code_event.specs.Symbolizer.{special}
use Rattle.code_event.specs.declared.entry.Entry.{Entry}
use Rattle.code_event.specs.declared.path.PathStep.{PathStep}
use Rattle.code_event.specs.declared.visit.Visit.{Visit}
use Rattle.code_event.specs.declared.profile.FinNode.{FinNode}
use Rattle.code_event.specs.declared.profile.LineTicks.{LineTicks}

-- texts by their bytes
abbrev pub text_cmp : List ℕ → List ℕ → Ordering
text_cmp one other = slice_cmp nat_cmp one other

-- by name, url, script, line, column and the line of the call
abbrev pub path_step_cmp : PathStep → PathStep → Ordering
path_step_cmp one other =
    ordering_then (text_cmp one.entry.name other.entry.name)
    (ordering_then (text_cmp one.entry.url other.entry.url)
    (ordering_then (nat_cmp one.entry.script other.entry.script)
    (ordering_then (nat_cmp one.entry.line other.entry.line)
    (ordering_then (nat_cmp one.entry.column other.entry.column)
    (nat_cmp one.call_line other.call_line)))))

-- a proper prefix first, else by the first step that differs
abbrev pub path_cmp : List PathStep → List PathStep → Ordering
path_cmp one other = slice_cmp path_step_cmp one other

abbrev pub is_before : List PathStep → List PathStep → Bool
is_before one other = is_lt (path_cmp one other)

abbrev pub same_path : List PathStep → List PathStep → Bool
same_path one other = is_eq (path_cmp one other)

-- all prefixes, including the empty one and the whole path
abbrev pub prefixes : {A : Type 0} → List A → List (List A)
prefixes [] = [] ∷ []
prefixes (x ∷ xs) = [] ∷ map (λ prefix. x ∷ prefix) (prefixes xs)

-- a set of paths, each once and in order, with more of them
abbrev pub with_paths : List (List PathStep) → List (List PathStep) → List (List PathStep)
with_paths [] set = set
with_paths (path ∷ paths) set = insert_sorted path_cmp path (with_paths paths set)

-- the nodes: all prefixes of all paths, and the empty path in any case, each once and in order
abbrev pub nodes : List Visit → List (List PathStep)
nodes [] = [] ∷ []
nodes (visit ∷ visits) = with_paths (prefixes visit.path) (nodes visits)

-- a node's id: its place among the nodes
abbrev pub id_of : List (List PathStep) → List PathStep → ℕ
id_of nodes node = place path_cmp nodes node

-- a tick is a hit of a node: it counts, and has exactly that path
abbrev pub hits_node : List PathStep → Visit → Bool
hits_node node visit = visit.hit && same_path visit.path node

-- how many hits a node has
abbrev pub hits : List Visit → List PathStep → ℕ
hits visits node = count_by (hits_node node) visits

-- how many of them were at this line
abbrev pub hits_at : List Visit → List PathStep → ℕ → ℕ
hits_at visits node line = count_by (λ visit. hits_node node visit && visit.line == line) visits

-- the lines above 0 of a node's hits, each once and rising
abbrev pub hit_lines : List Visit → List PathStep → List ℕ
hit_lines [] node = []
hit_lines (visit ∷ visits) node =
    if hits_node node visit && nat_lt 0 visit.line then insert_sorted nat_cmp visit.line (hit_lines visits node) else hit_lines visits node

-- the hits of a node by its lines
abbrev pub line_ticks : List Visit → List PathStep → List LineTicks
line_ticks visits node = map (λ line. record { line = line; ticks = hits_at visits node line }) (hit_lines visits node)

-- one node is directly below another: it is one step longer
abbrev pub is_below : List PathStep → List PathStep → Bool
is_below parent node = length node == suc (length parent) && same_path (take (length parent) node) parent

-- the ids of the nodes directly below, in order
abbrev pub children : List (List PathStep) → List PathStep → List ℕ
children nodes parent = map (id_of nodes) (filter (is_below parent) nodes)

-- what a node is named by: its last step, or the root
abbrev pub node_entry : List PathStep → Entry
node_entry [] = special (codes "(root)")
node_entry (step ∷ []) = step.entry
node_entry (step ∷ other ∷ steps) = node_entry (other ∷ steps)

-- a node of the finished tree
abbrev pub fin_node : List (List PathStep) → List Visit → DeoptReasons → List PathStep → FinNode
fin_node nodes visits reasons node =
    record {
      entry = node_entry node;
      reason = reasons (node_entry node);
      hits = hits visits node;
      children = children nodes node;
      lines = line_ticks visits node;
    }

-- the finished nodes, in order
abbrev pub fin_nodes : List Visit → DeoptReasons → List FinNode
fin_nodes visits reasons = map (fin_node (nodes visits) visits reasons) (nodes visits)
