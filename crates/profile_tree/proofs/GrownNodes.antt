-- What can be seen of nodes, as they change.
use Rattle.std.proofs.Common.{◌≡◌, ℕ, ◌+◌, ◌<◌, List, [], ◌∷◌, ◌++◌, length, map, set, refl, sym, ap, ap₂, ◌∙◌, arith}
use Rattle.std.specs.Prelude.{Some, None}
use Rattle.std.specs.List.{insert}
use Rattle.std.proofs.lemmas.List.{map-set, set-get_or, get_or-map, map_push}
use Rattle.code_event.specs.declared.path.PathStep.{PathStep}
use Rattle.profile_tree.specs.Node.{LinkedNode, fresh, counted, with_line}
use Rattle.profile_tree.specs.Arena.{node_at, with_child, with_last}
use Rattle.profile_tree.specs.Linked.{path_at, paths_of, Linked}
use Rattle.profile_tree.specs.Grown.{Counts, counts, Grown, grown, no_counts, with_hit}
use Rattle.profile_tree.proofs.PathsAfter.{paths_of-set, length-paths_of}

same_grown : (paths others : List (List PathStep)) (one other : List Counts) → paths ≡ others → one ≡ other → ◌≡◌ {A = Grown} (record { paths = paths; counts = one }) (record { paths = others; counts = other })
same_grown paths others one other p c = ap₂ {C = Grown} (λ p c. record { paths = p; counts = c }) p c

pub grown-counted : (nodes : List LinkedNode) (key line : ℕ) → key < length nodes → grown (set nodes key (counted (node_at nodes key) line)) ≡ with_hit (grown nodes) key line
grown-counted nodes key line low =
    same_grown _ _ _ _ (paths_of-set nodes key (counted (node_at nodes key) line) refl refl)
    (map-set counts nodes key (counted (node_at nodes key) line)
    ∙ ap {A = Counts} (λ before. set (map counts nodes) key (record { hits = before.hits + 1; lines = with_line line before.lines }))
    (sym (get_or-map counts nodes key (fresh 0 None) no_counts low)))

-- a write that keeps links and counts
pub grown-with_last : (nodes : List LinkedNode) (key child : ℕ) → key < length nodes → grown (with_last nodes key child) ≡ grown nodes
grown-with_last nodes key child low =
    let node : LinkedNode = record (node_at nodes key) { last = Some child } in
    same_grown _ _ _ _ (paths_of-set nodes key node refl refl)
    (map-set counts nodes key node ∙ ap (set (map counts nodes) key) (sym (get_or-map counts nodes key (fresh 0 None) no_counts low)) ∙ set-get_or (map counts nodes) key no_counts)

pub counts-with_child : (nodes : List LinkedNode) (parent at : ℕ) (step : PathStep) → parent < length nodes → map counts (with_child nodes parent at step) ≡ map counts nodes ++ no_counts ∷ []
counts-with_child nodes parent at step low =
    let put : LinkedNode = record (node_at nodes parent) { children = insert (node_at nodes parent).children at (length nodes) } in
    map_push counts (set nodes parent put) (fresh parent (Some step))
    ∙ ap (λ l. l ++ no_counts ∷ [])
    (map-set counts nodes parent put ∙ ap (set (map counts nodes) parent) (sym (get_or-map counts nodes parent (fresh 0 None) no_counts low)) ∙ set-get_or (map counts nodes) parent no_counts)

-- no other node has the path of this one
abbrev pub OneAlone : ℕ → Grown → Type 0
OneAlone key tree = (other : ℕ) → other < length tree.paths → path_at tree.paths other ≡ path_at tree.paths key → other ≡ key

pub alone_in : (nodes : List LinkedNode) (key : ℕ) → Linked nodes → key < length (paths_of nodes) → OneAlone key (grown nodes)
alone_in nodes key linked low other within e = linked.distinct other key (omega (arith, within, length-paths_of nodes)) (omega (arith, low, length-paths_of nodes)) e
