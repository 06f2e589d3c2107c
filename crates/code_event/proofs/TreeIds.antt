-- The ids of a tree's nodes.
use Rattle.std.proofs.Common.{◌≡◌, List, [], ◌∷◌, length, map}
use Rattle.std.specs.Cmp.{IsTotalOrder}
use Rattle.std.proofs.lemmas.Cmp.{nat_cmp_total, nat_list_cmp_total, on_total, then_total, lists_total}
use Rattle.code_event.specs.declared.path.PathStep.{PathStep}
use Rattle.code_event.specs.declared.visit.Visit.{Visit}
use Rattle.code_event.specs.Tree.{path_step_cmp, path_cmp, with_paths, prefixes, nodes, id_of}
use Rattle.prof_base.specs.Ordered.{Rises, numbers_from}
use Rattle.prof_base.proofs.Ordered.{put_rises, places_number}

pub step_total : IsTotalOrder path_step_cmp
step_total =
    then_total (on_total (λ s. s.entry.name) nat_list_cmp_total)
    (then_total (on_total (λ s. s.entry.url) nat_list_cmp_total)
    (then_total (on_total (λ s. s.entry.script) nat_cmp_total)
    (then_total (on_total (λ s. s.entry.line) nat_cmp_total)
    (then_total (on_total (λ s. s.entry.column) nat_cmp_total)
    (on_total (λ s. s.call_line) nat_cmp_total)))))

pub path_total : IsTotalOrder path_cmp
path_total = lists_total step_total

with_paths_rises : (paths set : List (List PathStep)) → Rises path_cmp set → Rises path_cmp (with_paths paths set)
with_paths_rises [] set h = h
with_paths_rises (path ∷ paths) set h = put_rises path_cmp path_total path (with_paths paths set) (with_paths_rises paths set h)

pub nodes_rise : (visits : List Visit) → Rises path_cmp (nodes visits)
nodes_rise [] = (tt, tt)
nodes_rise (visit ∷ visits) = with_paths_rises (prefixes visit.path) (nodes visits) (nodes_rise visits)

pub ids_number_nodes : (visits : List Visit) → map (id_of (nodes visits)) (nodes visits) ≡ numbers_from 1 (length (nodes visits))
ids_number_nodes visits = places_number path_cmp path_total (nodes visits) (nodes_rise visits)
