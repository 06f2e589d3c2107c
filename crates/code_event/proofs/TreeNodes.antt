-- Which nodes a tree has: exactly the prefixes of the ticks' paths, of which the root is the first.
use Rattle.std.proofs.Common.{◌≡◌, ◌↔◌, ◌≤◌, List, [], ◌∷◌, length, map, ◌⊎◌, inl, inr, refl, sym, subst, arith, append-nil, Some}
use Rattle.std.specs.List.{Contains, slice_get, All, AllByRecursion}
use Rattle.std.proofs.lemmas.List.Elements.{All-from_recursion}
use Rattle.code_event.specs.Profile.{samples}
use Rattle.code_event.specs.declared.path.PathStep.{PathStep}
use Rattle.code_event.specs.declared.visit.Visit.{Visit}
use Rattle.code_event.specs.Tree.{path_cmp, with_paths, prefixes, nodes, id_of}
use Rattle.code_event.specs.TreeLaws.{BeginsSome}
use Rattle.prof_base.specs.Prefix.{IsPrefix}
use Rattle.prof_base.specs.Ordered.{insert_sorted}
use Rattle.prof_base.proofs.Ordered.{Has, has_from_contains, contains_from_has, has_put, put_has, put_keeps, before_within}
use Rattle.code_event.proofs.TreeIds.{path_total}
use Rattle.code_event.proofs.TreePaths.{exact_path, is_prefix_from_has, has_from_is_prefix}

has_with_paths : (paths set : List (List PathStep)) (node : List PathStep) → Has (with_paths paths set) node → Has paths node ⊎ Has set node
has_with_paths [] set node h = inr h
has_with_paths (path ∷ paths) set node h = elim (has_put path_cmp path node (with_paths paths set) h) [
  | inl same ↦ inl (inl same)
  | inr more ↦ elim (has_with_paths paths set node more) [ inl later ↦ inl (inr later) | inr old ↦ inr old ]
]

with_paths_keeps : (paths set : List (List PathStep)) (node : List PathStep) → Has set node → Has (with_paths paths set) node
with_paths_keeps [] set node h = h
with_paths_keeps (path ∷ paths) set node h = put_keeps path_cmp path node (with_paths paths set) (with_paths_keeps paths set node h)

with_paths_has : (paths set : List (List PathStep)) (node : List PathStep) → Has paths node → Has (with_paths paths set) node
with_paths_has [] set node h = absurd h
with_paths_has (path ∷ paths) set node (inl same) = subst (Has (insert_sorted path_cmp path (with_paths paths set))) same (put_has path_cmp exact_path path (with_paths paths set))
with_paths_has (path ∷ paths) set node (inr h) = put_keeps path_cmp path node (with_paths paths set) (with_paths_has paths set node h)

begins_later : (node : List PathStep) (visit : Visit) (visits : List Visit) → BeginsSome node visits → BeginsSome node (visit ∷ visits)
begins_later node visit visits h = (h.0, contains_from_has (visit ∷ visits) h.0 (inr (has_from_contains visits h.0 h.1)), h.2)

begins_first : (node : List PathStep) (visit : Visit) (visits : List Visit) → IsPrefix node visit.path → BeginsSome node (visit ∷ visits)
begins_first node visit visits h = (visit, contains_from_has (visit ∷ visits) visit (inl refl), h)

pub begins_from_has : (visits : List Visit) (node : List PathStep) → Has (nodes visits) node → (node ≡ []) ⊎ BeginsSome node visits
begins_from_has [] node (inl same) = inl (sym same)
begins_from_has [] node (inr h) = absurd h
begins_from_has (visit ∷ visits) node h = elim (has_with_paths (prefixes visit.path) (nodes visits) node h) [
  | inl new ↦ inr (begins_first node visit visits (is_prefix_from_has visit.path node new))
  | inr old ↦ elim (begins_from_has visits node old) [ inl root ↦ inl root | inr begins ↦ inr (begins_later node visit visits begins) ]
]

has_root : (visits : List Visit) → Has (nodes visits) []
has_root [] = inl refl
has_root (visit ∷ visits) = with_paths_keeps (prefixes visit.path) (nodes visits) [] (has_root visits)

has_begun : (visits : List Visit) (node : List PathStep) (visit : Visit) → Has visits visit → IsPrefix node visit.path → Has (nodes visits) node
has_begun [] node visit h begins = absurd h
has_begun (other ∷ visits) node visit (inl same) begins =
    with_paths_has (prefixes other.path) (nodes visits) node (has_from_is_prefix other.path node (subst (λ v. IsPrefix node v.path) (sym same) begins))
has_begun (other ∷ visits) node visit (inr h) begins = with_paths_keeps (prefixes other.path) (nodes visits) node (has_begun visits node visit h begins)

pub has_from_begins : (visits : List Visit) (node : List PathStep) → (node ≡ []) ⊎ BeginsSome node visits → Has (nodes visits) node
has_from_begins visits node (inl root) = subst (Has (nodes visits)) (sym root) (has_root visits)
has_from_begins visits node (inr begins) = has_begun visits node begins.0 (has_from_contains visits begins.0 begins.1) begins.2

pub nodes_begin_paths : (visits : List Visit) (node : List PathStep) → Contains (nodes visits) node ↔ ((node ≡ []) ⊎ BeginsSome node visits)
nodes_begin_paths visits node = (
  λ h. begins_from_has visits node (has_from_contains (nodes visits) node h),
  λ h. contains_from_has (nodes visits) node (has_from_begins visits node h),
)

root_kept : (path : List PathStep) (rest : List (List PathStep)) → slice_get (insert_sorted path_cmp path ([] ∷ rest)) 0 ≡ Some []
root_kept [] rest = refl
root_kept (step ∷ steps) rest = refl

insert_root : (path : List PathStep) (set : List (List PathStep)) → slice_get set 0 ≡ Some [] → slice_get (insert_sorted path_cmp path set) 0 ≡ Some []
insert_root path [] e = absurd (cc)
insert_root path (other ∷ rest) e = let same : other ≡ [] = cc in subst (λ first. slice_get (insert_sorted path_cmp path (first ∷ rest)) 0 ≡ Some []) (sym same) (root_kept path rest)

with_paths_root : (paths set : List (List PathStep)) → slice_get set 0 ≡ Some [] → slice_get (with_paths paths set) 0 ≡ Some []
with_paths_root [] set e = e
with_paths_root (path ∷ paths) set e = insert_root path (with_paths paths set) (with_paths_root paths set e)

pub root_first : (visits : List Visit) → slice_get (nodes visits) 0 ≡ Some []
root_first [] = refl
root_first (visit ∷ visits) = with_paths_root (prefixes visit.path) (nodes visits) (root_first visits)

pub path_stands : (visits : List Visit) (visit : Visit) → Has visits visit → Has (nodes visits) visit.path
path_stands visits visit h = has_begun visits visit.path visit h ([], sym (append-nil visit.path))

samples_of : (visits some : List Visit) → ((visit : Visit) → Has some visit → Has visits visit)
    → AllByRecursion (λ id. (1 ≤ id) × (id ≤ length (nodes visits))) (map (λ visit. id_of (nodes visits) visit.path) some)
samples_of visits [] all = tt
samples_of visits (visit ∷ some) all =
    let less = before_within path_cmp path_total visit.path (nodes visits) (path_stands visits visit (all visit (inl refl))) in
    ((omega arith, omega (arith, less)), samples_of visits some (λ other h. all other (inr h)))

pub samples_within : (visits : List Visit) → All (λ id. (1 ≤ id) × (id ≤ length (nodes visits))) (samples visits)
samples_within visits = All-from_recursion (λ id. (1 ≤ id) × (id ≤ length (nodes visits))) (samples visits) (samples_of visits visits (λ visit h. h))
