-- A linked tree stands for its visits as one is added.
use Rattle.std.proofs.Common.{◌≡◌, ◌↔◌, ℕ, ◌+◌, ◌<◌, List, [], ◌∷◌, ◌++◌, length, map, get_or, set, inl, inr, true, false, sym, ap, ◌∙◌, subst, arith}
use Rattle.std.specs.Prelude.{Some}
use Rattle.std.specs.List.{Contains, slice_get}
use Rattle.std.proofs.lemmas.List.{map-append, get_or_append_left, length-append, get_or-map}
use Rattle.std.proofs.lemmas.List.Elements.{Contains-append_left, Contains-append_cases, Contains-push_cases, Contains-push}
use Rattle.std.proofs.lemmas.Option.{slice_get-get_or, slice_get_within, get_or_from_slice_get}
use Rattle.prof_base.specs.Prefix.{IsPrefix}
use Rattle.prof_base.proofs.Ordered.{Has, contains_from_has}
use Rattle.code_event.specs.Tree.{nodes}
use Rattle.code_event.specs.TreeLaws.{BeginsSome}
use Rattle.code_event.specs.declared.path.PathStep.{PathStep}
use Rattle.code_event.specs.declared.visit.Visit.{Visit}
use Rattle.code_event.proofs.TreeNodes.{nodes_begin_paths, path_stands}
use Rattle.profile_tree.specs.Node.{with_line}
use Rattle.profile_tree.specs.Linked.{path_at}
use Rattle.profile_tree.specs.Grown.{Grown, Counts, counts_of, no_counts, GrowsAlong, with_hit, StandsFor, Names}
use Rattle.profile_tree.specs.declared.node_ref.NodeRef.{NodeRef}
use Rattle.profile_tree.proofs.RisingLists.{map_alike}
use Rattle.profile_tree.proofs.GrownNodes.{OneAlone}
use Rattle.profile_tree.proofs.VisitCounts.{counts_of-none, counts_unchanged, counts_hit}

-- ---- names

slice_get-longer : {X : Type 0} (xs ys : List X) (k : ℕ) (x : X) → slice_get xs k ≡ Some x → slice_get (xs ++ ys) k ≡ Some x
slice_get-longer xs ys k x e =
    let low : k < length xs = slice_get_within xs k x e in
    slice_get-get_or (xs ++ ys) k x (omega (arith, low, length-append xs ys)) ∙ ap (λ y. Some y) (get_or_append_left xs ys x k low ∙ get_or_from_slice_get xs k x x e)

pub names_at : (tree : Grown) (key : ℕ) (path : List PathStep) → slice_get tree.paths key ≡ Some path → Names tree (record { key = key }) path
unfolding Names
names_at tree key path e = e

pub names_kept : (old new : Grown) (more : List (List PathStep)) → new.paths ≡ old.paths ++ more → (reference : NodeRef) (named : List PathStep) → Names old reference named → Names new reference named
unfolding Names
names_kept old new more paths reference named e =
    subst (λ l. slice_get l reference.key ≡ Some named) (sym paths) (slice_get-longer old.paths more reference.key named e)

-- ---- visits

pub nodes_of : (tree : Grown) (visits : List Visit) → StandsFor tree visits → (node : List PathStep) → Contains tree.paths node ↔ Contains (nodes visits) node
unfolding StandsFor
nodes_of tree visits stands = stands.0

pub all_counts : (tree : Grown) (visits : List Visit) → StandsFor tree visits → tree.counts ≡ map (counts_of visits) tree.paths
unfolding StandsFor
all_counts tree visits stands = stands.1

stands_by : (tree : Grown) (visits : List Visit) → ((node : List PathStep) → Contains tree.paths node ↔ Contains (nodes visits) node) → tree.counts ≡ map (counts_of visits) tree.paths → StandsFor tree visits
unfolding StandsFor
stands_by tree visits all same = (all, same)

module _ (old new : Grown) (visits : List Visit) (visit : Visit) (key : ℕ) (stands : StandsFor old visits) (along : GrowsAlong old new visit.path key) where
  abbrev after : List Visit
  after = visits ++ visit ∷ []

  begins_before : (node : List PathStep) → BeginsSome node visits → BeginsSome node after
  begins_before node h = (h.0, Contains-append_left visits (visit ∷ []) h.0 h.1, h.2)

  begins_last : (node : List PathStep) → IsPrefix node visit.path → BeginsSome node after
  begins_last node h = (visit, Contains-push visits visit, h)

  node_stands : (node : List PathStep) → Contains new.paths node → Contains (nodes after) node
  node_stands node h = elim (Contains-append_cases old.paths along.more node (subst (λ l. Contains l node) along.grown.paths h)) [
    | inl was ↦ elim ((nodes_begin_paths visits node).0 ((nodes_of old visits stands node).0 was)) [
      | inl root ↦ (nodes_begin_paths after node).1 (inl root)
      | inr begins ↦ (nodes_begin_paths after node).1 (inr (begins_before node begins))
    ]
    | inr made ↦ (nodes_begin_paths after node).1 (inr (begins_last node (along.alone node made)))
  ]

  old_there : (node : List PathStep) → Contains (nodes visits) node → Contains new.paths node
  old_there node h = subst (λ l. Contains l node) (sym along.grown.paths) (Contains-append_left old.paths along.more node ((nodes_of old visits stands node).1 h))

  node_there : (node : List PathStep) → Contains (nodes after) node → Contains new.paths node
  node_there node h = elim ((nodes_begin_paths after node).0 h) [
    | inl root ↦ old_there node ((nodes_begin_paths visits node).1 (inl root))
    | inr begins ↦ elim (Contains-push_cases visits visit begins.0 begins.1) [
      | inl was ↦ old_there node ((nodes_begin_paths visits node).1 (inr (begins.0, was, begins.2)))
      | inr last ↦ along.whole node (subst (λ v. IsPrefix node v.path) (sym last) begins.2)
    ]
  ]

  all_nodes : (node : List PathStep) → Contains new.paths node ↔ Contains (nodes after) node
  all_nodes node = (node_stands node, node_there node)

  -- a new node has no hits yet
  made_counts : (node : List PathStep) → Has along.more node → no_counts ≡ counts_of visits node
  made_counts node made =
      sym (counts_of-none visits node
      (λ v has e. along.grown.unseen node (contains_from_has along.more node made)
      ((nodes_of old visits stands node).1 (contains_from_has (nodes visits) node (subst (Has (nodes visits)) e (path_stands visits v has))))))

  before_hit : new.counts ≡ map (counts_of visits) new.paths
  before_hit =
      along.grown.counts ∙ ap (λ l. l ++ map (λ p. no_counts) along.more) (all_counts old visits stands)
      ∙ ap (λ l. map (counts_of visits) old.paths ++ l) (map_alike (λ p. no_counts) (counts_of visits) along.more made_counts)
      ∙ sym (map-append (counts_of visits) old.paths along.more) ∙ ap (map (counts_of visits)) (sym along.grown.paths)

  pub stands_unhit : visit.hit ≡ false → StandsFor new after
  stands_unhit unhit = stands_by new after all_nodes (before_hit ∙ counts_unchanged visits visit new.paths unhit)

  pub stands_hit : visit.hit ≡ true → OneAlone key new → StandsFor (with_hit new key visit.line) after
  stands_hit hit alone =
      let low : key < length new.paths = slice_get_within new.paths key visit.path along.named in
      let named : path_at new.paths key ≡ visit.path = get_or_from_slice_get new.paths key visit.path [] along.named in
      let here : get_or (map (counts_of visits) new.paths) key no_counts ≡ counts_of visits visit.path = get_or-map (counts_of visits) new.paths key [] no_counts low ∙ ap (counts_of visits) named in
      stands_by (with_hit new key visit.line) after all_nodes
      (ap {B = List Counts} (λ l. set l key (record { hits = (get_or l key no_counts).hits + 1; lines = with_line visit.line (get_or l key no_counts).lines })) before_hit
      ∙ ap {A = Counts} {B = List Counts} (λ b. set (map (counts_of visits) new.paths) key (record { hits = b.hits + 1; lines = with_line visit.line b.lines })) here
      ∙ counts_hit visits visit new.paths key hit low named alone)
