-- The finished nodes and samples are those of the definition.
use Rattle.std.proofs.Common.{◌≡◌, ℕ, ◌<◌, ◌^◌, List, [], ◌∷◌, ◌++◌, length, map, get_or, refl, sym, ap, ap₂, ◌∙◌, subst, arith, inl, inr}
use Rattle.std.specs.Prelude.{None, slice_index}
use Rattle.std.specs.List.{All, AllZip}
use Rattle.std.proofs.lemmas.Bool.{cases_eq}
use Rattle.std.proofs.lemmas.List.{get_or-map}
use Rattle.std.proofs.lemmas.List.Elements.{All-weaker, All-map, Contains-get_or}
use Rattle.std.proofs.lemmas.Option.{slice_get_within, get_or_from_slice_get}
use Rattle.std.proofs.lemmas.Simd.{map-map}
use Rattle.prof_base.proofs.Ordered.{contains_from_has}
use Rattle.code_event.specs.DeoptReasons.{no_reasons}
use Rattle.code_event.specs.Tree.{nodes, id_of, node_entry, fin_node, fin_nodes}
use Rattle.code_event.specs.declared.path.PathStep.{PathStep}
use Rattle.code_event.specs.declared.visit.Visit.{Visit}
use Rattle.profile_tree.specs.Node.{LinkedNode, fresh, step_entry}
use Rattle.profile_tree.specs.Arena.{node_at}
use Rattle.profile_tree.specs.Linked.{path_at, paths_of, Linked}
use Rattle.profile_tree.specs.Walk.{IsPreorder, AreIds, finished_node}
use Rattle.profile_tree.specs.Grown.{counts, counts_of, no_counts, grown, StandsFor, Names, NamesSome}
use Rattle.profile_tree.specs.declared.node_ref.NodeRef.{NodeRef}
use Rattle.profile_tree.proofs.PathsAfter.{length-paths_of}
use Rattle.profile_tree.proofs.RisingLists.{map_alike}
use Rattle.profile_tree.proofs.Standing.{all_counts}
use Rattle.profile_tree.proofs.NodeOrder.{order_of_nodes, id_at, children_at}

node_entry-push : (front : List PathStep) (step : PathStep) → node_entry (front ++ step ∷ []) ≡ step.entry
node_entry-push [] step = refl
node_entry-push (x ∷ []) step = refl
node_entry-push (x ∷ y ∷ front) step = node_entry-push (y ∷ front) step

pub named_within : (tree : List LinkedNode) (reference : NodeRef) (path : List PathStep) → Names (grown tree) reference path → reference.key < length tree
unfolding Names
named_within tree reference path e = omega (arith, slice_get_within (paths_of tree) reference.key path e, length-paths_of tree)

named_path : (tree : List LinkedNode) (reference : NodeRef) (path : List PathStep) → Names (grown tree) reference path → path_at (paths_of tree) reference.key ≡ path
unfolding Names
named_path tree reference path e = get_or_from_slice_get (paths_of tree) reference.key path [] e

module _ (tree : List LinkedNode) (linked : Linked tree) (order : List ℕ) (is : IsPreorder tree order) (ids : List ℕ) (are : AreIds order ids) (visits : List Visit) (stands : StandsFor (grown tree) visits) where
  abbrev path : ℕ → List PathStep
  path key = path_at (paths_of tree) key

  entry_at : (key : ℕ) → key < length tree → step_entry (node_at tree key).step ≡ node_entry (path key)
  entry_at key low = elim (cases_eq key 0) [
    | inl root ↦ ap (λ k. step_entry (node_at tree k).step) root ∙ ap step_entry linked.first ∙ sym (ap node_entry (ap path root ∙ linked.root))
    | inr inner ↦
        let placed = linked.placed key (omega arith) low in
        ap step_entry placed.by ∙ sym (ap node_entry placed.path ∙ node_entry-push (path (node_at tree key).parent) placed.step)
  ]

  counts_at : (key : ℕ) → key < length tree → counts (node_at tree key) ≡ counts_of visits (path key)
  counts_at key low =
      let within : key < length (paths_of tree) = omega (arith, low, length-paths_of tree) in
      sym (get_or-map counts tree key (fresh 0 None) no_counts low) ∙ ap (λ l. get_or l key no_counts) (all_counts (grown tree) visits stands)
      ∙ get_or-map (counts_of visits) (paths_of tree) key [] no_counts within

  finished_at : (key : ℕ) → key < length tree → finished_node ids (node_at tree key) ≡ fin_node (nodes visits) visits no_reasons (path key)
  finished_at key low =
      let entries = entry_at key low in
      let both = counts_at key low in
      let listed = children_at tree linked order is visits stands ids are key low in
      λ i. record {
        entry = entries i;
        reason = None;
        hits = (both i).hits;
        children = listed i;
        lines = (both i).lines;
      }

  pub finished_is : map (λ key. finished_node ids (node_at tree key)) order ≡ fin_nodes visits no_reasons
  finished_is =
      map_alike (λ key. finished_node ids (node_at tree key)) (λ key. fin_node (nodes visits) visits no_reasons (path key)) order
      (λ key has. let at = contains_from_has order key has in finished_at key (subst (λ k. k < length tree) at.2 (is.within at.0 key at.1)))
      ∙ sym (map-map (fin_node (nodes visits) visits no_reasons) path order)
      ∙ ap (map (fin_node (nodes visits) visits no_reasons)) (order_of_nodes tree linked order is visits stands)

  pub samples_are : (samples : List NodeRef) (paths : List (List PathStep)) → AllZip (Names (grown tree)) samples paths → map (λ reference. slice_index ids reference.key) samples ≡ map (id_of (nodes visits)) paths
  samples_are [] [] all = refl
  samples_are [] (p ∷ paths) all = absurd all
  samples_are (reference ∷ samples) [] all = absurd all
  samples_are (reference ∷ samples) (p ∷ paths) all =
      ap₂ (λ a l. a ∷ l)
      (id_at tree linked order is visits stands ids are reference.key (named_within tree reference p all.0) ∙ ap (id_of (nodes visits)) (named_path tree reference p all.0))
      (samples_are samples paths all.1)

pub samples_within : (tree : List LinkedNode) (samples : List NodeRef) → All (NamesSome (grown tree)) samples → All (λ reference. reference.key < length tree) samples
samples_within tree samples all = All-weaker (NamesSome (grown tree)) (λ reference. reference.key < length tree) (λ reference named. named_within tree reference named.0 named.1) samples all

pub children_within : (tree : List LinkedNode) (key : ℕ) → Linked tree → key < length tree → All (λ child. child < length tree) (node_at tree key).children
children_within tree key linked low =
    λ k d within. (linked.children key (get_or (node_at tree key).children k d) low (Contains-get_or (node_at tree key).children k d within)).within

pub hits_within : (tree : List LinkedNode) → Linked tree → (ids order : List ℕ) → All (λ key. key < length tree) order → All (λ node. node.hits < 2 ^ 53) (map (λ key. finished_node ids (node_at tree key)) order)
hits_within tree linked ids order within =
    All-map (λ node. node.hits < 2 ^ 53) (λ key. finished_node ids (node_at tree key)) order
    (All-weaker (λ key. key < length tree) (λ key. (node_at tree key).hits < 2 ^ 53) (λ key low. linked.few_hits key low) order within)
