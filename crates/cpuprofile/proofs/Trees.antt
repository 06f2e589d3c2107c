-- The nodes that the definitions give are a tree, and their numbers are exact.
use Rattle.std.proofs.Common.{◌≡◌, ℕ, zero, suc, ◌+◌, ◌-◌, ◌<◌, ◌≤◌, ◌^◌, List, [], ◌∷◌, ◌++◌, ◌⊎◌, inl, inr, map, drop, get_or, length, Some, refl, sym, ap, subst, ◌∙◌, arith}
use Rattle.std.specs.Prelude.{flat_map, IsPermutation, filter}
use Rattle.std.specs.List.{AllByRecursion, Contains, slice_get}
use Rattle.std.proofs.lemmas.List.{length-map}
use Rattle.std.proofs.lemmas.List.Sorted.{IsPermutation-sym, Contains-permutation}
use Rattle.prof_base.specs.Ordered.{numbers_from}
use Rattle.prof_base.proofs.Ordered.{Has, has_from_contains, contains_from_has}
use Rattle.code_event.specs.DeoptReasons.{DeoptReasons}
use Rattle.code_event.specs.Tree.{nodes, id_of, is_below, fin_node, fin_nodes, line_ticks}
use Rattle.code_event.specs.declared.path.PathStep.{PathStep}
use Rattle.code_event.specs.declared.visit.Visit.{Visit}
use Rattle.code_event.specs.declared.profile.FinNode.{FinNode}
use Rattle.code_event.proofs.Members.{filtered_passes}
use Rattle.code_event.proofs.TreeParents.{parents_first}
use Rattle.code_event.proofs.TreeIds.{ids_number_nodes}
use Rattle.code_event.proofs.TreeChildren.{children_listed}
use Rattle.code_event.proofs.TreeNodes.{root_first}
use Rattle.code_event.proofs.TreeHits.{lines_count_hits}
use Rattle.cpuprofile.specs.declared.profile.FileNode.{FileNode}
use Rattle.cpuprofile.specs.Converted.{file_ticks, file_node, file_nodes}
use Rattle.cpuprofile.specs.Given.{HasSmallNumbers}
use Rattle.cpuprofile.specs.Valid.{IsExact, HasExactTicks, HasExactNumbers, ids, AreDifferent, IsReachedOnce, IsTree}
use Rattle.cpuprofile.proofs.Each.{each_has, each_from, each_map, map_has, has_within_sum}
use Rattle.cpuprofile.proofs.Once.{times_in, found_next, numbers_within, within_numbers, numbers_differ, permuted_once}
use Rattle.cpuprofile.proofs.Walks.{all_children, has_first, has_second, has_either, ChildrenLater, one_walk, a_walk}

pub ids_numbered : (id : ℕ) (fins : List FinNode) → ids (file_nodes id fins) ≡ numbers_from id (length fins)
ids_numbered id [] = refl
ids_numbered id (fin ∷ fins) = ap (λ l. id ∷ l) (ids_numbered (suc id) fins)

children_kept : (id : ℕ) (fins : List FinNode) → all_children (file_nodes id fins) ≡ flat_map (λ node. node.children) fins
children_kept id [] = refl
children_kept id (fin ∷ fins) = ap (λ l. fin.children ++ l) (children_kept (suc id) fins)

-- what holds of each finished node, as of each node that these become
kept_each : (P : FinNode → Type 0) (Q : FileNode → Type 0) → ((id : ℕ) (fin : FinNode) → P fin → Q (file_node id fin)) → (id : ℕ) (fins : List FinNode) → AllByRecursion P fins → AllByRecursion Q (file_nodes id fins)
kept_each P Q keep id [] all = tt
kept_each P Q keep id (fin ∷ fins) all = (keep id fin all.0, kept_each P Q keep (suc id) fins all.1)

children_of_nodes : (fins : List FileNode) (node : FileNode) (child : ℕ) → Has fins node → Has node.children child → Has (all_children fins) child
children_of_nodes [] node child h own = absurd h
children_of_nodes (fin ∷ fins) node child (inl e) own = has_first fin.children (all_children fins) child (subst (λ n. Has n.children child) (sym e) own)
children_of_nodes (fin ∷ fins) node child (inr h) own = has_second fin.children (all_children fins) child (children_of_nodes fins node child h own)

small_children : (fins : List FileNode) (child : ℕ) → AllByRecursion HasSmallNumbers fins → Has (all_children fins) child → child < 2 ^ 32
small_children [] child all h = absurd h
small_children (fin ∷ fins) child all h = elim (has_either fin.children (all_children fins) child h) [
  | inl own ↦ each_has (λ id. id < 2 ^ 32) fin.children child all.0.children own
  | inr later ↦ small_children fins child all.1 later
]

-- ---- of some ticks

module _ (visits : List Visit) (reasons : DeoptReasons) where
  abbrev fins : List FinNode
  fins = fin_nodes visits reasons

  abbrev made : List FileNode
  made = file_nodes 1 fins

  abbrev count : ℕ
  count = length (nodes visits)

  length_fins : length fins ≡ count
  length_fins = length-map (nodes visits) (fin_node (nodes visits) visits reasons)

  pub made_ids : ids made ≡ numbers_from 1 count
  made_ids = ids_numbered 1 fins ∙ ap (numbers_from 1) length_fins

  listed : IsPermutation (all_children made) (numbers_from 2 (count - 1))
  listed = subst (λ l. IsPermutation l (numbers_from 2 (count - 1))) (sym (children_kept 1 fins)) (children_listed visits reasons)

  child_number : (child : ℕ) → Has (all_children made) child → Has (numbers_from 2 (count - 1)) child
  child_number child h = has_from_contains (numbers_from 2 (count - 1)) child (Contains-permutation (all_children made) (numbers_from 2 (count - 1)) child listed (contains_from_has (all_children made) child h))

  number_child : (child : ℕ) → Has (numbers_from 2 (count - 1)) child → Has (all_children made) child
  number_child child h =
      has_from_contains (all_children made) child
      (Contains-permutation (numbers_from 2 (count - 1)) (all_children made) child (IsPermutation-sym (all_children made) (numbers_from 2 (count - 1)) listed) (contains_from_has (numbers_from 2 (count - 1)) child h))

  pub made_differ : AreDifferent (ids made)
  made_differ = subst AreDifferent (sym made_ids) (numbers_differ 1 count)

  pub is_id : (id : ℕ) → 1 ≤ id → id ≤ count → Contains (ids made) id
  is_id id low high = contains_from_has (ids made) id (subst (λ l. Has l id) (sym made_ids) (within_numbers 1 count id low (omega arith)))

  id_within : (id : ℕ) → Has (ids made) id → (1 ≤ id) × (id < 1 + count)
  id_within id h = numbers_within 1 count id (subst (λ l. Has l id) made_ids h)

  pub children_are_ids : AllByRecursion (λ node. AllByRecursion (Contains (ids made)) node.children) made
  children_are_ids =
      each_from (λ node. AllByRecursion (Contains (ids made)) node.children) made
      (λ node h. each_from (Contains (ids made)) node.children
      (λ child own.
      let within = numbers_within 2 (count - 1) child (child_number child (children_of_nodes made node child h own)) in
      is_id child (omega (arith, within.0)) (omega (arith, within.0, within.1))))

  first_or_child : (id : ℕ) → Has (ids made) id → (1 ≡ id) ⊎ Has (all_children made) id
  first_or_child id h =
      let within = id_within id h in
      elim (found_next 1 id within.0) [
        | inl e ↦ inl e
        | inr more ↦ inr (number_child id (within_numbers 2 (count - 1) id more (omega (arith, within.1, more))))
      ]

  later_from : (paths : List (List PathStep)) (id : ℕ) → ((path : List PathStep) → Has paths path → Has (nodes visits) path) → map (id_of (nodes visits)) paths ≡ numbers_from id (length paths)
      → AllByRecursion ChildrenLater (file_nodes id (map (fin_node (nodes visits) visits reasons) paths))
  later_from [] id within e = tt
  later_from (path ∷ paths) id within e = (
    each_map (id_of (nodes visits)) (λ child. id < child) (filter (is_below path) (nodes visits))
        (λ below h.
        let first : id_of (nodes visits) path ≡ id = ap (λ l. get_or l 0 0) e in
        let less = parents_first visits path below (contains_from_has (nodes visits) path (within path (inl refl))) (filtered_passes (is_below path) (nodes visits) below h) in
        omega (arith, first, less)),
    later_from paths (suc id) (λ other h. within other (inr h)) (ap (λ l. drop 1 l) e),
  )

  children_later : AllByRecursion ChildrenLater made
  children_later = later_from (nodes visits) 1 (λ path h. h) (ids_number_nodes visits)

  tree_of : (all : List FileNode) → 1 ≤ length all → AllByRecursion ChildrenLater all → AreDifferent (ids all) → ((child : ℕ) → times_in (all_children all) child ≤ 1)
      → get_or (ids all) 0 0 ≡ 1 → ((id : ℕ) → Has (ids all) id → (1 ≡ id) ⊎ Has (all_children all) id) → IsTree all
  tree_of [] some later different once one each = absurd (omega arith)
  tree_of (first ∷ rest) some later different once one each =
      let all : List FileNode = first ∷ rest in
      each_from (λ node. IsReachedOnce all first.id node.id) all
      (λ node h.
      let walk = a_walk all first.id later different (λ id has. subst (λ n. (n ≡ id) ⊎ Has (all_children all) id) (sym one) (each id has)) node.id node.id (omega arith) (map_has (λ n. n.id) all node h) in
      record { walk = walk.0; ends = walk.1; alone = λ other ends. one_walk all first.id later once walk.0 other node.id walk.1 ends })

  some_paths : (paths : List (List PathStep)) → slice_get paths 0 ≡ Some [] → 1 ≤ length paths
  some_paths [] e = absurd (cc)
  some_paths (path ∷ paths) e = omega arith

  length_made : (id : ℕ) (all : List FinNode) → length (file_nodes id all) ≡ length all
  length_made id [] = refl
  length_made id (fin ∷ all) = ap (λ n. suc n) (length_made (suc id) all)

  first_number : (most : ℕ) → 1 ≤ most → get_or (numbers_from 1 most) 0 0 ≡ 1
  first_number zero h = absurd (omega arith)
  first_number (suc most) h = refl

  pub made_tree : IsTree made
  made_tree =
      let some : 1 ≤ count = some_paths (nodes visits) (root_first visits) in
      tree_of made (omega (arith, some, length_made 1 fins, length_fins)) children_later made_differ (permuted_once (all_children made) 2 (count - 1) listed)
      (ap (λ l. get_or l 0 0) made_ids ∙ first_number count some) first_or_child

  -- ---- numbers

  two_or_less : (n : ℕ) → (n ≤ 1) ⊎ (2 ≤ n)
  two_or_less n = grind arith

  few : AllByRecursion HasSmallNumbers made → count < 2 ^ 53
  few small = elim (two_or_less count) [
    | inl one ↦ omega arith
    | inr more ↦
        let last = small_children made count small (number_child count (within_numbers 2 (count - 1) count more (omega (arith, more)))) in
        omega (arith, last)
  ]

  ticks_within : AllByRecursion (λ fin. AllByRecursion (λ at. at.ticks ≤ fin.hits) fin.lines) fins
  ticks_within =
      each_map (fin_node (nodes visits) visits reasons) (λ fin. AllByRecursion (λ at. at.ticks ≤ fin.hits) fin.lines) (nodes visits)
      (λ path h. each_from (λ at. at.ticks ≤ (fin_node (nodes visits) visits reasons path).hits) (line_ticks visits path)
      (λ at has. omega (arith, has_within_sum (λ line. line.ticks) (line_ticks visits path) at has, lines_count_hits visits path)))

  abbrev TicksWithin : FileNode → Type 0
  TicksWithin node = AllByRecursion (λ at. at.ticks ≤ node.hits) node.ticks

  made_ticks : AllByRecursion TicksWithin made
  made_ticks =
      kept_each (λ fin. AllByRecursion (λ at. at.ticks ≤ fin.hits) fin.lines) TicksWithin
      (λ id fin all. each_map file_ticks (λ at. at.ticks ≤ fin.hits) fin.lines (λ at has. each_has (λ line. line.ticks ≤ fin.hits) fin.lines at all has)) 1 fins ticks_within

  pub made_numbers : AllByRecursion HasSmallNumbers made → AllByRecursion (λ fin. IsExact fin.hits) fins → AllByRecursion HasExactNumbers made
  made_numbers small exact =
      each_from HasExactNumbers made
      (λ node h.
      let own = each_has HasSmallNumbers made node small h in
      let hits = each_has (λ n. IsExact n.hits) made node (kept_each (λ fin. IsExact fin.hits) (λ n. IsExact n.hits) (λ id fin is. is) 1 fins exact) h in
      let within = each_has TicksWithin made node made_ticks h in
      let id = id_within node.id (map_has (λ n. n.id) made node h) in
      record {
        id = omega (arith, id.1, few small);
        line = own.line;
        column = own.column;
        hits = hits;
        ticks =
            each_from HasExactTicks node.ticks
            (λ at has. record {
              line = each_has (λ t. IsExact t.line) node.ticks at own.ticks has;
              ticks = let less : at.ticks ≤ node.hits = each_has (λ t. t.ticks ≤ node.hits) node.ticks at within has in omega (arith, less, hits);
            });
      })
