-- The order of all nodes is that of the definition, and so are its ids and children.
use Rattle.std.proofs.Common.{◌≡◌, ℕ, zero, suc, ◌+◌, ◌-◌, ◌<◌, List, [], ◌∷◌, ◌++◌, length, map, take, get_or, cond, ◌&&◌, Bool, true, false, true≢false, eq-eqb, ne_eqb, inl, inr, is_eq, refl, sym, ap, ap₂, ◌∙◌, subst, arith}
use Rattle.std.specs.Prelude.{slice_index}
use Rattle.std.specs.List.{Contains, filter}
use Rattle.std.proofs.lemmas.Bool.{cases_eq, cond_both}
use Rattle.std.proofs.lemmas.Cmp.{tied_itself}
use Rattle.std.proofs.lemmas.List.{length-map, length-append, get_or-map, get_or_default, take_at}
use Rattle.std.proofs.lemmas.List.Elements.{Contains-get_or}
use Rattle.std.proofs.lemmas.Simd.{map-map}
use Rattle.prof_base.specs.Ordered.{numbers_from}
use Rattle.prof_base.proofs.Ordered.{Has, has_from_contains, contains_from_has, places_number}
use Rattle.code_event.specs.Tree.{path_cmp, nodes, id_of, is_below, same_path, children}
use Rattle.code_event.specs.declared.path.PathStep.{PathStep}
use Rattle.code_event.specs.declared.visit.Visit.{Visit}
use Rattle.code_event.proofs.TreeIds.{path_total, nodes_rise}
use Rattle.code_event.proofs.TreePaths.{parent_is_prefix}
use Rattle.profile_tree.specs.Node.{LinkedNode}
use Rattle.profile_tree.specs.Arena.{node_at}
use Rattle.profile_tree.specs.Linked.{path_at, paths_of, Linked}
use Rattle.profile_tree.specs.Walk.{IsPreorder, AreIds}
use Rattle.profile_tree.specs.Grown.{grown, StandsFor}
use Rattle.profile_tree.proofs.PathsAfter.{length-paths_of}
use Rattle.profile_tree.proofs.RisingLists.{map_alike, has_mapped, mapped_has, same_rising, filter_rises}
use Rattle.profile_tree.proofs.Standing.{nodes_of}

-- ---- what a filter keeps

module _ {K : Type 0} (p : K → Bool) where
  pub filter_has : (xs : List K) (x : K) → Has xs x → p x ≡ true → Has (filter p xs) x
  filter_has [] x h e = absurd h
  filter_has (y ∷ ys) x (inl same) e = subst (λ b. Has (cond b (y ∷ filter p ys) (filter p ys)) x) (sym (ap p same ∙ e)) (inl same)
  filter_has (y ∷ ys) x (inr h) e = cond_both (p y) (y ∷ filter p ys) (filter p ys) (λ l. Has l x) (λ t. inr (filter_has ys x h e)) (λ t. filter_has ys x h e)

  pub has_filter : (xs : List K) (x : K) → Has (filter p xs) x → Has xs x × (p x ≡ true)
  has_filter [] x h = absurd h
  has_filter (y ∷ ys) x h =
      cond_both (p y) (y ∷ filter p ys) (filter p ys) (λ l. Has l x → Has (y ∷ ys) x × (p x ≡ true))
      (λ t has. elim has [ inl same ↦ (inl same, ap p (sym same) ∙ t) | inr more ↦ let both = has_filter ys x more in (inr both.0, both.1) ])
      (λ t has. let both = has_filter ys x has in (inr both.0, both.1)) h

-- ---- right above

is_below-push : (parent : List PathStep) (step : PathStep) → is_below parent (parent ++ step ∷ []) ≡ true
is_below-push parent step =
    let long : length (parent ++ step ∷ []) ≡ suc (length parent) = omega (arith, length-append parent (step ∷ [])) in
    ap₂ (λ a b. a && b) (eq-eqb (length (parent ++ step ∷ [])) (suc (length parent)) long)
    (ap (λ l. same_path l parent) (take_at parent (step ∷ []) (length parent) refl) ∙ ap is_eq (tied_itself path_total parent))

root_is_no_child : (parent : List PathStep) → is_below parent [] ≡ false
root_is_no_child parent = ap (λ b. b && same_path (take (length parent) []) parent) (ne_eqb 0 (suc (length parent)) (omega arith))

above-push : (parent front : List PathStep) (step : PathStep) → is_below parent (front ++ step ∷ []) ≡ true → parent ≡ front
above-push parent front step below =
    let short : length front ≡ length (front ++ step ∷ []) - 1 = omega (arith, length-append front (step ∷ [])) in
    parent_is_prefix parent (front ++ step ∷ []) below ∙ take_at front (step ∷ []) (length (front ++ step ∷ []) - 1) short

get_or-numbers_from : (start count k d : ℕ) → k < count → get_or (numbers_from start count) k d ≡ start + k
get_or-numbers_from start zero k d low = absurd (omega arith)
get_or-numbers_from start (suc count) zero d low = omega arith
get_or-numbers_from start (suc count) (suc k) d low = omega (arith, get_or-numbers_from (suc start) count k d (omega arith))

module _ (tree : List LinkedNode) (linked : Linked tree) (order : List ℕ) (is : IsPreorder tree order) (visits : List Visit) (stands : StandsFor (grown tree) visits) where
  abbrev path : ℕ → List PathStep
  path key = path_at (paths_of tree) key

  pub node_of : (key : ℕ) → key < length tree → Has (nodes visits) (path key)
  node_of key low =
      let within : key < length (paths_of tree) = omega (arith, low, length-paths_of tree) in
      has_from_contains (nodes visits) (path key) ((nodes_of (grown tree) visits stands (path key)).0 (Contains-get_or (paths_of tree) key [] within))

  -- each of the definition's nodes has a key
  key_of : (node : List PathStep) → Has (nodes visits) node → (key : ℕ) × (key < length tree) × (path key ≡ node)
  key_of node has =
      let found = (nodes_of (grown tree) visits stands node).1 (contains_from_has (nodes visits) node has) in
      (found.0, omega (arith, found.1, length-paths_of tree), get_or_default (paths_of tree) found.0 [] node found.1 ∙ found.2)

  listed_node : (node : List PathStep) → Has (map path order) node → Has (nodes visits) node
  listed_node node has =
      let one = mapped_has path order node has in
      let at = contains_from_has order one.0 one.1 in
      let low : one.0 < length tree = subst (λ k. k < length tree) at.2 (is.within at.0 one.0 at.1) in
      subst (Has (nodes visits)) one.2 (node_of one.0 low)

  node_listed : (node : List PathStep) → Has (nodes visits) node → Has (map path order) node
  node_listed node has =
      let key = key_of node has in
      subst (Has (map path order)) key.2 (has_mapped path order key.0 (has_from_contains order key.0 (is.whole key.0 key.1)))

  pub order_of_nodes : map path order ≡ nodes visits
  order_of_nodes = same_rising path_cmp path_total (map path order) (nodes visits) is.rises (nodes_rise visits) listed_node node_listed

  -- ---- ids

  place_of : (k : ℕ) → k < length order → id_of (nodes visits) (path (slice_index order k)) ≡ k + 1
  place_of k low =
      let all = nodes visits in
      let long : length all ≡ length order = ap length (sym order_of_nodes) ∙ length-map order path in
      let within : k < length all = omega (arith, low, long) in
      ap (id_of all) (sym (get_or-map path order k 0 [] low) ∙ ap (λ l. get_or l k []) order_of_nodes)
      ∙ sym (get_or-map (id_of all) all k [] 0 within)
      ∙ ap (λ l. get_or l k 0) (places_number path_cmp path_total all (nodes_rise visits))
      ∙ get_or-numbers_from 1 (length all) k 0 within ∙ one_and k
    where
      one_and : (n : ℕ) → 1 + n ≡ n + 1
      one_and n = omega arith

  module _ (ids : List ℕ) (are : AreIds order ids) where
    pub id_at : (key : ℕ) → key < length tree → slice_index ids key ≡ id_of (nodes visits) (path key)
    id_at key low =
        let at = is.whole key low in
        let same : slice_index order at.0 ≡ key = get_or_default order at.0 0 key at.1 ∙ at.2 in
        ap (slice_index ids) (sym same) ∙ are at.0 at.1 ∙ sym (place_of at.0 at.1) ∙ ap (λ k. id_of (nodes visits) (path k)) same

    -- ---- children

    abbrev below : ℕ → List ℕ
    below key = (node_at tree key).children

    child_node : (key : ℕ) → key < length tree → (node : List PathStep) → Has (map path (below key)) node → Has (filter (is_below (path key)) (nodes visits)) node
    child_node key low node has =
        let one = mapped_has path (below key) node has in
        let child = linked.children key one.0 low (contains_from_has (below key) one.0 one.1) in
        let placed = linked.placed one.0 child.later child.within in
        let longer : path one.0 ≡ path key ++ placed.step ∷ [] = placed.path ∙ ap (λ p. path p ++ placed.step ∷ []) child.under in
        filter_has (is_below (path key)) (nodes visits) node (subst (Has (nodes visits)) one.2 (node_of one.0 child.within))
        (ap (is_below (path key)) (sym one.2 ∙ longer) ∙ is_below-push (path key) placed.step)

    node_child : (key : ℕ) → key < length tree → (node : List PathStep) → Has (filter (is_below (path key)) (nodes visits)) node → Has (map path (below key)) node
    node_child key low node has =
        let both = has_filter (is_below (path key)) (nodes visits) node has in
        let found = key_of node both.0 in
        elim (cases_eq found.0 0) [
          | inl root ↦
              let empty : node ≡ [] = sym found.2 ∙ ap path root ∙ linked.root in
              absurd (true≢false (sym both.1 ∙ ap (is_below (path key)) empty ∙ root_is_no_child (path key)))
          | inr inner ↦
              let placed = linked.placed found.0 (omega arith) found.1 in
              let same : path key ≡ path (node_at tree found.0).parent =
              above-push (path key) (path (node_at tree found.0).parent) placed.step (ap (is_below (path key)) (sym placed.path ∙ found.2) ∙ both.1) in
              let under : (node_at tree found.0).parent ≡ key = linked.distinct (node_at tree found.0).parent key placed.parent_in low (sym same) in
              let listed : Contains (below key) found.0 = subst (λ p. Contains (below p) found.0) under placed.listed in
              subst (Has (map path (below key))) found.2 (has_mapped path (below key) found.0 (has_from_contains (below key) found.0 listed))
        ]

    pub children_at : (key : ℕ) → key < length tree → map (slice_index ids) (below key) ≡ children (nodes visits) (path key)
    children_at key low =
        map_alike (slice_index ids) (λ child. id_of (nodes visits) (path child)) (below key)
        (λ child has. id_at child (linked.children key child low (contains_from_has (below key) child has)).within)
        ∙ sym (map-map (id_of (nodes visits)) path (below key))
        ∙ ap (map (id_of (nodes visits)))
        (same_rising path_cmp path_total (map path (below key)) (filter (is_below (path key)) (nodes visits)) (linked.rises key low)
        (filter_rises path_cmp path_total (is_below (path key)) (nodes visits) (nodes_rise visits)) (child_node key low) (node_child key low))
