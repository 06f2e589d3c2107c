-- The links of nodes stay a tree where a child is made.
use Rattle.std.proofs.Common.{◌≡◌, ◌≢◌, ℕ, ◌+◌, ◌<◌, ◌^◌, List, [], ◌∷◌, ◌++◌, length, map, get_or, set, ◌⊎◌, inl, inr, Ordering, Less, Greater, refl, sym, ap, ap₂, ◌∙◌, subst, arith}
use Rattle.std.specs.Prelude.{Some, None, slice_index}
use Rattle.std.specs.List.{Contains, insert}
use Rattle.std.proofs.lemmas.Bool.{cases_eq}
use Rattle.std.proofs.lemmas.Option.{none-some}
use Rattle.std.proofs.lemmas.List.{get_or-set_same, get_or-set_other, length-set, length-append, length-map, get_or_append_left, get_or_at, get_or-map, same_from_push}
use Rattle.std.proofs.lemmas.List.Elements.{Contains-get_or}
use Rattle.prof_base.specs.Ordered.{Rises}
use Rattle.prof_base.proofs.Ordered.{Has, has_from_contains, contains_from_has}
use Rattle.code_event.specs.Tree.{path_step_cmp, path_cmp}
use Rattle.code_event.specs.declared.path.PathStep.{PathStep}
use Rattle.code_event.proofs.TreeIds.{step_total, path_total}
use Rattle.profile_tree.specs.Node.{LinkedNode, fresh, step_order}
use Rattle.profile_tree.specs.Arena.{node_at, with_child}
use Rattle.profile_tree.specs.Linked.{path_at, paths_of, IsPlaced, IsChild, LinkedBy, Linked}
use Rattle.profile_tree.specs.Children.{IsBetween}
use Rattle.profile_tree.proofs.RisingLists.{has_insert, insert_has, insert_keeps, map-insert, map_alike, has_mapped, insert_rises, absent_before}
use Rattle.profile_tree.proofs.PathSteps.{slice_cmp-push}
use Rattle.profile_tree.proofs.PathsAfter.{paths_of-set, paths_of-push}

below_or_top : (k n : ℕ) → k < n + 1 → (k < n) ⊎ (k ≡ n)
below_or_top k n h = elim (cases_eq k n) [ inl same ↦ inr same | inr differs ↦ inl (omega arith) ]

module _ (paths : List (List PathStep)) (nodes : List LinkedNode) (parent at : ℕ) (step : PathStep) (old : LinkedBy paths nodes) (low : parent < length nodes) where
  -- ---- where the children of the parent are, by their paths

  abbrev siblings : List (List PathStep)
  siblings = map (path_at paths) (node_at nodes parent).children

  abbrev new_path : List PathStep
  new_path = path_at paths parent ++ step ∷ []

  -- a child's path
  child_placed : (child : ℕ) → Contains (node_at nodes parent).children child → (s : PathStep) × ((node_at nodes child).step ≡ Some s) × (path_at paths child ≡ path_at paths parent ++ s ∷ [])
  child_placed child has =
      let is = old.children parent child low has in
      let placed = old.placed child is.later is.within in
      (placed.step, placed.by, placed.path ∙ ap (λ p. path_at paths p ++ placed.step ∷ []) is.under)

  sibling_cmp : (k : ℕ) (r : Ordering) → k < length (node_at nodes parent).children → step_order step (node_at nodes (slice_index (node_at nodes parent).children k)).step ≡ r → path_cmp new_path (get_or siblings k []) ≡ r
  sibling_cmp k r within e =
      let child = slice_index (node_at nodes parent).children k in
      let placed = child_placed child (Contains-get_or (node_at nodes parent).children k 0 within) in
      ap (path_cmp new_path) (get_or-map (path_at paths) (node_at nodes parent).children k 0 [] within ∙ placed.2)
      ∙ slice_cmp-push path_step_cmp step_total (path_at paths parent) step placed.0
      ∙ ap (step_order step) (sym placed.1) ∙ e

  module _ (between : IsBetween nodes (node_at nodes parent).children step at) where
    before : (k : ℕ) → k < at → path_cmp new_path (get_or siblings k []) ≡ Greater
    before k less = sibling_cmp k Greater (omega (arith, between.within)) (between.before k less)

    siblings_long : length siblings ≡ length (node_at nodes parent).children
    siblings_long = length-map (node_at nodes parent).children (path_at paths)

    after : at < length siblings → path_cmp new_path (get_or siblings at []) ≡ Less
    after less = let within : at < length (node_at nodes parent).children = omega (arith, siblings_long, less) in sibling_cmp at Less within (between.after within)

    -- the new path was no node's
    unseen_sibling : ¬ Has siblings new_path
    unseen_sibling = absent_before path_cmp path_total new_path siblings at [] (old.rises parent low) (omega (arith, siblings_long, between.within)) before after

    pub unseen : (k : ℕ) → k < length nodes → path_at paths k ≡ new_path → ⊥
    unseen k within e = elim (cases_eq k 0) [
      | inl root ↦
          let none : length new_path ≡ 0 = ap length (sym e ∙ ap (path_at paths) root ∙ old.root) in
          absurd (omega (arith, none, length-append (path_at paths parent) (step ∷ [])))
      | inr some ↦
          let later : 0 < k = omega arith in
          let placed = old.placed k later within in
          let both = same_from_push (path_at paths (node_at nodes k).parent) (path_at paths parent) placed.step step (sym placed.path ∙ e) in
          let under : (node_at nodes k).parent ≡ parent = old.distinct (node_at nodes k).parent parent placed.parent_in low both.0 in
          let listed : Contains (node_at nodes parent).children k = subst (λ p. Contains (node_at nodes p).children k) under placed.listed in
          unseen_sibling (subst (Has siblings) e (has_mapped (path_at paths) (node_at nodes parent).children k (has_from_contains (node_at nodes parent).children k listed)))
    ]

    -- ---- after the child was made

    abbrev next : List LinkedNode
    next = with_child nodes parent at step

    abbrev next_paths : List (List PathStep)
    next_paths = paths ++ new_path ∷ []

    abbrev put : LinkedNode
    put = record (node_at nodes parent) { children = insert (node_at nodes parent).children at (length nodes) }

    sized : length next ≡ length nodes + 1
    sized = length-append (set nodes parent put) (fresh parent (Some step) ∷ []) ∙ ap (λ n. n + 1) (length-set nodes parent put)

    path_below : (k : ℕ) → k < length nodes → path_at next_paths k ≡ path_at paths k
    path_below k within = get_or_append_left paths (new_path ∷ []) [] k (omega (arith, old.sized))

    path_top : (k : ℕ) → k ≡ length nodes → path_at next_paths k ≡ new_path
    path_top k e = get_or_at paths new_path [] [] k (old.sized ∙ sym e)

    node_top : (k : ℕ) → k ≡ length nodes → node_at next k ≡ fresh parent (Some step)
    node_top k e = get_or_at (set nodes parent put) (fresh parent (Some step)) [] (fresh 0 None) k (length-set nodes parent put ∙ sym e)

    node_below : (k : ℕ) → k < length nodes → node_at next k ≡ node_at (set nodes parent put) k
    node_below k within = get_or_append_left (set nodes parent put) (fresh parent (Some step) ∷ []) (fresh 0 None) k (omega (arith, length-set nodes parent put))

    node_parent : (k : ℕ) → k ≡ parent → node_at next k ≡ put
    node_parent k e = ap (node_at next) e ∙ node_below parent low ∙ get_or-set_same nodes parent put (fresh 0 None) low

    node_other : (k : ℕ) → k < length nodes → k ≢ parent → node_at next k ≡ node_at nodes k
    node_other k within differs = node_below k within ∙ get_or-set_other nodes parent k put (fresh 0 None) differs

    step_below : (k : ℕ) → k < length nodes → (node_at next k).step ≡ (node_at nodes k).step
    step_below k within = elim (cases_eq k parent) [
      | inl same ↦ ap (λ n. n.step) (node_parent k same) ∙ ap (λ j. (node_at nodes j).step) (sym same)
      | inr differs ↦ ap (λ n. n.step) (node_other k within differs)
    ]

    parent_below : (k : ℕ) → k < length nodes → (node_at next k).parent ≡ (node_at nodes k).parent
    parent_below k within = elim (cases_eq k parent) [
      | inl same ↦ ap (λ n. n.parent) (node_parent k same) ∙ ap (λ j. (node_at nodes j).parent) (sym same)
      | inr differs ↦ ap (λ n. n.parent) (node_other k within differs)
    ]

    last_below : (k : ℕ) → k < length nodes → (node_at next k).last ≡ (node_at nodes k).last
    last_below k within = elim (cases_eq k parent) [
      | inl same ↦ ap (λ n. n.last) (node_parent k same) ∙ ap (λ j. (node_at nodes j).last) (sym same)
      | inr differs ↦ ap (λ n. n.last) (node_other k within differs)
    ]

    hits_below : (k : ℕ) → k < length nodes → (node_at next k).hits ≡ (node_at nodes k).hits
    hits_below k within = elim (cases_eq k parent) [
      | inl same ↦ ap (λ n. n.hits) (node_parent k same) ∙ ap (λ j. (node_at nodes j).hits) (sym same)
      | inr differs ↦ ap (λ n. n.hits) (node_other k within differs)
    ]

    children_parent : (k : ℕ) → k ≡ parent → (node_at next k).children ≡ insert (node_at nodes k).children at (length nodes)
    children_parent k same = ap (λ n. n.children) (node_parent k same) ∙ ap (λ j. insert (node_at nodes j).children at (length nodes)) (sym same)

    children_other : (k : ℕ) → k < length nodes → k ≢ parent → (node_at next k).children ≡ (node_at nodes k).children
    children_other k within differs = ap (λ n. n.children) (node_other k within differs)

    listed_kept : (k child : ℕ) → k < length nodes → Contains (node_at nodes k).children child → Contains (node_at next k).children child
    listed_kept k child within has = elim (cases_eq k parent) [
      | inl same ↦
          subst (λ l. Contains l child) (sym (children_parent k same))
          (contains_from_has (insert (node_at nodes k).children at (length nodes)) child
          (insert_keeps (node_at nodes k).children at (length nodes) child (has_from_contains (node_at nodes k).children child has)))
      | inr differs ↦ subst (λ l. Contains l child) (sym (children_other k within differs)) has
    ]

    listed_new : Contains (node_at next parent).children (length nodes)
    listed_new =
        subst (λ l. Contains l (length nodes)) (sym (children_parent parent refl))
        (contains_from_has (insert (node_at nodes parent).children at (length nodes)) (length nodes) (insert_has (node_at nodes parent).children at (length nodes)))

    child_kept : (k child : ℕ) → IsChild nodes k child → IsChild next k child
    child_kept k child was = record { later = was.later; within = omega (arith, sized, was.within); under = parent_below child was.within ∙ was.under }

    pub child_new : (child : ℕ) → child ≡ length nodes → IsChild next parent child
    child_new child e = record { later = omega (arith, e, low); within = omega (arith, sized, e); under = ap (λ n. n.parent) (node_top child e) }

    placed_below : (k : ℕ) → k < length nodes → IsPlaced paths nodes k → IsPlaced next_paths next k
    placed_below k within was =
        let same = parent_below k within in
        record {
          parent_in = omega (arith, sized, same, was.parent_in);
          step = was.step;
          by = step_below k within ∙ was.by;
          path = path_below k within ∙ was.path ∙ ap (λ p. p ++ was.step ∷ []) (sym (ap (path_at next_paths) same ∙ path_below (node_at nodes k).parent was.parent_in));
          listed = subst (λ p. Contains (node_at next p).children k) (sym same) (listed_kept (node_at nodes k).parent k was.parent_in was.listed);
        }

    placed_new : (k : ℕ) → k ≡ length nodes → IsPlaced next_paths next k
    placed_new k e =
        let above : (node_at next k).parent ≡ parent = ap (λ n. n.parent) (node_top k e) in
        record {
          parent_in = omega (arith, sized, above, low);
          step = step;
          by = ap (λ n. n.step) (node_top k e);
          path = path_top k e ∙ ap (λ p. p ++ step ∷ []) (sym (ap (path_at next_paths) above ∙ path_below parent low));
          listed = subst (λ p. Contains (node_at next p).children k) (sym above) (subst (Contains (node_at next parent).children) (sym e) listed_new);
        }

    children_below : (k child : ℕ) → k < length nodes → Contains (node_at next k).children child → IsChild next k child
    children_below k child within has = elim (cases_eq k parent) [
      | inl same ↦
          let found = subst (λ l. Contains l child) (children_parent k same) has in
          elim (has_insert (node_at nodes k).children at (length nodes) child (has_from_contains (insert (node_at nodes k).children at (length nodes)) child found)) [
            | inl made ↦ subst (λ j. IsChild next j child) (sym same) (child_new child (sym made))
            | inr was ↦ child_kept k child (old.children k child within (contains_from_has (node_at nodes k).children child was))
          ]
      | inr differs ↦ child_kept k child (old.children k child within (subst (λ l. Contains l child) (children_other k within differs) has))
    ]

    children_top : (k child : ℕ) → k ≡ length nodes → Contains (node_at next k).children child → IsChild next k child
    children_top k child e has = absurd (has_from_contains [] child (subst (λ l. Contains l child) (ap (λ n. n.children) (node_top k e)) has))

    same_paths : (k : ℕ) → k < length nodes → map (path_at next_paths) (node_at nodes k).children ≡ map (path_at paths) (node_at nodes k).children
    same_paths k within =
        map_alike (path_at next_paths) (path_at paths) (node_at nodes k).children
        (λ child has. path_below child (old.children k child within (contains_from_has (node_at nodes k).children child has)).within)

    rises_below : (k : ℕ) → k < length nodes → Rises path_cmp (map (path_at next_paths) (node_at next k).children)
    rises_below k within = elim (cases_eq k parent) [
      | inl same ↦
          let children = (node_at nodes parent).children in
          let listed : map (path_at next_paths) (node_at next k).children ≡ insert siblings at new_path =
          ap (λ j. map (path_at next_paths) (node_at next j).children) same ∙ ap (map (path_at next_paths)) (children_parent parent refl)
          ∙ map-insert (path_at next_paths) children at (length nodes)
          ∙ ap₂ (λ l p. insert l at p) (same_paths parent low) (path_top (length nodes) refl) in
          subst (Rises path_cmp) (sym listed)
          (insert_rises path_cmp path_total new_path siblings at [] (old.rises parent low) (omega (arith, siblings_long, between.within)) before after)
      | inr differs ↦
          subst (Rises path_cmp) (sym (ap (map (path_at next_paths)) (children_other k within differs) ∙ same_paths k within)) (old.rises k within)
    ]

    distinct_next : (i j : ℕ) → i < length nodes + 1 → j < length nodes + 1 → path_at next_paths i ≡ path_at next_paths j → i ≡ j
    distinct_next i j first second e = elim (below_or_top i (length nodes) first) [
      | inl one ↦ elim (below_or_top j (length nodes) second) [
        | inl other ↦ old.distinct i j one other (sym (path_below i one) ∙ e ∙ path_below j other)
        | inr top ↦ absurd (unseen i one (sym (path_below i one) ∙ e ∙ path_top j top))
      ]
      | inr top ↦ elim (below_or_top j (length nodes) second) [
        | inl other ↦ absurd (unseen j other (sym (path_below j other) ∙ sym e ∙ path_top i top))
        | inr same ↦ top ∙ sym same
      ]
    ]

    pub linked_next : length next < 2 ^ 32 → LinkedBy next_paths next
    linked_next few = record {
      sized = omega (arith, length-append paths (new_path ∷ []), sized, old.sized);
      some = omega (arith, sized);
      few = few;
      root = path_below 0 old.some ∙ old.root;
      first = step_below 0 old.some ∙ old.first;
      placed = λ k later within. elim (below_or_top k (length nodes) (omega (arith, sized, within))) [
        | inl below ↦ placed_below k below (old.placed k later below)
        | inr top ↦ placed_new k top
      ];
      children = λ k child within has. elim (below_or_top k (length nodes) (omega (arith, sized, within))) [
        | inl below ↦ children_below k child below has
        | inr top ↦ children_top k child top has
      ];
      last = λ k child within e. elim (below_or_top k (length nodes) (omega (arith, sized, within))) [
        | inl below ↦ child_kept k child (old.last k child below (sym (last_below k below) ∙ e))
        | inr top ↦ absurd (none-some child (sym (ap (λ n. n.last) (node_top k top)) ∙ e))
      ];
      distinct = λ i j first second e. distinct_next i j (omega (arith, sized, first)) (omega (arith, sized, second)) e;
      few_hits = λ k within. elim (below_or_top k (length nodes) (omega (arith, sized, within))) [
        | inl below ↦ omega (arith, hits_below k below, old.few_hits k below)
        | inr top ↦ omega (arith, ap (λ n. n.hits) (node_top k top))
      ];
      rises = λ k within. elim (below_or_top k (length nodes) (omega (arith, sized, within))) [
        | inl below ↦ rises_below k below
        | inr top ↦ subst (λ l. Rises path_cmp (map (path_at next_paths) l)) (sym (ap (λ n. n.children) (node_top k top))) tt
      ];
    }

pub paths_of-with_child : (nodes : List LinkedNode) (parent at : ℕ) (step : PathStep) → paths_of (with_child nodes parent at step) ≡ paths_of nodes ++ (path_at (paths_of nodes) parent ++ step ∷ []) ∷ []
paths_of-with_child nodes parent at step =
    let put : LinkedNode = record (node_at nodes parent) { children = insert (node_at nodes parent).children at (length nodes) } in
    paths_of-push (set nodes parent put) (fresh parent (Some step))
    ∙ ap (λ paths. paths ++ (path_at paths parent ++ step ∷ []) ∷ []) (paths_of-set nodes parent put refl refl)

pub linked_child : (nodes : List LinkedNode) (parent at : ℕ) (step : PathStep) → Linked nodes → parent < length nodes → IsBetween nodes (node_at nodes parent).children step at → length (with_child nodes parent at step) < 2 ^ 32
    → Linked (with_child nodes parent at step)
linked_child nodes parent at step old low between few =
    subst (λ paths. LinkedBy paths (with_child nodes parent at step)) (sym (paths_of-with_child nodes parent at step)) (linked_next (paths_of nodes) nodes parent at step old low between few)
