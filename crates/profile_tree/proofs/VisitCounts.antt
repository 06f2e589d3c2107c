-- The counts of nodes with one more visit.
use Rattle.std.proofs.Common.{◌≡◌, ◌≢◌, ℕ, ◌+◌, ◌<◌, List, [], ◌∷◌, ◌++◌, length, map, get_or, set, cond, ◌&&◌, Bool, true, false, eqb, eq-eqb, ne_eqb, ltb, ltb-true, ltb-false, inl, inr, Ordering, Less, Equal, Greater, is_eq, refl, sym, ap, ap₂, ◌∙◌, arith}
use Rattle.std.specs.Prelude.{count_by}
use Rattle.std.proofs.lemmas.Bool.{cases_eq}
use Rattle.std.proofs.lemmas.Cmp.{tied_itself}
use Rattle.std.proofs.lemmas.List.{length-map, length-set, get_or-map, get_or-set_same, get_or-set_other, same_lists}
use Rattle.std.specs.Ordering.{nat_cmp}
use Rattle.prof_base.specs.Ordered.{insert_sorted}
use Rattle.prof_base.proofs.Ordered.{Has}
use Rattle.code_event.specs.Tree.{path_cmp, same_path, hits_node, hits, hits_at, hit_lines, line_ticks}
use Rattle.code_event.specs.declared.path.PathStep.{PathStep}
use Rattle.code_event.specs.declared.visit.Visit.{Visit}
use Rattle.code_event.proofs.Counts.{count_cons}
use Rattle.code_event.proofs.TreeIds.{path_total}
use Rattle.code_event.proofs.TreePaths.{exact_path}
use Rattle.profile_tree.specs.Node.{with_line, put_line}
use Rattle.profile_tree.specs.Linked.{path_at}
use Rattle.profile_tree.specs.Grown.{Counts, counts_of, no_counts}
use Rattle.profile_tree.proofs.RisingLists.{map_alike}
use Rattle.profile_tree.proofs.HitLines.{hit_lines_rise, hit_lines_above, hit_lines-unchanged, hit_lines-more, hits_at-absent, tick, put_line-ticks}

-- ---- whether a visit is a hit of a node

not_equal : (r : Ordering) → (r ≡ Equal → ⊥) → is_eq r ≡ false
not_equal Less miss = refl
not_equal Equal miss = absurd (miss refl)
not_equal Greater miss = refl

and-false : (b : Bool) → (b && false) ≡ false
and-false true = refl
and-false false = refl

no_hit : (node : List PathStep) (visit : Visit) → visit.hit ≡ false → hits_node node visit ≡ false
no_hit node visit e = ap (λ b. b && same_path visit.path node) e

other_node : (node : List PathStep) (visit : Visit) → visit.path ≢ node → hits_node node visit ≡ false
other_node node visit differs =
    ap (λ b. visit.hit && b) (not_equal (path_cmp visit.path node) (λ e. differs (exact_path visit.path node e))) ∙ and-false visit.hit

own_hit : (visit : Visit) → visit.hit ≡ true → hits_node visit.path visit ≡ true
own_hit visit e = ap₂ (λ a b. a && b) e (ap is_eq (tied_itself path_total visit.path))

-- ---- counts with one more

abbrev one_if : Bool → ℕ
one_if b = cond b 1 0

count_more : {X : Type 0} (p : X → Bool) (xs : List X) (x : X) → count_by p (xs ++ x ∷ []) ≡ count_by p xs + one_if (p x)
count_more p [] x = omega (arith, count_cons p x [])
count_more p (y ∷ ys) x = omega (arith, count_cons p y (ys ++ x ∷ []), count_cons p y ys, count_more p ys x)

module _ (visits : List Visit) (visit : Visit) (node : List PathStep) where
  abbrev after : List Visit
  after = visits ++ visit ∷ []

  -- a visit that is no hit of the node changes nothing
  pub counts_of-unchanged : hits_node node visit ≡ false → counts_of after node ≡ counts_of visits node
  counts_of-unchanged miss =
      let same_hits : hits after node ≡ hits visits node = omega (arith, count_more (hits_node node) visits visit, ap one_if miss) in
      let same_at : (line : ℕ) → hits_at after node line ≡ hits_at visits node line =
      (λ line. omega (arith, count_more (λ v. hits_node node v && eqb v.line line) visits visit, ap (λ b. one_if (b && eqb visit.line line)) miss)) in
      ap₂ {C = Counts} (λ h l. record { hits = h; lines = l }) same_hits
      (map_alike (tick (hits_at after node)) (tick (hits_at visits node)) (hit_lines after node) (λ line has. ap (λ n. record { line = line; ticks = n }) (same_at line))
      ∙ ap (map (tick (hits_at visits node))) (hit_lines-unchanged visits visit node (ap (λ b. b && ltb 0 visit.line) miss)))

  module _ (hit : hits_node node visit ≡ true) where
    one_more_hit : hits after node ≡ hits visits node + 1
    one_more_hit = omega (arith, count_more (hits_node node) visits visit, ap one_if hit)

    more_at : (line : ℕ) → hits_at after node line ≡ hits_at visits node line + one_if (eqb visit.line line)
    more_at line = omega (arith, count_more (λ v. hits_node node v && eqb v.line line) visits visit, ap (λ b. one_if (b && eqb visit.line line)) hit)

    more_here : hits_at after node visit.line ≡ hits_at visits node visit.line + 1
    more_here = omega (arith, more_at visit.line, ap one_if (eq-eqb visit.line visit.line refl))

    same_elsewhere : (line : ℕ) → line ≢ visit.line → hits_at after node line ≡ hits_at visits node line
    same_elsewhere line differs = omega (arith, more_at line, ap one_if (ne_eqb visit.line line (λ e. differs (sym e))))

    lines_more : (above : Bool) → ltb 0 visit.line ≡ above → line_ticks after node ≡ cond above (put_line visit.line (line_ticks visits node)) (line_ticks visits node)
    lines_more true e =
        let high = ltb-true 0 visit.line e in
        ap (map (tick (hits_at after node))) (hit_lines-more visits visit node (ap₂ (λ a b. a && b) hit e))
        ∙ sym (put_line-ticks (hits_at visits node) (hits_at after node) visit.line more_here same_elsewhere (hit_lines visits node) (hit_lines_rise visits node)
        (λ absent. hits_at-absent visits node visit.line high absent))
    lines_more false e =
        let low = ltb-false 0 visit.line e in
        ap (map (tick (hits_at after node))) (hit_lines-unchanged visits visit node (ap₂ (λ a b. a && b) hit e))
        ∙ map_alike (tick (hits_at after node)) (tick (hits_at visits node)) (hit_lines visits node)
        (λ line has. ap (λ n. record { line = line; ticks = n }) (same_elsewhere line (λ same. absurd (omega (arith, low, same, hit_lines_above visits node line has)))))

    pub counts_of-hit : counts_of after node ≡ record { hits = hits visits node + 1; lines = with_line visit.line (line_ticks visits node) }
    counts_of-hit = ap₂ {C = Counts} (λ h l. record { hits = h; lines = l }) one_more_hit (lines_more (ltb 0 visit.line) refl)

-- ---- a node that no visit has

pub counts_of-none : (visits : List Visit) (node : List PathStep) → ((visit : Visit) → Has visits visit → visit.path ≢ node) → counts_of visits node ≡ no_counts
counts_of-none visits node none =
    ap₂ {C = Counts} (λ h l. record { hits = h; lines = map (tick (hits_at visits node)) l }) (no_hits visits none) (no_lines visits none)
  where
    no_hits : (vs : List Visit) → ((visit : Visit) → Has vs visit → visit.path ≢ node) → hits vs node ≡ 0
    no_hits [] miss = refl
    no_hits (v ∷ vs) miss =
        omega (arith, count_cons (hits_node node) v vs, ap one_if (other_node node v (miss v (inl refl))), no_hits vs (λ w has. miss w (inr has)))

    no_lines : (vs : List Visit) → ((visit : Visit) → Has vs visit → visit.path ≢ node) → hit_lines vs node ≡ []
    no_lines [] miss = refl
    no_lines (v ∷ vs) miss =
        ap (λ b. cond (b && ltb 0 v.line) (insert_sorted nat_cmp v.line (hit_lines vs node)) (hit_lines vs node)) (other_node node v (miss v (inl refl)))
        ∙ no_lines vs (λ w has. miss w (inr has))

-- ---- the counts of all nodes

pub counts_unchanged : (visits : List Visit) (visit : Visit) (paths : List (List PathStep)) → visit.hit ≡ false → map (counts_of visits) paths ≡ map (counts_of (visits ++ visit ∷ [])) paths
counts_unchanged visits visit paths miss =
    map_alike (counts_of visits) (counts_of (visits ++ visit ∷ [])) paths (λ node has. sym (counts_of-unchanged visits visit node (no_hit node visit miss)))

-- only the node with the visit's path changes
pub counts_hit : (visits : List Visit) (visit : Visit) (paths : List (List PathStep)) (key : ℕ) → visit.hit ≡ true → key < length paths → path_at paths key ≡ visit.path
    → ((other : ℕ) → other < length paths → path_at paths other ≡ path_at paths key → other ≡ key)
    → set (map (counts_of visits) paths) key (record { hits = hits visits visit.path + 1; lines = with_line visit.line (line_ticks visits visit.path) }) ≡ map (counts_of (visits ++ visit ∷ [])) paths
counts_hit visits visit paths key hit low named alone =
    let more : Counts = record { hits = hits visits visit.path + 1; lines = with_line visit.line (line_ticks visits visit.path) } in
    let old = map (counts_of visits) paths in
    let long = length-map paths (counts_of visits) in
    let long' = length-map paths (counts_of (visits ++ visit ∷ [])) in
    same_lists (set old key more) (map (counts_of (visits ++ visit ∷ [])) paths) (omega (arith, length-set old key more, long, long'))
    (λ k d within.
    let inside : k < length paths = omega (arith, within, length-set old key more, long) in
    elim (cases_eq k key) [
      | inl same ↦
          ap (λ j. get_or (set old key more) j d) same ∙ get_or-set_same old key more d (omega (arith, low, long))
          ∙ sym (counts_of-hit visits visit visit.path (own_hit visit hit)) ∙ ap (counts_of (visits ++ visit ∷ [])) (sym (ap (path_at paths) same ∙ named))
          ∙ sym (get_or-map (counts_of (visits ++ visit ∷ [])) paths k [] d inside)
      | inr differs ↦
          get_or-set_other old key k more d differs ∙ get_or-map (counts_of visits) paths k [] d inside
          ∙ sym (counts_of-unchanged visits visit (path_at paths k) (other_node (path_at paths k) visit (λ e. differs (alone k inside (sym (named ∙ e))))))
          ∙ sym (get_or-map (counts_of (visits ++ visit ∷ [])) paths k [] d inside)
    ])
