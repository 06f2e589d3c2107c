-- The lines of a node's hits with one more visit.
use Rattle.std.proofs.Common.{◌≡◌, ◌≢◌, ℕ, ◌+◌, ◌<◌, List, [], ◌∷◌, ◌++◌, map, cond, ◌&&◌, Bool, true, false, eqb, eqb-true, ltb, ltb-true, lt-ltb, inl, inr, Ordering, Less, Equal, Greater, is_lt, is_eq, refl, sym, ap, ap₂, ◌∙◌, subst, arith}
use Rattle.std.specs.Ordering.{nat_cmp}
use Rattle.std.specs.Cmp.{IsTotalOrder}
use Rattle.std.proofs.lemmas.Bool.{cond_both, and_parts}
use Rattle.std.proofs.lemmas.Cmp.{nat_cmp_total}
use Rattle.std.proofs.lemmas.Map.Lookups.{CmpEqualImpliesEq, exact_unsigned}
use Rattle.prof_base.specs.Ordered.{insert_sorted, Rises}
use Rattle.prof_base.proofs.Ordered.{Has, after_has, has_put, put_has, put_keeps, put_rises}
use Rattle.code_event.specs.Tree.{hits_node, hits_at, hit_lines}
use Rattle.code_event.specs.declared.path.PathStep.{PathStep}
use Rattle.code_event.specs.declared.profile.LineTicks.{LineTicks}
use Rattle.code_event.specs.declared.visit.Visit.{Visit}
use Rattle.code_event.proofs.Counts.{count_cons}
use Rattle.profile_tree.specs.Node.{put_before, put_line}
use Rattle.profile_tree.proofs.RisingLists.{not_below_itself, below_turned, map_alike, same_rising}

-- ---- two insertions, in either order

module _ {K : Type 0} (R : K → K → Ordering) (o : IsTotalOrder R) (exact : CmpEqualImpliesEq R) where
  put_twice : (a b z : K) (xs : List K) → Has (insert_sorted R a (insert_sorted R b xs)) z → Has (insert_sorted R b (insert_sorted R a xs)) z
  put_twice a b z xs h = elim (has_put R a z (insert_sorted R b xs) h) [
    | inl first ↦ put_keeps R b z (insert_sorted R a xs) (subst (Has (insert_sorted R a xs)) first (put_has R exact a xs))
    | inr more ↦ elim (has_put R b z xs more) [
      | inl second ↦ subst (Has (insert_sorted R b (insert_sorted R a xs))) second (put_has R exact b (insert_sorted R a xs))
      | inr old ↦ put_keeps R b z (insert_sorted R a xs) (put_keeps R a z xs old)
    ]
  ]

  put_comm : (a b : K) (xs : List K) → Rises R xs → insert_sorted R a (insert_sorted R b xs) ≡ insert_sorted R b (insert_sorted R a xs)
  put_comm a b xs rises =
      same_rising R o (insert_sorted R a (insert_sorted R b xs)) (insert_sorted R b (insert_sorted R a xs))
      (put_rises R o a (insert_sorted R b xs) (put_rises R o b xs rises)) (put_rises R o b (insert_sorted R a xs) (put_rises R o a xs rises))
      (λ z h. put_twice a b z xs h) (λ z h. put_twice b a z xs h)

-- ---- lines

-- whether a visit's line is one of a node's hits
abbrev counts_line : List PathStep → Visit → Bool
counts_line node visit = hits_node node visit && ltb 0 visit.line

pub hit_lines_rise : (visits : List Visit) (node : List PathStep) → Rises nat_cmp (hit_lines visits node)
hit_lines_rise [] node = tt
hit_lines_rise (visit ∷ visits) node =
    let lines = hit_lines visits node in
    cond_both (counts_line node visit) (insert_sorted nat_cmp visit.line lines) lines (Rises nat_cmp)
    (λ e. put_rises nat_cmp nat_cmp_total visit.line lines (hit_lines_rise visits node)) (λ e. hit_lines_rise visits node)

pub hit_lines_above : (visits : List Visit) (node : List PathStep) (line : ℕ) → Has (hit_lines visits node) line → 0 < line
hit_lines_above [] node line h = absurd h
hit_lines_above (visit ∷ visits) node line h =
    let lines = hit_lines visits node in
    cond_both (counts_line node visit) (insert_sorted nat_cmp visit.line lines) lines (λ l. Has l line → 0 < line)
    (λ e has. elim (has_put nat_cmp visit.line line lines has) [
      | inl same ↦ subst (λ n. 0 < n) same (ltb-true 0 visit.line (and_parts (hits_node node visit) (ltb 0 visit.line) e).1)
      | inr more ↦ hit_lines_above visits node line more
    ])
    (λ e has. hit_lines_above visits node line has) h

pub hit_lines-unchanged : (visits : List Visit) (visit : Visit) (node : List PathStep) → counts_line node visit ≡ false → hit_lines (visits ++ visit ∷ []) node ≡ hit_lines visits node
hit_lines-unchanged [] visit node e = ap (λ b. cond b (visit.line ∷ []) []) e
hit_lines-unchanged (first ∷ visits) visit node e = ap (λ l. cond (counts_line node first) (insert_sorted nat_cmp first.line l) l) (hit_lines-unchanged visits visit node e)

put_in_case : (b : Bool) (one other : ℕ) (lines : List ℕ) → Rises nat_cmp lines
    → cond b (insert_sorted nat_cmp one (insert_sorted nat_cmp other lines)) (insert_sorted nat_cmp other lines) ≡ insert_sorted nat_cmp other (cond b (insert_sorted nat_cmp one lines) lines)
put_in_case true one other lines rises = put_comm nat_cmp nat_cmp_total exact_unsigned one other lines rises
put_in_case false one other lines rises = refl

pub hit_lines-more : (visits : List Visit) (visit : Visit) (node : List PathStep) → counts_line node visit ≡ true → hit_lines (visits ++ visit ∷ []) node ≡ insert_sorted nat_cmp visit.line (hit_lines visits node)
hit_lines-more [] visit node e = ap (λ b. cond b (visit.line ∷ []) []) e
hit_lines-more (first ∷ visits) visit node e =
    ap (λ l. cond (counts_line node first) (insert_sorted nat_cmp first.line l) l) (hit_lines-more visits visit node e)
    ∙ put_in_case (counts_line node first) first.line visit.line (hit_lines visits node) (hit_lines_rise visits node)

-- ---- a line that is none of them has no hits

line_of_first : (first : Visit) (visits : List Visit) (node : List PathStep) (line : ℕ) → 0 < line → hits_node node first ≡ true → first.line ≡ line → Has (hit_lines (first ∷ visits) node) line
line_of_first first visits node line high hit same =
    let lines = hit_lines visits node in
    let above : ltb 0 first.line ≡ true = ap (ltb 0) same ∙ lt-ltb 0 line high in
    subst (λ b. Has (cond b (insert_sorted nat_cmp first.line lines) lines) line) (sym (ap₂ (λ a b. a && b) hit above))
    (subst (Has (insert_sorted nat_cmp first.line lines)) same (put_has nat_cmp exact_unsigned first.line lines))

line_of_later : (first : Visit) (visits : List Visit) (node : List PathStep) (line : ℕ) → Has (hit_lines visits node) line → Has (hit_lines (first ∷ visits) node) line
line_of_later first visits node line h =
    let lines = hit_lines visits node in
    cond_both (counts_line node first) (insert_sorted nat_cmp first.line lines) lines (λ l. Has l line) (λ e. put_keeps nat_cmp first.line line lines h) (λ e. h)

pub hits_at-absent : (visits : List Visit) (node : List PathStep) (line : ℕ) → 0 < line → ¬ Has (hit_lines visits node) line → hits_at visits node line ≡ 0
hits_at-absent [] node line high none = refl
hits_at-absent (first ∷ visits) node line high none =
    let test = hits_node node first && eqb first.line line in
    let rest = hits_at-absent visits node line high (λ h. none (line_of_later first visits node line h)) in
    count_cons (λ visit. hits_node node visit && eqb visit.line line) first visits
    ∙ cond_both test 1 0 (λ n. n + hits_at visits node line ≡ 0)
    (λ e. let both = and_parts (hits_node node first) (eqb first.line line) e in absurd (none (line_of_first first visits node line high both.0 (eqb-true first.line line both.1))))
    (λ e. omega (arith, rest))

-- ---- what is counted for lines, with one more hit at one of them

abbrev pub tick : (ℕ → ℕ) → ℕ → LineTicks
tick count line = record { line = line; ticks = count line }

module _ (old new : ℕ → ℕ) (line : ℕ) (here : new line ≡ old line + 1) (elsewhere : (other : ℕ) → other ≢ line → new other ≡ old other) where
  same_tick : (other : ℕ) → other ≢ line → tick old other ≡ tick new other
  same_tick other differs = ap {B = LineTicks} (λ n. record { line = other; ticks = n }) (sym (elsewhere other differs))

  after_differs : (other : ℕ) → nat_cmp line other ≡ Less → other ≢ line
  after_differs other less same = not_below_itself nat_cmp nat_cmp_total line (subst (λ n. nat_cmp line n ≡ Less) same less)

  before_differs : (other : ℕ) → nat_cmp line other ≡ Greater → other ≢ line
  before_differs other more same = not_below_itself nat_cmp nat_cmp_total line (subst (λ n. nat_cmp n line ≡ Less) same (below_turned nat_cmp nat_cmp_total line other more))

  same_ticks : (lines : List ℕ) → ((other : ℕ) → Has lines other → other ≢ line) → map (tick old) lines ≡ map (tick new) lines
  same_ticks lines differ = map_alike (tick old) (tick new) lines (λ other has. same_tick other (differ other has))

  put_by_order : (first : ℕ) (rest : List ℕ) (r : Ordering) → nat_cmp line first ≡ r → Rises nat_cmp (first ∷ rest) → (¬ Has (first ∷ rest) line → old line ≡ 0)
      → (r ≡ Greater → put_line line (map (tick old) rest) ≡ map (tick new) (insert_sorted nat_cmp line rest))
      → put_before r line (tick old first) (map (tick old) rest) (put_line line (map (tick old) rest))
      ≡ map (tick new) (cond (is_lt r) (line ∷ first ∷ rest) (cond (is_eq r) (first ∷ rest) (first ∷ insert_sorted nat_cmp line rest)))
  put_by_order first rest Less e rises none later =
      let after : (other : ℕ) → Has (first ∷ rest) other → other ≢ line = (λ other has. elim has [
        | inl same ↦ subst (λ n. n ≢ line) same (after_differs first e)
        | inr more ↦ after_differs other (nat_cmp_total.trans line first other e (after_has nat_cmp first other rest rises.0 more))
      ]) in
      let one : 1 ≡ new line = omega (arith, here, none (λ has. after line has refl)) in
      ap₂ {C = List LineTicks} (λ n l. record { line = line; ticks = n } ∷ l) one (same_ticks (first ∷ rest) after)
  put_by_order first rest Equal e rises none later =
      let same : line ≡ first = exact_unsigned line first e in
      let more : old first + 1 ≡ new first = subst (λ n. old n + 1 ≡ new n) same (sym here) in
      ap₂ {C = List LineTicks} (λ n l. record { line = first; ticks = n } ∷ l) more
      (same_ticks rest (λ other has. after_differs other (subst (λ n. nat_cmp n other ≡ Less) (sym same) (after_has nat_cmp first other rest rises.0 has))))
  put_by_order first rest Greater e rises none later = ap₂ (λ t l. t ∷ l) (same_tick first (before_differs first e)) (later refl)

  pub put_line-ticks : (lines : List ℕ) → Rises nat_cmp lines → (¬ Has lines line → old line ≡ 0) → put_line line (map (tick old) lines) ≡ map (tick new) (insert_sorted nat_cmp line lines)
  put_line-ticks [] rises none = let one : 1 ≡ new line = omega (arith, here, none (λ h. h)) in ap {B = List LineTicks} (λ n. record { line = line; ticks = n } ∷ []) one
  put_line-ticks (first ∷ rest) rises none =
      put_by_order first rest (nat_cmp line first) refl rises none
      (λ more. put_line-ticks rest rises.1 (λ absent. none (λ has. elim has [ inl same ↦ before_differs first more same | inr there ↦ absent there ])))
