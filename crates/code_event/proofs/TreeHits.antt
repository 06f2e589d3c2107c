-- The hits of a tree: each is of exactly one node, and at exactly one line.
use Rattle.std.proofs.Common.{◌≡◌, ℕ, ◌+◌, List, [], ◌∷◌, map, cond, inl, inr, ◌&&◌, Bool, true, false, eqb, ltb, ltb-false, Ordering, Less, Equal, Greater, is_eq, refl, sym, ap, ap₂, ◌∙◌, subst, arith}
use Rattle.std.specs.Prelude.{count_by}
use Rattle.std.specs.List.{sum_by}
use Rattle.std.specs.Ordering.{nat_cmp, ordering_reverse}
use Rattle.std.specs.Cmp.{IsTotalOrder}
use Rattle.std.proofs.lemmas.Cmp.{tied_itself, nat_cmp_total}
use Rattle.std.proofs.lemmas.List.Sums.{sum_by-cons}
use Rattle.std.proofs.lemmas.Bool.{and_parts, cond_both}
use Rattle.std.proofs.lemmas.Bool.Decides.{nat_tests}
use Rattle.std.proofs.lemmas.Map.Lookups.{exact_unsigned}
use Rattle.code_event.specs.declared.path.PathStep.{PathStep}
use Rattle.code_event.specs.declared.visit.Visit.{Visit}
use Rattle.code_event.specs.declared.profile.LineTicks.{LineTicks}
use Rattle.code_event.specs.DeoptReasons.{DeoptReasons}
use Rattle.code_event.specs.Tree.{path_cmp, same_path, nodes, hits_node, hits, hits_at, hit_lines, line_ticks, fin_node, fin_nodes}
use Rattle.prof_base.specs.Ordered.{insert_sorted, AllAfter, Rises}
use Rattle.prof_base.proofs.Ordered.{Has, after_has, put_rises, put_has, put_keeps, after_put}
use Rattle.code_event.proofs.Counts.{count_cons}
use Rattle.code_event.proofs.TreeIds.{path_total, nodes_rise}
use Rattle.code_event.proofs.TreeNodes.{path_stands}

abbrev one_if : Bool → ℕ
one_if b = cond b 1 0

sum_by-zero : {A : Type 0} (xs : List A) → sum_by (λ x. 0) xs ≡ 0
sum_by-zero [] = refl
sum_by-zero (x ∷ xs) = sum_by-cons (λ x. 0) x xs ∙ ap (λ n. 0 + n) (sum_by-zero xs)

sum_by-plus : {A : Type 0} (f g : A → ℕ) (xs : List A) → sum_by (λ x. f x + g x) xs ≡ sum_by f xs + sum_by g xs
sum_by-plus f g [] = refl
sum_by-plus f g (x ∷ xs) = omega (arith, sum_by-cons (λ x. f x + g x) x xs, sum_by-cons f x xs, sum_by-cons g x xs, sum_by-plus f g xs)

sum_by-map : {A B : Type 0} (f : B → ℕ) (g : A → B) (xs : List A) → sum_by f (map g xs) ≡ sum_by (λ x. f (g x)) xs
sum_by-map f g [] = refl
sum_by-map f g (x ∷ xs) = sum_by-cons f (g x) (map g xs) ∙ ap (λ n. f (g x) + n) (sum_by-map f g xs) ∙ sym (sum_by-cons (λ x. f (g x)) x xs)

module _ {K : Type 0} (R : K → K → Ordering) (o : IsTotalOrder R) (E : K → K → Bool) (same : (x y : K) → E x y ≡ is_eq (R x y)) where
  none_equal : (p x : K) (ys : List K) → R p x ≡ Equal → AllAfter R x ys → count_by (E p) ys ≡ 0
  none_equal p x [] e all = refl
  none_equal p x (y ∷ ys) e all =
      count_cons (E p) y ys ∙ ap₂ (λ b n. one_if b + n) (same p y ∙ ap is_eq (o.congr p x y e ∙ all.0)) (none_equal p x ys e all.1)

  one_equal : (p : K) (ys : List K) → Rises R ys → Has ys p → count_by (E p) ys ≡ 1
  one_equal p [] rises h = absurd h
  one_equal p (y ∷ ys) rises (inl e) =
      let tied : R p y ≡ Equal = ap (λ z. R p z) e ∙ tied_itself o p in
      count_cons (E p) y ys ∙ ap₂ (λ b n. one_if b + n) (same p y ∙ ap is_eq tied) (none_equal p y ys tied rises.0)
  one_equal p (y ∷ ys) rises (inr h) =
      count_cons (E p) y ys
      ∙ ap₂ (λ b n. one_if b + n) (same p y ∙ ap is_eq (o.antisymm p y ∙ ap ordering_reverse (after_has R y p ys rises.0 h))) (one_equal p ys rises.1 h)

  share : (ns : List K) → Rises R ns → (b : Bool) (p : K) → (b ≡ true → Has ns p) → sum_by (λ n. one_if (b && E p n)) ns ≡ one_if b
  share ns rises true p h = one_equal p ns rises (h refl)
  share ns rises false p h = sum_by-zero ns

  -- counted by the keys, each is counted once
  counted_once : {V : Type 0} (test : V → Bool) (key : V → K) (ns : List K) → Rises R ns → (vs : List V) → ((v : V) → Has vs v → test v ≡ true → Has ns (key v))
      → sum_by (λ n. count_by (λ v. test v && E (key v) n) vs) ns ≡ count_by test vs
  counted_once test key ns rises [] all = sum_by-zero ns
  counted_once test key ns rises (v ∷ vs) all =
      (λ i. sum_by (λ n. count_cons (λ v. test v && E (key v) n) v vs i) ns)
      ∙ sum_by-plus (λ n. one_if (test v && E (key v) n)) (λ n. count_by (λ v. test v && E (key v) n) vs) ns
      ∙ ap₂ (λ m n. m + n) (share ns rises (test v) (key v) (all v (inl refl))) (counted_once test key ns rises vs (λ w h. all w (inr h)))
      ∙ sym (count_cons test v vs)

pub hits_counted_once : (visits : List Visit) (reasons : DeoptReasons) → sum_by (λ node. node.hits) (fin_nodes visits reasons) ≡ count_by (λ visit. visit.hit) visits
hits_counted_once visits reasons =
    sum_by-map (λ node. node.hits) (fin_node (nodes visits) visits reasons) (nodes visits)
    ∙ counted_once path_cmp path_total same_path (λ x y. refl) (λ visit. visit.hit) (λ visit. visit.path) (nodes visits) (nodes_rise visits) visits
    (λ visit h hit. path_stands visits visit h)

-- ---- lines

zero_before : (line : ℕ) → ltb 0 line ≡ true → nat_cmp 0 line ≡ Less
zero_before line e = ap (λ b. cond b Less (cond (eqb 0 line) Equal Greater)) e

lines_rise : (visits : List Visit) (node : List PathStep) → Rises nat_cmp (0 ∷ hit_lines visits node)
lines_rise [] node = (tt, tt)
lines_rise (visit ∷ visits) node =
    let lines = hit_lines visits node in
    let rest = lines_rise visits node in
    cond_both (hits_node node visit && ltb 0 visit.line) (insert_sorted nat_cmp visit.line lines) lines (λ l. Rises nat_cmp (0 ∷ l))
    (λ e. (
      after_put nat_cmp nat_cmp_total 0 visit.line lines (zero_before visit.line (and_parts (hits_node node visit) (ltb 0 visit.line) e).1) rest.0,
      put_rises nat_cmp nat_cmp_total visit.line lines rest.1,
    ))
    (λ e. rest)

-- the line of the first tick is among them, where that is a hit
first_line : (visit : Visit) (visits : List Visit) (node : List PathStep) (above : Bool) → ltb 0 visit.line ≡ above → hits_node node visit ≡ true → Has (0 ∷ hit_lines (visit ∷ visits) node) visit.line
first_line visit visits node false low hit = let le = ltb-false 0 visit.line low in inl (omega arith)
first_line visit visits node true high hit =
    let lines = hit_lines visits node in
    inr
    (subst (λ b. Has (cond b (insert_sorted nat_cmp visit.line lines) lines) visit.line) (sym (ap₂ (λ a b. a && b) hit high))
    (put_has nat_cmp exact_unsigned visit.line lines))

later_line : (line : ℕ) (visit : Visit) (visits : List Visit) (node : List PathStep) → Has (hit_lines visits node) line → Has (hit_lines (visit ∷ visits) node) line
later_line line visit visits node h =
    let lines = hit_lines visits node in
    cond_both (hits_node node visit && ltb 0 visit.line) (insert_sorted nat_cmp visit.line lines) lines (λ l. Has l line)
    (λ e. put_keeps nat_cmp visit.line line lines h)
    (λ e. h)

has_line : (visits : List Visit) (node : List PathStep) (visit : Visit) → Has visits visit → hits_node node visit ≡ true → Has (0 ∷ hit_lines visits node) visit.line
has_line [] node visit h hit = absurd h
has_line (other ∷ visits) node visit (inl same) hit =
    subst (λ v. Has (0 ∷ hit_lines (other ∷ visits) node) v.line) same
    (first_line other visits node (ltb 0 other.line) refl (ap (hits_node node) same ∙ hit))
has_line (other ∷ visits) node visit (inr h) hit = elim (has_line visits node visit h hit) [
  | inl none ↦ inl none
  | inr line ↦ inr (later_line visit.line other visits node line)
]

same_number : (x y : ℕ) → eqb x y ≡ is_eq (nat_cmp x y)
same_number x y = grind (arith, nat_tests)

pub lines_count_hits : (visits : List Visit) (node : List PathStep) → sum_by (λ line. line.ticks) (line_ticks visits node) + hits_at visits node 0 ≡ hits visits node
lines_count_hits visits node =
    let lines = hit_lines visits node in
    omega (
      arith,
      sum_by-map {B = LineTicks} (λ line. line.ticks) (λ line. record { line = line; ticks = hits_at visits node line }) lines,
      sum_by-cons (hits_at visits node) 0 lines,
      counted_once nat_cmp nat_cmp_total eqb same_number (hits_node node) (λ visit. visit.line) (0 ∷ lines) (lines_rise visits node) visits (λ visit h hit. has_line visits node visit h hit),
    )
