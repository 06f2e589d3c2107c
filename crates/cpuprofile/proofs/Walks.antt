-- Walks along children: where each number but the first is a child of exactly one place, each node is reached by exactly one.
use Rattle.std.proofs.Common.{◌≡◌, ◌≢◌, ℕ, zero, suc, ◌+◌, ◌<◌, ◌≤◌, List, [], ◌∷◌, ◌++◌, ◌⊎◌, inl, inr, cond, Bool, true, false, Option, Some, None, eqb, eqb-true, eq-eqb, ne_eqb, refl, sym, ap, ap₂, ◌∙◌, arith}
use Rattle.std.specs.Prelude.{flat_map, option_and_then}
use Rattle.std.specs.List.{AllByRecursion, slice_get}
use Rattle.prof_base.proofs.Ordered.{Has}
use Rattle.cpuprofile.specs.declared.profile.FileNode.{FileNode}
use Rattle.cpuprofile.specs.Valid.{ids, AreDifferent, children_of, walk_end}
use Rattle.cpuprofile.proofs.Once.{times_in, times_in-append, has_times, got_has, has_got, one_place}
use Rattle.cpuprofile.proofs.Each.{each_has}

abbrev pub all_children : List FileNode → List ℕ
all_children nodes = flat_map (λ node. node.children) nodes

pub has_first : {X : Type 0} (xs ys : List X) (x : X) → Has xs x → Has (xs ++ ys) x
has_first [] ys x h = absurd h
has_first (y ∷ xs) ys x (inl e) = inl e
has_first (y ∷ xs) ys x (inr h) = inr (has_first xs ys x h)

pub has_second : {X : Type 0} (xs ys : List X) (x : X) → Has ys x → Has (xs ++ ys) x
has_second [] ys x h = h
has_second (y ∷ xs) ys x h = inr (has_second xs ys x h)

pub has_either : {X : Type 0} (xs ys : List X) (x : X) → Has (xs ++ ys) x → Has xs x ⊎ Has ys x
has_either [] ys x h = inr h
has_either (y ∷ xs) ys x (inl e) = inl (inl e)
has_either (y ∷ xs) ys x (inr h) = elim (has_either xs ys x h) [ inl one ↦ inl (inr one) | inr other ↦ inr other ]

-- a child that is looked up is among all children
looked_up_case : (b : Bool) (xs ys rest : List ℕ) (i child : ℕ) → (slice_get ys i ≡ Some child → Has rest child) → slice_get (cond b xs ys) i ≡ Some child → Has (xs ++ rest) child
looked_up_case true xs ys rest i child later e = has_first xs rest child (got_has xs i child e)
looked_up_case false xs ys rest i child later e = has_second xs rest child (later e)

looked_up : (nodes : List FileNode) (id i child : ℕ) → slice_get (children_of nodes id) i ≡ Some child → Has (all_children nodes) child
looked_up [] id i child e = absurd (cc)
looked_up (node ∷ nodes) id i child e = looked_up_case (eqb node.id id) node.children (children_of nodes id) (all_children nodes) i child (looked_up nodes id i child) e

-- ---- a child has one parent and one place there

one_parent_case : (p q own child i j : ℕ) (xs ys zs rest : List ℕ) (a b : Bool) → eqb own p ≡ a → eqb own q ≡ b → times_in xs child + times_in rest child ≤ 1
    → (slice_get ys i ≡ Some child → Has rest child) → (slice_get zs j ≡ Some child → Has rest child)
    → (slice_get ys i ≡ Some child → slice_get zs j ≡ Some child → (p ≡ q) × (i ≡ j))
    → slice_get (cond a xs ys) i ≡ Some child → slice_get (cond b xs zs) j ≡ Some child → (p ≡ q) × (i ≡ j)
one_parent_case p q own child i j xs ys zs rest true true is_p is_q once in_ys in_zs later e f =
    (sym (eqb-true own p is_p) ∙ eqb-true own q is_q, one_place xs child i j (omega arith) e f)
one_parent_case p q own child i j xs ys zs rest true false is_p is_q once in_ys in_zs later e f =
    absurd (omega (arith, has_times xs child (got_has xs i child e), has_times rest child (in_zs f)))
one_parent_case p q own child i j xs ys zs rest false true is_p is_q once in_ys in_zs later e f =
    absurd (omega (arith, has_times xs child (got_has xs j child f), has_times rest child (in_ys e)))
one_parent_case p q own child i j xs ys zs rest false false is_p is_q once in_ys in_zs later e f = later e f

one_parent : (nodes : List FileNode) (p q child i j : ℕ) → times_in (all_children nodes) child ≤ 1 → slice_get (children_of nodes p) i ≡ Some child → slice_get (children_of nodes q) j ≡ Some child → (p ≡ q) × (i ≡ j)
one_parent [] p q child i j once e f = absurd (cc)
one_parent (node ∷ nodes) p q child i j once e f =
    let both = times_in-append node.children (all_children nodes) child in
    one_parent_case p q node.id child i j node.children (children_of nodes p) (children_of nodes q) (all_children nodes) (eqb node.id p) (eqb node.id q) refl refl (omega (arith, both))
    (looked_up nodes p i child) (looked_up nodes q j child) (λ g h. one_parent nodes p q child i j (omega (arith, both)) g h) e f

-- ---- each child has a parent

pub record HasParent (nodes : List FileNode) (child : ℕ) : Type 0 where
  pub parent : ℕ
  pub place : ℕ
  pub stands : Has (ids nodes) parent
  pub got : slice_get (children_of nodes parent) place ≡ Some child

has_parent : (nodes : List FileNode) (child : ℕ) → AreDifferent (ids nodes) → Has (all_children nodes) child → HasParent nodes child
has_parent [] child different h = absurd h
has_parent (node ∷ nodes) child different h = elim (has_either node.children (all_children nodes) child h) [
  | inl own ↦
      let got = has_got node.children child own in
      record {
        parent = node.id;
        place = got.0;
        stands = inl refl;
        got = ap (λ b. slice_get (cond b node.children (children_of nodes node.id)) got.0) (eq-eqb node.id node.id refl) ∙ got.1;
      }
  | inr later ↦
      let rest = has_parent nodes child different.1 later in
      let other : node.id ≢ rest.parent = λ e. each_has (λ other. other ≢ node.id) (ids nodes) rest.parent different.0 rest.stands (sym e) in
      record {
        parent = rest.parent;
        place = rest.place;
        stands = inr rest.stands;
        got = ap (λ b. slice_get (cond b node.children (children_of nodes rest.parent)) rest.place) (ne_eqb node.id rest.parent other) ∙ rest.got;
      }
]

-- ---- a child comes after its parent

abbrev pub ChildrenLater : FileNode → Type 0
ChildrenLater node = AllByRecursion (λ child. node.id < child) node.children

later_case : (own id i child : ℕ) (xs ys : List ℕ) (b : Bool) → eqb own id ≡ b → AllByRecursion (λ c. own < c) xs → (slice_get ys i ≡ Some child → id < child) → slice_get (cond b xs ys) i ≡ Some child → id < child
later_case own id i child xs ys true is all later e =
    let same = eqb-true own id is in
    let less : own < child = each_has (λ c. own < c) xs child all (got_has xs i child e) in
    omega (arith, same, less)
later_case own id i child xs ys false is all later e = later e

child_later : (nodes : List FileNode) → AllByRecursion ChildrenLater nodes → (id i child : ℕ) → slice_get (children_of nodes id) i ≡ Some child → id < child
child_later [] all id i child e = absurd (cc)
child_later (node ∷ nodes) all id i child e = later_case node.id id i child node.children (children_of nodes id) (eqb node.id id) refl all.0 (child_later nodes all.1 id i child) e

-- ---- walks

step_before : (f : ℕ → Option ℕ) (o : Option ℕ) (end : ℕ) → option_and_then f o ≡ Some end → (id : ℕ) × (o ≡ Some id) × (f id ≡ Some end)
step_before f None end e = absurd (cc)
step_before f (Some id) end e = (id, refl, e)

module _ (nodes : List FileNode) (first : ℕ) (later : AllByRecursion ChildrenLater nodes) where
  not_before : (walk : List ℕ) (end : ℕ) → walk_end nodes first walk ≡ Some end → first ≤ end
  not_before [] end e = let same : first ≡ end = cc in omega (arith, same)
  not_before (place ∷ before) end e =
      let step = step_before (λ id. slice_get (children_of nodes id) place) (walk_end nodes first before) end e in
      omega (arith, not_before before step.0 step.1, child_later nodes later step.0 place end step.2)

  after_first : (place : ℕ) (before : List ℕ) (end : ℕ) → walk_end nodes first (place ∷ before) ≡ Some end → first < end
  after_first place before end e =
      let step = step_before (λ id. slice_get (children_of nodes id) place) (walk_end nodes first before) end e in
      omega (arith, not_before before step.0 step.1, child_later nodes later step.0 place end step.2)

  pub one_walk : ((child : ℕ) → times_in (all_children nodes) child ≤ 1) → (walk other : List ℕ) (end : ℕ) → walk_end nodes first walk ≡ Some end → walk_end nodes first other ≡ Some end → other ≡ walk
  one_walk once [] [] end e f = refl
  one_walk once [] (j ∷ other) end e f = let same : first ≡ end = cc in absurd (omega (arith, same, after_first j other end f))
  one_walk once (i ∷ walk) [] end e f = let same : first ≡ end = cc in absurd (omega (arith, same, after_first i walk end e))
  one_walk once (i ∷ walk) (j ∷ other) end e f =
      let mine = step_before (λ id. slice_get (children_of nodes id) i) (walk_end nodes first walk) end e in
      let theirs = step_before (λ id. slice_get (children_of nodes id) j) (walk_end nodes first other) end f in
      let same = one_parent nodes theirs.0 mine.0 end j i (once end) theirs.2 mine.2 in
      ap₂ (λ place before. place ∷ before) same.1 (one_walk once walk other mine.0 mine.1 (theirs.1 ∙ ap Some same.0))

  -- a node is the first or a child, so a walk leads to it
  pub a_walk : AreDifferent (ids nodes) → ((id : ℕ) → Has (ids nodes) id → (first ≡ id) ⊎ Has (all_children nodes) id)
      → (most id : ℕ) → id ≤ most → Has (ids nodes) id → (walk : List ℕ) × (walk_end nodes first walk ≡ Some id)
  a_walk different each zero id low stands = elim (each id stands) [
    | inl root ↦ ([], ap Some root)
    | inr child ↦
        let up = has_parent nodes id different child in
        absurd (omega (arith, child_later nodes later up.parent up.place id up.got))
  ]
  a_walk different each (suc most) id low stands = elim (each id stands) [
    | inl root ↦ ([], ap Some root)
    | inr child ↦
        let up = has_parent nodes id different child in
        let less : up.parent < id = child_later nodes later up.parent up.place id up.got in
        let rest = a_walk different each most up.parent (omega (arith, less, low)) up.stands in
        (up.place ∷ rest.0, ap (option_and_then (λ id. slice_get (children_of nodes id) up.place)) rest.1 ∙ up.got)
  ]
