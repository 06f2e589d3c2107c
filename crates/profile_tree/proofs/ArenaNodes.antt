-- The nodes of a dense slab.
use Rattle.std.proofs.Common.{◌≡◌, ℕ, zero, suc, ◌+◌, ◌<◌, ◌≤◌, List, [], ◌∷◌, ◌++◌, length, take, get_or, set, cond, true≢false, inl, inr, refl, sym, ap, ap₂, ◌∙◌, subst, arith}
use Rattle.std.specs.Prelude.{Option, Some, None, is_some, count_by}
use Rattle.std.specs.List.{insert}
use Rattle.std.proofs.lemmas.Bool.{cases_eq}
use Rattle.std.proofs.lemmas.List.{length-map, length-take-le, get_or-map, get_or-take, get_or_past, get_or-set_same, get_or-set_other, length-set, length-append, same_lists, get_or_append_left, get_or_at}
use Rattle.std.proofs.lemmas.List.Sums.{count_by-le-length, sum_by-cons}
use Rattle.slab.specs.Slab.{Slab, get, slab_len, with_value, Updates}
use Rattle.code_event.specs.declared.path.PathStep.{PathStep}
use Rattle.profile_tree.specs.Node.{LinkedNode, fresh}
use Rattle.profile_tree.specs.Arena.{or_blank, nodes_in, IsDense, node_at, with_child}

len_within : (slab : Slab LinkedNode) → slab_len slab ≤ length slab.slots
len_within slab = count_by-le-length is_some slab.slots

pub length-nodes_in : (slab : Slab LinkedNode) → length (nodes_in slab) ≡ slab_len slab
length-nodes_in slab =
    length-map (take (slab_len slab) slab.slots) or_blank ∙ length-take-le (slab_len slab) slab.slots (len_within slab)

node_at-nodes_in : (slab : Slab LinkedNode) (key : ℕ) (d : LinkedNode) → key < slab_len slab → get_or (nodes_in slab) key d ≡ or_blank (get slab key)
node_at-nodes_in slab key d low =
    let taken : key < length (take (slab_len slab) slab.slots) = omega (arith, length-take-le (slab_len slab) slab.slots (len_within slab)) in
    get_or-map or_blank (take (slab_len slab) slab.slots) key None d taken ∙ ap or_blank (get_or-take (slab_len slab) slab.slots key None low)

blank_from_some : (slot : Option LinkedNode) (node : LinkedNode) → slot ≡ Some node → or_blank slot ≡ node
blank_from_some slot node e = ap or_blank e

pub node_at-some : (slab : Slab LinkedNode) (key : ℕ) (node : LinkedNode) → key < slab_len slab → get slab key ≡ Some node → node_at (nodes_in slab) key ≡ node
node_at-some slab key node low e = node_at-nodes_in slab key (fresh 0 None) low ∙ ap or_blank e

pub some_within : (slab : Slab LinkedNode) (key : ℕ) (node : LinkedNode) → get slab key ≡ Some node → key < length slab.slots
some_within slab key node e = grind (arith, get_or_past)

-- a write of a value keeps how many there are
count_set : (slots : List (Option LinkedNode)) (key : ℕ) (old new : LinkedNode) → get_or slots key None ≡ Some old → count_by is_some (set slots key (Some new)) ≡ count_by is_some slots
count_set [] key old new e = refl
count_set (slot ∷ slots) zero old new e =
    sum_by-cons (λ o. cond (is_some o) 1 0) (Some new) slots ∙ ap (λ o. cond (is_some o) 1 0 + count_by is_some slots) (sym e)
    ∙ sym (sum_by-cons (λ o. cond (is_some o) 1 0) slot slots)
count_set (slot ∷ slots) (suc key) old new e =
    sum_by-cons (λ o. cond (is_some o) 1 0) slot (set slots key (Some new)) ∙ ap (λ n. cond (is_some slot) 1 0 + n) (count_set slots key old new e)
    ∙ sym (sum_by-cons (λ o. cond (is_some o) 1 0) slot slots)

pub len-with_value : (slab : Slab LinkedNode) (key : ℕ) (old new : LinkedNode) → get slab key ≡ Some old → slab_len (with_value slab key new) ≡ slab_len slab
len-with_value slab key old new e = count_set slab.slots key old new e

pub get-with_value : (slab : Slab LinkedNode) (key : ℕ) (old new : LinkedNode) → get slab key ≡ Some old → Updates slab (with_value slab key new) key (Some new)
get-with_value slab key old new e =
    record {
      changed = get_or-set_same slab.slots key (Some new) None (some_within slab key old e);
      others = λ other differs. get_or-set_other slab.slots key other (Some new) None differs;
    }

-- a write changes one node
pub nodes_in-written : (old new : Slab LinkedNode) (key : ℕ) (node : LinkedNode) → slab_len new ≡ slab_len old → Updates old new key (Some node) → key < slab_len old → nodes_in new ≡ set (nodes_in old) key node
nodes_in-written old new key node len updates low =
    let long = length-nodes_in new in
    let short = length-nodes_in old in
    same_lists (nodes_in new) (set (nodes_in old) key node) (omega (arith, length-set (nodes_in old) key node))
    (λ k d within. elim (cases_eq k key) [
      | inl same ↦
          node_at-nodes_in new k d (omega arith) ∙ ap (λ j. or_blank (get new j)) same ∙ ap or_blank updates.changed
          ∙ sym (ap (λ j. get_or (set (nodes_in old) key node) j d) same ∙ get_or-set_same (nodes_in old) key node d (omega arith))
      | inr differs ↦
          node_at-nodes_in new k d (omega arith) ∙ ap or_blank (updates.others k differs) ∙ sym (node_at-nodes_in old k d (omega arith))
          ∙ sym (get_or-set_other (nodes_in old) key k node d differs)
    ])

pub dense_written : (old new : Slab LinkedNode) (key : ℕ) (node : LinkedNode) → slab_len new ≡ slab_len old → Updates old new key (Some node) → IsDense old → IsDense new
dense_written old new key node len updates dense k low = elim (cases_eq k key) [
  | inl same ↦ ap (λ j. is_some (get new j)) same ∙ ap is_some updates.changed
  | inr differs ↦ ap is_some (updates.others k differs) ∙ dense k (omega arith)
]

-- one more at the key that is the number of nodes
pub nodes_in-pushed : (old new : Slab LinkedNode) (key : ℕ) (node : LinkedNode) → key ≡ slab_len old → slab_len new ≡ slab_len old + 1 → Updates old new key (Some node) → nodes_in new ≡ nodes_in old ++ node ∷ []
nodes_in-pushed old new key node next len updates =
    let long = length-nodes_in new in
    let short = length-nodes_in old in
    same_lists (nodes_in new) (nodes_in old ++ node ∷ []) (omega (arith, length-append (nodes_in old) (node ∷ [])))
    (λ k d within. elim (cases_eq k key) [
      | inl same ↦
          node_at-nodes_in new k d (omega arith) ∙ ap (λ j. or_blank (get new j)) same ∙ ap or_blank updates.changed
          ∙ sym (get_or_at (nodes_in old) node [] d k (omega arith))
      | inr differs ↦
          let low : k < slab_len old = omega arith in
          node_at-nodes_in new k d (omega arith) ∙ ap or_blank (updates.others k differs) ∙ sym (node_at-nodes_in old k d low)
          ∙ sym (get_or_append_left (nodes_in old) (node ∷ []) d k (omega arith))
    ])

pub dense_pushed : (old new : Slab LinkedNode) (key : ℕ) (node : LinkedNode) → key ≡ slab_len old → slab_len new ≡ slab_len old + 1 → Updates old new key (Some node) → IsDense old → IsDense new
dense_pushed old new key node next len updates dense k low = elim (cases_eq k key) [
  | inl same ↦ ap (λ j. is_some (get new j)) same ∙ ap is_some updates.changed
  | inr differs ↦ ap is_some (updates.others k differs) ∙ dense k (omega arith)
]

-- ---- by the nodes that a slab has

pub written_value : (slab : Slab LinkedNode) (nodes : List LinkedNode) (key : ℕ) (old new : LinkedNode) → nodes_in slab ≡ nodes → key < length nodes → get slab key ≡ Some old → nodes_in (with_value slab key new) ≡ set nodes key new
written_value slab nodes key old new is low e =
    let within : key < slab_len slab = omega (arith, length-nodes_in slab, ap length is) in
    nodes_in-written slab (with_value slab key new) key new (len-with_value slab key old new e) (get-with_value slab key old new e) within
    ∙ ap (λ l. set l key new) is

pub shown_value : (slab : Slab LinkedNode) (nodes : List LinkedNode) (key : ℕ) (old : LinkedNode) → nodes_in slab ≡ nodes → key < length nodes → get slab key ≡ Some old → old ≡ node_at nodes key
shown_value slab nodes key old is low e =
    let within : key < slab_len slab = omega (arith, length-nodes_in slab, ap length is) in
    sym (node_at-some slab key old within e) ∙ ap (λ l. node_at l key) is

pub not_absent : (slab : Slab LinkedNode) (nodes : List LinkedNode) (key : ℕ) → IsDense slab → nodes_in slab ≡ nodes → key < length nodes → get slab key ≡ None → ⊥
not_absent slab nodes key dense is low e =
    let within : key < slab_len slab = omega (arith, length-nodes_in slab, ap length is) in
    true≢false (sym (dense key within) ∙ ap is_some e)

-- a child is put among its parent's, and pushed
module _ (before written after : Slab LinkedNode) (nodes : List LinkedNode) (parent at key : ℕ) (step : PathStep) (old new child : LinkedNode)
    (is : nodes_in before ≡ nodes) (low : parent < length nodes) (shown : get before parent ≡ Some old) (write : written ≡ with_value before parent new)
    (put : new ≡ record old { children = insert old.children at (length nodes) }) (made : child ≡ fresh parent (Some step))
    (next : key ≡ length nodes) (len : slab_len after ≡ slab_len written + 1) (updates : Updates written after key (Some child)) where
  written_is : nodes_in written ≡ set nodes parent (record (node_at nodes parent) { children = insert (node_at nodes parent).children at (length nodes) })
  written_is =
      ap nodes_in write ∙ written_value before nodes parent old new is low shown
      ∙ ap (set nodes parent) (put ∙ ap {A = LinkedNode} (λ n. record n { children = insert n.children at (length nodes) }) (shown_value before nodes parent old is low shown))

  written_count : slab_len written ≡ length nodes
  written_count =
      sym (length-nodes_in written) ∙ ap length written_is
      ∙ length-set nodes parent (record (node_at nodes parent) { children = insert (node_at nodes parent).children at (length nodes) })

  pub pushed_child : nodes_in after ≡ with_child nodes parent at step
  pushed_child = nodes_in-pushed written after key child (next ∙ sym written_count) len updates ∙ ap₂ (λ l n. l ++ n ∷ []) written_is made

  pub pushed_child_dense : IsDense before → IsDense after
  pushed_child_dense dense =
      dense_pushed written after key child (next ∙ sym written_count) len updates
      (subst IsDense (sym write)
      (dense_written before (with_value before parent new) parent new (len-with_value before parent old new shown) (get-with_value before parent old new shown) dense))
