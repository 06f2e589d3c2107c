-- The child by a step.
use Rattle.std.proofs.Common.{◌≡◌, ℕ, ◌+◌, ◌<◌, List, [], ◌∷◌, length, inl, inr, true, true≢false, Ordering, Less, Equal, Greater, is_eq, refl, sym, ap, subst, arith}
use Rattle.std.specs.Prelude.{Option, Some, None, slice_index}
use Rattle.std.specs.Ordering.{ordering_then}
use Rattle.std.proofs.lemmas.Bool.{cases_eq}
use Rattle.std.proofs.lemmas.List.{same_from_push}
use Rattle.std.proofs.lemmas.List.Elements.{Contains-get_or}
use Rattle.code_event.specs.Tree.{path_step_cmp}
use Rattle.code_event.specs.declared.path.PathStep.{PathStep}
use Rattle.code_event.proofs.TreePaths.{exact_path}
use Rattle.profile_tree.specs.Node.{LinkedNode, step_order}
use Rattle.profile_tree.specs.Arena.{node_at}
use Rattle.profile_tree.specs.Linked.{Linked, IsChild}
use Rattle.profile_tree.specs.Children.{IsByStep}

is_equal : (r : Ordering) → is_eq r ≡ true → r ≡ Equal
is_equal Less e = absurd (true≢false (sym e))
is_equal Equal e = refl
is_equal Greater e = absurd (true≢false (sym e))

same_step : (one other : PathStep) → path_step_cmp one other ≡ Equal → other ≡ one
same_step one other e = sym (same_from_push [] [] one other (exact_path (one ∷ []) (other ∷ []) (ap (λ r. ordering_then r Equal) e))).1

by_step : (step : PathStep) (o : Option PathStep) → step_order step o ≡ Equal → o ≡ Some step
by_step step None e = absurd (true≢false (ap is_eq (sym e)))
by_step step (Some other) e = ap (λ s. Some s) (same_step step other e)

pub child_by_step : (nodes : List LinkedNode) (parent child : ℕ) (step : PathStep) → IsChild nodes parent child → is_eq (step_order step (node_at nodes child).step) ≡ true → IsByStep nodes parent step child
child_by_step nodes parent child step is e = record { child = is; by = by_step step (node_at nodes child).step (is_equal (step_order step (node_at nodes child).step) e) }

pub child_at : (nodes : List LinkedNode) (parent at : ℕ) → Linked nodes → parent < length nodes → at < length (node_at nodes parent).children → IsChild nodes parent (slice_index (node_at nodes parent).children at)
child_at nodes parent at linked low within =
    linked.children parent (slice_index (node_at nodes parent).children at) low (Contains-get_or (node_at nodes parent).children at 0 within)

pub below_more : (P : ℕ → Type 0) (n : ℕ) → ((k : ℕ) → k < n → P k) → P n → (k : ℕ) → k < n + 1 → P k
below_more P n h here k low = elim (cases_eq k n) [ inl same ↦ subst P (sym same) here | inr differs ↦ h k (omega arith) ]
