-- Steps down from a node: to a child that is there, or to one that is made.
use Rattle.std.proofs.Common.{◌≡◌, ℕ, ◌<◌, ◌^◌, List, [], ◌∷◌, ◌++◌, length, inl, inr, refl, sym, ap, ap₂, ◌∙◌, subst, arith}
use Rattle.std.specs.Prelude.{Some}
use Rattle.std.specs.List.{Contains, slice_get}
use Rattle.std.proofs.lemmas.List.{append-nil, get_or_default, get_or_at, length-append}
use Rattle.std.proofs.lemmas.Option.{slice_get-get_or}
use Rattle.prof_base.proofs.Ordered.{has_from_contains}
use Rattle.code_event.specs.declared.path.PathStep.{PathStep}
use Rattle.profile_tree.specs.Node.{LinkedNode}
use Rattle.profile_tree.specs.Arena.{node_at, with_child, with_last}
use Rattle.profile_tree.specs.Linked.{path_at, paths_of, IsChild, Linked}
use Rattle.profile_tree.specs.Children.{IsByStep, IsBetween}
use Rattle.profile_tree.specs.Grown.{Grown, grown, GrownBy, IsStepDown}
use Rattle.profile_tree.proofs.PathsAfter.{length-paths_of}
use Rattle.profile_tree.proofs.LinkedNodes.{linked_written}
use Rattle.profile_tree.proofs.LinkedChild.{unseen, child_new, linked_child, paths_of-with_child}
use Rattle.profile_tree.proofs.GrownNodes.{grown-with_last, counts-with_child}

-- a child was reached
pub record Reached (before after : List LinkedNode) (parent : ℕ) (step : PathStep) (key : ℕ) : Type 0 where
  pub linked : Linked after
  pub within : parent < length after
  pub child : IsChild after parent key
  pub down : IsStepDown (grown before) (grown after) parent step key

only_one : {X : Type 0} (x y : X) → Contains (x ∷ []) y → y ≡ x
only_one x y h = elim (has_from_contains (x ∷ []) y h) [ inl same ↦ sym same | inr none ↦ absurd none ]

none_there : {X : Type 0} (x : X) → Contains [] x → ⊥
none_there x h = has_from_contains [] x h

-- nothing changes
pub grown_by_none : (tree : Grown) → GrownBy tree tree []
grown_by_none tree = record { paths = sym (append-nil tree.paths); counts = sym (append-nil tree.counts); unseen = λ path h. absurd (none_there path h) }

path_of_child : (nodes : List LinkedNode) (parent key : ℕ) (step : PathStep) → Linked nodes → IsByStep nodes parent step key → path_at (paths_of nodes) key ≡ path_at (paths_of nodes) parent ++ step ∷ []
path_of_child nodes parent key step linked found =
    let placed = linked.placed key found.child.later found.child.within in
    let same : placed.step ≡ step = some_same placed.step step (sym placed.by ∙ found.by) in
    placed.path ∙ ap₂ (λ p s. path_at (paths_of nodes) p ++ s ∷ []) found.child.under same
  where
    some_same : (one other : PathStep) → Some one ≡ Some other → one ≡ other
    some_same one other e = cc

pub found_down : (nodes : List LinkedNode) (parent key : ℕ) (step : PathStep) → Linked nodes → IsByStep nodes parent step key → IsStepDown (grown nodes) (grown nodes) parent step key
found_down nodes parent key step linked found =
    let low : key < length (paths_of nodes) = omega (arith, length-paths_of nodes, found.child.within) in
    record {
      more = [];
      grown = grown_by_none (grown nodes);
      alone = λ path h. absurd (none_there path h);
      named = slice_get-get_or (paths_of nodes) key [] low ∙ ap (λ p. Some p) (path_of_child nodes parent key step linked found);
    }

pub found_reached : (nodes : List LinkedNode) (parent key : ℕ) (step : PathStep) → Linked nodes → parent < length nodes → IsByStep nodes parent step key → Reached nodes nodes parent step key
found_reached nodes parent key step linked low found = record { linked = linked; within = low; child = found.child; down = found_down nodes parent key step linked found }

module _ (nodes : List LinkedNode) (parent at : ℕ) (step : PathStep) (linked : Linked nodes) (low : parent < length nodes) (between : IsBetween nodes (node_at nodes parent).children step at)
    (few : length (with_child nodes parent at step) < 2 ^ 32) where
  abbrev new_path : List PathStep
  new_path = path_at (paths_of nodes) parent ++ step ∷ []

  new_unseen : (path : List PathStep) → path ≡ new_path → Contains (paths_of nodes) path → ⊥
  new_unseen path e h =
      unseen (paths_of nodes) nodes parent at step linked low between h.0 (omega (arith, h.1, length-paths_of nodes))
      (get_or_default (paths_of nodes) h.0 [] path h.1 ∙ h.2 ∙ e)

  made_named : slice_get (paths_of (with_child nodes parent at step)) (length nodes) ≡ Some new_path
  made_named =
      let listed = paths_of-with_child nodes parent at step in
      let low' : length nodes < length (paths_of nodes ++ new_path ∷ []) = omega (arith, length-paths_of nodes, length-append (paths_of nodes) (new_path ∷ [])) in
      ap (λ l. slice_get l (length nodes)) listed ∙ slice_get-get_or (paths_of nodes ++ new_path ∷ []) (length nodes) [] low'
      ∙ ap (λ p. Some p) (get_or_at (paths_of nodes) new_path [] [] (length nodes) (length-paths_of nodes))

  pub made_reached : Reached nodes (with_child nodes parent at step) parent step (length nodes)
  made_reached =
      let after = linked_child nodes parent at step linked low between few in
      let child = child_new (paths_of nodes) nodes parent at step linked low between (length nodes) refl in
      record {
        linked = after;
        within = omega (arith, low, child.within);
        child = child;
        down = record {
          more = new_path ∷ [];
          grown = record {
            paths = paths_of-with_child nodes parent at step;
            counts = counts-with_child nodes parent at step low;
            unseen = λ path h. new_unseen path (only_one new_path path h);
          };
          alone = λ path h. only_one new_path path h;
          named = made_named;
        };
      }

pub last_linked : (before after : List LinkedNode) (parent key : ℕ) (step : PathStep) → Reached before after parent step key → Linked (with_last after parent key)
last_linked before after parent key step reached =
    linked_written after parent (record (node_at after parent) { last = Some key }) reached.linked reached.within (record { step = refl; parent = refl; children = refl }) (reached.linked.few_hits parent reached.within)
    (λ child e. let same : key ≡ child = cc in subst (IsChild after parent) same reached.child)

pub last_down : (before after : List LinkedNode) (parent key : ℕ) (step : PathStep) → Reached before after parent step key → IsStepDown (grown before) (grown (with_last after parent key)) parent step key
last_down before after parent key step reached = subst (λ g. IsStepDown (grown before) g parent step key) (sym (grown-with_last after parent key reached.within)) reached.down

-- the same, at equal nodes and keys
pub reached_as : (before one other : List LinkedNode) (parent : ℕ) (step : PathStep) (key child : ℕ) → other ≡ one → child ≡ key → Reached before one parent step key → Reached before other parent step child
reached_as before one other parent step key child nodes keys reached =
    subst (λ n. Reached before n parent step child) (sym nodes) (subst (Reached before one parent step) (sym keys) reached)

pub down_as : (before one after other : Grown) (parent : ℕ) (step : PathStep) (key : ℕ) → before ≡ one → after ≡ other → IsStepDown before after parent step key → IsStepDown one other parent step key
down_as before one after other parent step key first second down =
    subst (λ g. IsStepDown g other parent step key) first (subst (λ g. IsStepDown before g parent step key) second down)
