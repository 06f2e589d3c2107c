-- The way down along a path, step by step.
use Rattle.std.proofs.Common.{◌≡◌, ℕ, List, [], ◌∷◌, ◌++◌, map, take, drop, ◌⊎◌, inl, inr, refl, sym, ap, ap₂, ◌∙◌, subst}
use Rattle.std.specs.Prelude.{Some}
use Rattle.std.specs.List.{Contains, slice_get}
use Rattle.std.proofs.lemmas.List.{append-nil, append_assoc, map-append}
use Rattle.std.proofs.lemmas.List.Elements.{Contains-append_left, Contains-append_cases}
use Rattle.std.proofs.lemmas.Option.{get_or_from_slice_get, slice_get_within}
use Rattle.prof_base.specs.Prefix.{IsPrefix}
use Rattle.prof_base.proofs.Ordered.{has_from_contains}
use Rattle.code_event.specs.declared.path.PathStep.{PathStep}
use Rattle.profile_tree.specs.Linked.{path_at}
use Rattle.profile_tree.specs.Grown.{Grown, no_counts, IsStepDown, GrowsAlong}
use Rattle.profile_tree.proofs.StepDowns.{grown_by_none}

-- a prefix of a list with one more is that list, or a prefix of it without the last
prefix_push : {A : Type 0} (part path : List A) (x : A) → IsPrefix part (path ++ x ∷ []) → (part ≡ path ++ x ∷ []) ⊎ IsPrefix part path
prefix_push [] path x h = inr (path, refl)
prefix_push (y ∷ part) [] x h =
    let same : y ∷ [] ≡ x ∷ [] = ap (λ l. take 1 l) (sym h.1) in
    let rest : [] ≡ part ++ h.0 = ap (λ l. drop 1 l) h.1 in
    inl (ap₂ (λ l m. l ++ m) same (no_part part h.0 rest))
  where
    no_part : {A : Type 0} (xs ys : List A) → [] ≡ xs ++ ys → xs ≡ []
    no_part [] ys e = refl
    no_part (z ∷ zs) ys e = cc
prefix_push (y ∷ part) (z ∷ path) x h =
    let same : z ∷ [] ≡ y ∷ [] = ap (λ l. take 1 l) h.1 in
    let rest : path ++ x ∷ [] ≡ part ++ h.0 = ap (λ l. drop 1 l) h.1 in
    elim (prefix_push part path x (h.0, rest)) [
      | inl whole ↦ inl (ap₂ (λ l m. l ++ m) (sym same) whole)
      | inr begins ↦ inr (begins.0, ap₂ (λ l m. l ++ m) same begins.1)
    ]

pub prefix_longer : {A : Type 0} (part path more : List A) → IsPrefix part path → IsPrefix part (path ++ more)
prefix_longer part path more h = (h.0 ++ more, ap (λ l. l ++ more) h.1 ∙ append_assoc part h.0 more)

pub prefix_whole : {A : Type 0} (part path : List A) → part ≡ path → IsPrefix part path
prefix_whole part path e = ([], sym e ∙ sym (append-nil part))

no_prefix : {A : Type 0} (part : List A) → IsPrefix part [] → part ≡ []
no_prefix [] h = refl
no_prefix (x ∷ part) h = let e : [] ≡ x ∷ (part ++ h.0) = h.1 in cc

pub contains_named : (paths : List (List PathStep)) (key : ℕ) (path : List PathStep) → slice_get paths key ≡ Some path → Contains paths path
contains_named paths key path e = (key, slice_get_within paths key path e, get_or_from_slice_get paths key path path e)

pub starts_along : (tree : Grown) (key : ℕ) → slice_get tree.paths key ≡ Some [] → GrowsAlong tree tree [] key
starts_along tree key named = record {
  more = [];
  grown = grown_by_none tree;
  alone = λ node h. absurd (has_from_contains [] node h);
  whole = λ node h. subst (Contains tree.paths) (sym (no_prefix node h)) (contains_named tree.paths key [] named);
  named = named;
}

module _ (first old new : Grown) (path : List PathStep) (step : PathStep) (key child : ℕ) (along : GrowsAlong first old path key) (down : IsStepDown old new key step child) where
  longer : path_at old.paths key ++ step ∷ [] ≡ path ++ step ∷ []
  longer = ap (λ p. p ++ step ∷ []) (get_or_from_slice_get old.paths key path [] along.named)

  named_child : slice_get new.paths child ≡ Some (path ++ step ∷ [])
  named_child = down.named ∙ ap (λ p. Some p) longer

  both_unseen : (node : List PathStep) → Contains (along.more ++ down.more) node → ¬ Contains first.paths node
  both_unseen node h was = elim (Contains-append_cases along.more down.more node h) [
    | inl one ↦ along.grown.unseen node one was
    | inr other ↦ down.grown.unseen node other (subst (λ l. Contains l node) (sym along.grown.paths) (Contains-append_left first.paths along.more node was))
  ]

  both_alone : (node : List PathStep) → Contains (along.more ++ down.more) node → IsPrefix node (path ++ step ∷ [])
  both_alone node h = elim (Contains-append_cases along.more down.more node h) [
    | inl one ↦ prefix_longer node path (step ∷ []) (along.alone node one)
    | inr other ↦ prefix_whole node (path ++ step ∷ []) (down.alone node other ∙ longer)
  ]

  both_whole : (node : List PathStep) → IsPrefix node (path ++ step ∷ []) → Contains new.paths node
  both_whole node h = elim (prefix_push node path step h) [
    | inl whole ↦ subst (Contains new.paths) (sym whole) (contains_named new.paths child (path ++ step ∷ []) named_child)
    | inr begins ↦ subst (λ l. Contains l node) (sym down.grown.paths) (Contains-append_left old.paths down.more node (along.whole node begins))
  ]

  pub steps_along : GrowsAlong first new (path ++ step ∷ []) child
  steps_along = record {
    more = along.more ++ down.more;
    grown = record {
      paths = down.grown.paths ∙ ap (λ l. l ++ down.more) along.grown.paths ∙ append_assoc first.paths along.more down.more;
      counts =
          down.grown.counts ∙ ap (λ l. l ++ map (λ p. no_counts) down.more) along.grown.counts
          ∙ append_assoc first.counts (map (λ p. no_counts) along.more) (map (λ p. no_counts) down.more)
          ∙ ap (λ l. first.counts ++ l) (sym (map-append (λ p. no_counts) along.more down.more));
      unseen = both_unseen;
    };
    alone = both_alone;
    whole = both_whole;
    named = named_child;
  }
