-- Steps of the lists of a node.
use Rattle.std.proofs.Common.{◌≡◌, ℕ, suc, ◌<◌, ◌≤◌, ◌+◌, ◌-◌, List, [], ◌∷◌, ◌++◌, length, take, map, get_or, Bool, true, false, refl, sym, ap, ◌∙◌, arith}
use Rattle.std.specs.Prelude.{◌==◌}
use Rattle.std.specs.Ordering.{nat_cmp, is_eq}
use Rattle.std.specs.List.{filter}
use Rattle.std.proofs.lemmas.Bool.Decides.{nat_tests}
use Rattle.std.proofs.lemmas.List.{map-append, append-nil}
use Rattle.std.proofs.lemmas.List.Elements.{filter_more}
use Rattle.code_event.specs.declared.path.PathStep.{PathStep}
use Rattle.code_event.specs.Tree.{node_entry}

pub picked_yes : {X Y : Type 0} (f : X → Y) (p : X → Bool) (xs : List X) (i : ℕ) (d : X) → i < length xs → p (get_or xs i d) ≡ true → map f (filter p (take (i + 1) xs)) ≡ map f (filter p (take i xs)) ++ f (get_or xs i d) ∷ []
picked_yes f p xs i d h e = rw (filter_more p xs i d h, e) (map-append f (filter p (take i xs)) (get_or xs i d ∷ []))

pub picked_no : {X Y : Type 0} (f : X → Y) (p : X → Bool) (xs : List X) (i : ℕ) (d : X) → i < length xs → p (get_or xs i d) ≡ false → map f (filter p (take (i + 1) xs)) ≡ map f (filter p (take i xs))
picked_no f p xs i d h e = rw (filter_more p xs i d h, e) (ap (map f) (append-nil (filter p (take i xs))))

pub pick_yes : {X Y : Type 0} (f : X → Y) (p : X → Bool) (xs : List X) (i : ℕ) (x : X) (old new : List Y) (y : Y) → i < length xs → x ≡ get_or xs i x → p x ≡ true → old ≡ map f (filter p (take i xs)) → new ≡ old ++ y ∷ [] → y ≡ f x → new ≡ map f (filter p (take (i + 1) xs))
pick_yes f p xs i x old new y h e t o n g =
    n ∙ ap (λ ys. ys ++ y ∷ []) o ∙ ap (λ z. map f (filter p (take i xs)) ++ z ∷ []) (g ∙ ap f e) ∙ sym (picked_yes f p xs i x h (ap p (sym e) ∙ t))

-- numbers that are equal by one test are equal by the other
pub equal-numbers : (number other : ℕ) → (other == number) ≡ true → is_eq (nat_cmp number other) ≡ true
equal-numbers number other h = grind (arith, nat_tests, h)

pub unequal-numbers : (number other : ℕ) → (other == number) ≡ false → is_eq (nat_cmp number other) ≡ false
unequal-numbers number other h = grind (arith, nat_tests, h)

pub node_entry-last : (node : List PathStep) (d : PathStep) → 1 ≤ length node → node_entry node ≡ (get_or node (length node - 1) d).entry
node_entry-last [] d h = absurd (omega arith)
node_entry-last (step ∷ []) d h = refl
node_entry-last (step ∷ other ∷ steps) d h =
    let e : length (step ∷ other ∷ steps) - 1 ≡ suc (length (other ∷ steps) - 1) = omega arith in
    rw e (node_entry-last (other ∷ steps) d (omega arith))
