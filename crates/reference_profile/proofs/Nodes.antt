-- The set of all prefixes, as it grows.
use Rattle.std.proofs.Common.{◌≡◌, ℕ, zero, suc, ◌<◌, ◌≤◌, ◌-◌, List, [], ◌∷◌, length, take, drop, map, refl, sym, ap, ◌∙◌, arith}
use Rattle.std.proofs.lemmas.List.{drop-map, length-map}
use Rattle.code_event.specs.declared.path.PathStep.{PathStep}
use Rattle.prof_base.specs.Ordered.{insert_sorted}
use Rattle.code_event.specs.Tree.{path_cmp, prefixes, with_paths}

pub length-prefixes : {X : Type 0} (xs : List X) → length (prefixes xs) ≡ suc (length xs)
length-prefixes [] = refl
length-prefixes (x ∷ xs) = ap suc (length-map (prefixes xs) (λ prefix. x ∷ prefix) ∙ length-prefixes xs)

-- the last prefix is the whole path
pub prefixes-last : {X : Type 0} (xs : List X) → drop (length xs) (prefixes xs) ≡ xs ∷ []
prefixes-last [] = refl
prefixes-last (x ∷ xs) = drop-map (λ prefix. x ∷ prefix) (length xs) (prefixes xs) ∙ ap (map (λ prefix. x ∷ prefix)) (prefixes-last xs)

pub prefixes-drop : {X : Type 0} (xs : List X) (n : ℕ) → n ≤ length xs → drop n (prefixes xs) ≡ take n xs ∷ drop (suc n) (prefixes xs)
prefixes-drop [] zero h = refl
prefixes-drop [] (suc n) h = absurd (omega arith)
prefixes-drop (x ∷ xs) zero h = refl
prefixes-drop (x ∷ xs) (suc n) h =
    drop-map (λ prefix. x ∷ prefix) n (prefixes xs) ∙ ap (map (λ prefix. x ∷ prefix)) (prefixes-drop xs n (omega arith))
    ∙ ap (λ rest. (x ∷ take n xs) ∷ rest) (sym (drop-map (λ prefix. x ∷ prefix) (suc n) (prefixes xs)))

-- one more prefix, which is one step shorter than those that were put
pub put_prefix : (path : List PathStep) (set old new : List (List PathStep)) (len : ℕ) → 0 < len → len ≤ length path → old ≡ with_paths (drop len (prefixes path)) set → new ≡ insert_sorted path_cmp (take (len - 1) path) old → new ≡ with_paths (drop (len - 1) (prefixes path)) set
put_prefix path set old new zero some few e f = absurd (omega arith)
put_prefix path set old new (suc n) some few e f =
    let one : suc n - 1 ≡ n = omega arith in
    rw one (f ∙ rw one (ap (insert_sorted path_cmp (take n path)) e) ∙ ap (λ paths. with_paths paths set) (sym (prefixes-drop path n (omega arith))))
