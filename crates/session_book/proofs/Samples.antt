-- References to the nodes of samples, as the tree grows.
use Rattle.std.proofs.Common.{◌≡◌, suc, List, [], ◌∷◌, ◌++◌, length, refl, ap, sym, subst}
use Rattle.std.specs.Prelude.{Bool, true, false, if◌then◌else◌}
use Rattle.std.specs.List.{All, AllZip}
use Rattle.std.proofs.lemmas.Bool.{cond-false, cond-true}
use Rattle.std.proofs.lemmas.List.Elements.{All-push}
use Rattle.code_event.specs.declared.path.PathStep.{PathStep}
use Rattle.profile_tree.specs.Grown.{Grown, Names, NamesSome}
use Rattle.profile_tree.specs.declared.node_ref.NodeRef.{NodeRef}
use Rattle.profile_tree.proofs.References.{all_kept}

pub zip_push : {A B : Type 0} (R : A → B → Type 0) (xs : List A) (ys : List B) (x : A) (y : B) → AllZip R xs ys → R x y → AllZip R (xs ++ x ∷ []) (ys ++ y ∷ [])
zip_push R [] [] x y all last = (last, tt)
zip_push R [] (other ∷ ys) x y all last = absurd all
zip_push R (first ∷ xs) [] x y all last = absurd all
zip_push R (first ∷ xs) (other ∷ ys) x y all last = (all.0, zip_push R xs ys x y all.1 last)

pub zip_lengths : {A B : Type 0} (R : A → B → Type 0) (xs : List A) (ys : List B) → AllZip R xs ys → length xs ≡ length ys
zip_lengths R [] [] all = refl
zip_lengths R [] (y ∷ ys) all = absurd all
zip_lengths R (x ∷ xs) [] all = absurd all
zip_lengths R (x ∷ xs) (y ∷ ys) all = ap (λ n. suc n) (zip_lengths R xs ys all.1)

-- the new tree has each name that the old one has
abbrev pub KeepsNames : Grown → Grown → Type 0
KeepsNames old new = (reference : NodeRef) (named : List PathStep) → Names old reference named → Names new reference named

pub named_still : (old new : Grown) (references : List NodeRef) → KeepsNames old new → All (NamesSome old) references → All (NamesSome new) references
named_still old new references kept all = λ k d lt. let named = all k d lt in (named.0, kept _ named.0 named.1)

pub named_more : (old new : Grown) (references : List NodeRef) (reference : NodeRef) (path : List PathStep) → KeepsNames old new → Names new reference path
    → All (NamesSome old) references → All (NamesSome new) (references ++ reference ∷ [])
named_more old new references reference path kept names all = All-push (NamesSome new) references reference (named_still old new references kept all) (path, names)

pub listed_still : (old new : Grown) (references : List NodeRef) (path : List PathStep) (listed : Bool) → listed ≡ false → KeepsNames old new
    → (paths : List (List PathStep)) → AllZip (Names old) references paths → AllZip (Names new) references (if listed then paths ++ path ∷ [] else paths)
listed_still old new references path listed not_listed kept paths all =
    subst (AllZip (Names new) references) (sym (cond-false listed (paths ++ path ∷ []) paths not_listed)) (all_kept old new kept references paths all)

pub listed_more : (old new : Grown) (references : List NodeRef) (reference : NodeRef) (path : List PathStep) (listed : Bool) → listed ≡ true → KeepsNames old new → Names new reference path
    → (paths : List (List PathStep)) → AllZip (Names old) references paths → AllZip (Names new) (references ++ reference ∷ []) (if listed then paths ++ path ∷ [] else paths)
listed_more old new references reference path listed is_listed kept names paths all =
    subst (AllZip (Names new) (references ++ reference ∷ [])) (sym (cond-true listed (paths ++ path ∷ []) paths is_listed))
    (zip_push (Names new) references paths reference path (all_kept old new kept references paths all) names)
