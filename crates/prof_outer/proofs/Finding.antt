-- Finding a file in memory by its name.
use Rattle.std.proofs.Common.{ℕ, ◌≡◌, ◌<◌, ◌≤◌, ◌+◌, ◌↔◌, List, ◌∷◌, length, None, Some, Bool, true, false, IsTrue, suc, refl, sym, ◌∙◌, ap, drop, get_or, drop-cons, add-one, cond, true≢false}
use Rattle.std.proofs.lemmas.List.{at_drop_all}
use Rattle.std.specs.Ordering.{nat_cmp, eq_by_cmp, is_eq}
use Rattle.std.specs.Cmp.{eq_by_cmp_equiv}
use Rattle.std.specs.Cmp.Lexicographic.{slice_cmp, nat_list_cmp_total}
use Rattle.std.specs.declared.cmp.Ordering.TheVariants.{Less, Equal, Greater}
use Rattle.std.specs.FinMap.{get-insert, get-empty, slice_cmp-IsAntisymmetric, nat_cmp-IsAntisymmetric}
use Rattle.prof_outer.specs.Files.{file_at}
use Rattle.prof_outer.specs.Stored.{files_of}
use Rattle.prof_outer.specs.declared.depot.Stored.{Stored}

unfoldable pub is_same_name : List ℕ → List ℕ → Bool
is_same_name = eq_by_cmp (slice_cmp nat_cmp)

same_itself : (name : List ℕ) → is_same_name name name ≡ true
unfolding is_same_name
same_itself name = (eq_by_cmp_equiv nat_list_cmp_total).refl name

same_other : (name other : List ℕ) → (other ≡ name → ⊥) → is_same_name name other ≡ false
unfolding is_same_name
same_other name other differ =
    elim (slice_cmp nat_cmp name other) as (λ r. slice_cmp nat_cmp name other ≡ r → is_eq r ≡ false) [
      | Less ↦ λ e. refl
      | Equal ↦ λ e. absurd (differ (sym (slice_cmp-IsAntisymmetric nat_cmp-IsAntisymmetric name other e)))
      | Greater ↦ λ e. refl
    ] refl

pub file_at-cons : (file : Stored) (files : List Stored) (name : List ℕ) → file_at (files_of (file ∷ files)) name ≡ cond (is_same_name name file.name) (Some file.bytes.items) (file_at (files_of files) name)
unfolding is_same_name
file_at-cons file files name = get-insert nat_list_cmp_total (files_of files) file.name file.bytes.items name

-- there are no more files
pub none_here : (files : List Stored) (i : ℕ) (name : List ℕ) → length files ≤ i → file_at (files_of (drop i files)) name ≡ None
none_here files i name h = at_drop_all (λ (left : List Stored). file_at (files_of left) name) files i h ∙ get-empty (slice_cmp nat_cmp) name

-- the first of the files that are left has the name
pub found_here : (files : List Stored) (i : ℕ) (file : Stored) (name : List ℕ) → i < length files → file ≡ get_or files i file → file.name ≡ name → file_at (files_of (drop i files)) name ≡ Some file.bytes.items
found_here files i file name h e same =
    ap (λ (left : List Stored). file_at (files_of left) name) (drop-cons files i file h)
    ∙ ap (λ (f : Stored). file_at (files_of (f ∷ drop (suc i) files)) name) (sym e)
    ∙ file_at-cons file (drop (suc i) files) name
    ∙ ap (λ b. cond b (Some file.bytes.items) (file_at (files_of (drop (suc i) files)) name))
    (ap (is_same_name name) same ∙ same_itself name)

-- the first of the files that are left has another name
pub not_here : (files : List Stored) (i : ℕ) (file : Stored) (name : List ℕ) → i < length files → file ≡ get_or files i file → (file.name ≡ name → ⊥) → file_at (files_of (drop (i + 1) files)) name ≡ file_at (files_of (drop i files)) name
not_here files i file name h e differ =
    ap (λ n. file_at (files_of (drop n files)) name) (add-one i)
    ∙ sym (ap (λ (left : List Stored). file_at (files_of left) name) (drop-cons files i file h)
    ∙ ap (λ (f : Stored). file_at (files_of (f ∷ drop (suc i) files)) name) (sym e)
    ∙ file_at-cons file (drop (suc i) files) name
    ∙ ap (λ b. cond b (Some file.bytes.items) (file_at (files_of (drop (suc i) files)) name)) (same_other name file.name differ))

pub holds : (b : Bool) {P : Type 0} → IsTrue b ↔ P → b ≡ true → P
holds b iff e = iff.0 e

pub fails : (b : Bool) {P : Type 0} → IsTrue b ↔ P → b ≡ false → P → ⊥
fails b iff e p = true≢false (sym (iff.1 p) ∙ e)
