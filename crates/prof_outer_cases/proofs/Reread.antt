-- What is read after a put.
use Rattle.std.proofs.Common.{ℕ, ◌≡◌, ◌≢◌, List, Option, None, Some, IfSome, Bool, true, false, cond, refl, sym, ◌∙◌, ap, subst}
use Rattle.std.specs.Prelude.{bytes_eq}
use Rattle.std.specs.Ordering.{nat_cmp, eq_by_cmp}
use Rattle.std.specs.Cmp.{eq_by_cmp_equiv}
use Rattle.std.specs.Cmp.Lexicographic.{slice_cmp, nat_list_cmp_total, texts_ties, same_text}
use Rattle.std.specs.FinMap.{insert, get-insert}
use Rattle.std.proofs.lemmas.Option.{same_Some}
use Rattle.prof_outer.specs.Files.{FileMap, file_at}
use Rattle.prof_outer.specs.Puts.{IsPut}

abbrev ties : List ℕ → List ℕ → Bool
ties = eq_by_cmp (slice_cmp nat_cmp)

other_name : (wanted name : List ℕ) → wanted ≢ name → ties wanted name ≡ false
other_name wanted name apart =
    elim (bytes_eq wanted name) as (λ b. bytes_eq wanted name ≡ b → ties wanted name ≡ false) [
      | true ↦ λ e. absurd (apart (same_text wanted name (sym e)))
      | false ↦ λ e. sym (texts_ties wanted name) ∙ e
    ] refl

same_name : (wanted name : List ℕ) → wanted ≡ name → ties wanted name ≡ true
same_name wanted name e = ap (λ x. ties x name) e ∙ (eq_by_cmp_equiv nat_list_cmp_total).refl name

at_insert : (files : FileMap) (name bytes wanted : List ℕ) (b : Bool) → ties wanted name ≡ b → file_at (insert files name bytes) wanted ≡ cond b (Some bytes) (file_at files wanted)
at_insert files name bytes wanted b e = get-insert nat_list_cmp_total files name bytes wanted ∙ ap (λ t. cond t (Some bytes) (file_at files wanted)) e

-- the file that was put has the bytes that were put
pub same_read : (old now : Option FileMap) (name bytes wanted read : List ℕ) → IsPut old name bytes now → wanted ≡ name → IfSome now (λ files. file_at files wanted ≡ Some read) → IfSome old (λ _. read ≡ bytes)
same_read None now name bytes wanted read put same found = tt
same_read (Some files) now name bytes wanted read put same found =
    let P : Option FileMap → Type 0 = λ n. IfSome n (λ f. file_at f wanted ≡ Some read) in
    sym (same_Some bytes read (sym (at_insert files name bytes wanted true (same_name wanted name same)) ∙ subst P put found))

-- any other has the bytes that it had
pub other_read : (old now : Option FileMap) (name bytes wanted read : List ℕ) → IsPut old name bytes now → wanted ≢ name → IfSome now (λ files. file_at files wanted ≡ Some read) → IfSome old (λ files. file_at files wanted ≡ Some read)
other_read None now name bytes wanted read put apart found = tt
other_read (Some files) now name bytes wanted read put apart found =
    let P : Option FileMap → Type 0 = λ n. IfSome n (λ f. file_at f wanted ≡ Some read) in
    sym (at_insert files name bytes wanted false (other_name wanted name apart)) ∙ subst P put found

-- the file that was put is not missing
pub not_missing : (old now : Option FileMap) (name bytes wanted : List ℕ) → IsPut old name bytes now → wanted ≡ name → IfSome now (λ files. file_at files wanted ≡ None) → old ≡ None
not_missing None now name bytes wanted put same missing = refl
not_missing (Some files) now name bytes wanted put same missing =
    let P : Option FileMap → Type 0 = λ n. IfSome n (λ f. file_at f wanted ≡ None) in
    let none : Some bytes ≡ None = sym (at_insert files name bytes wanted true (same_name wanted name same)) ∙ subst P put missing in cc
