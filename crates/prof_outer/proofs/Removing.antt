-- Removing the files in memory that have a name.
use Rattle.std.proofs.Common.{ℕ, ◌≡◌, List, [], ◌∷◌, Option, None, Some, Bool, true, false, not, cond, filter, true≢false, refl, sym, ◌∙◌, ap}
use Rattle.std.specs.Prelude.{bytes_eq}
use Rattle.std.specs.Ordering.{nat_cmp}
use Rattle.std.specs.Cmp.{eq_by_cmp_equiv}
use Rattle.std.specs.Cmp.Lexicographic.{slice_cmp, nat_list_cmp_total, texts_ties}
use Rattle.std.specs.FinMap.{remove, get-remove, get-empty, same_map, slice_cmp-IsAntisymmetric, nat_cmp-IsAntisymmetric}
use Rattle.prof_outer.specs.Files.{file_at}
use Rattle.prof_outer.specs.Stored.{files_of}
use Rattle.prof_outer.specs.declared.depot.Stored.{Stored}
use Rattle.prof_outer.proofs.Finding.{is_same_name, file_at-cons}

-- whether the file has another name
abbrev pub has_other_name : List ℕ → Stored → Bool
has_other_name name file = not (bytes_eq file.name name)

no_file : (wanted : Bool) (found : Option (List ℕ)) → found ≡ None → found ≡ cond wanted None found
no_file true found none = none
no_file false found none = refl

-- of two files with the wanted name the first does not matter either
same_removed : (wanted here : Bool) (found rest : Option (List ℕ)) → here ≡ wanted → cond wanted None rest ≡ cond wanted None (cond here found rest)
same_removed true here found rest is = refl
same_removed false here found rest is = sym (ap (λ b. cond b found rest) is)

other_kept : (wanted here : Bool) (found rest : Option (List ℕ)) → (wanted ≡ true → here ≡ true → ⊥) → cond here found (cond wanted None rest) ≡ cond wanted None (cond here found rest)
other_kept true true found rest apart = absurd (apart refl refl)
other_kept true false found rest apart = refl
other_kept false here found rest apart = refl

same_for : (left right name : List ℕ) → bytes_eq left right ≡ true → is_same_name name left ≡ is_same_name name right
unfolding is_same_name
same_for left right name e =
    let equal = eq_by_cmp_equiv nat_list_cmp_total in
    equal.symm name left ∙ equal.congr left right name (sym (texts_ties left right) ∙ e) ∙ equal.symm right name

not_both : (left right name : List ℕ) → bytes_eq left right ≡ false → is_same_name name right ≡ true → is_same_name name left ≡ true → ⊥
unfolding is_same_name
not_both left right name e has_right has_left =
    let equal = eq_by_cmp_equiv nat_list_cmp_total in
    true≢false (sym (texts_ties left right ∙ equal.symm left right ∙ sym (equal.congr name right left has_right) ∙ has_left) ∙ e)

file_at-others : (files : List Stored) (name other : List ℕ) → file_at (files_of (filter (has_other_name name) files)) other ≡ cond (is_same_name other name) None (file_at (files_of files) other)
file_at-others [] name other = no_file (is_same_name other name) _ (get-empty (slice_cmp nat_cmp) other)
file_at-others (file ∷ files) name other =
    let rest = file_at-others files name other in
    elim (bytes_eq file.name name) as (λ b. bytes_eq file.name name ≡ b → file_at (files_of (cond (not b) (file ∷ filter (has_other_name name) files) (filter (has_other_name name) files))) other ≡ cond (is_same_name other name) None (file_at (files_of (file ∷ files)) other)) [
      | true ↦ λ e. rest ∙ same_removed (is_same_name other name) (is_same_name other file.name) (Some file.bytes.items) _ (same_for file.name name other e)
          ∙ sym (ap (cond (is_same_name other name) None) (file_at-cons file files other))
      | false ↦ λ e. file_at-cons file (filter (has_other_name name) files) other
          ∙ ap (cond (is_same_name other file.name) (Some file.bytes.items)) rest
          ∙ other_kept (is_same_name other name) (is_same_name other file.name) (Some file.bytes.items) _ (not_both file.name name other e)
          ∙ sym (ap (cond (is_same_name other name) None) (file_at-cons file files other))
    ] refl

-- the files with other names are all but the one with the name
pub files_of-others : (files : List Stored) (name : List ℕ) → files_of (filter (has_other_name name) files) ≡ remove (files_of files) name
unfolding is_same_name
files_of-others files name =
    same_map nat_list_cmp_total (slice_cmp-IsAntisymmetric nat_cmp-IsAntisymmetric) _ _
    (λ other. file_at-others files name other ∙ sym (get-remove nat_list_cmp_total (files_of files) name other))
