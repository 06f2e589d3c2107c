-- The names of drafts.
use Rattle.std.proofs.Common.{ℕ, ◌≡◌, ◌+◌, ◌<◌, List, [], ◌∷◌, ◌++◌, length, Bool, true, subst, arith, length-append}
use Rattle.std.proofs.lemmas.List.{get_or-append-add}
use Rattle.std.specs.List.{AllPass}
use Rattle.std.specs.Prelude.{codes, decimal}
use Rattle.prof_base.specs.Text.{IsText, is_printable}
use Rattle.prof_outer.specs.FileName.{draft_name}

last_passes : (test : ℕ → Bool) (front : List ℕ) (last : ℕ) → AllPass test (front ++ last ∷ []) → test last ≡ true
last_passes test front last all =
    let P : ℕ → Type 0 = λ byte. test byte ≡ true in
    let within : length front + 0 < length (front ++ last ∷ []) = omega (arith, length-append front (last ∷ [])) in
    subst P (get_or-append-add front (last ∷ []) 0 last) (all (length front + 0) last within)

-- a draft's name ends with a byte that is not printable
pub draft_name-no_text : (number : ℕ) → ¬ IsText (draft_name number)
draft_name-no_text number text =
    let printable : is_printable 0x7F ≡ true = last_passes is_printable (codes "cpuprof-draft-" ++ decimal number) 0x7F text.printable in cc
