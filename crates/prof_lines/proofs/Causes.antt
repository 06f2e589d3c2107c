-- Readers that name one cause refuse what spells none of their values.
use Rattle.std.proofs.Common.{◌≡◌, ℕ, List, Result, Ok, Err, refl, ap, ◌∙◌, subst}
use Rattle.prof_lines.specs.declared.fault.Cause.{Cause}
use Rattle.prof_lines.specs.declared.fault.Cause.TheVariants.{Word}
use Rattle.prof_lines.specs.Answers.{Reader, Front}
use Rattle.prof_lines.specs.Spelled.{HasWords}
use Rattle.prof_lines.specs.Forms.{Wording, IsNaming, IsPlace, IsForm}
use Rattle.prof_lines.specs.Causes.{Refuses, FoundBy, WordFault, NamingFault}
use Rattle.prof_lines.proofs.Steps.{not_both}

-- what is answered may be refused with this cause alone
abbrev pub OnlyCause : {B C : Type 0} → Cause C → Result B (Cause C) → Type 0
OnlyCause {C = C} only r = (cause : Cause C) → r ≡ Err cause → cause ≡ only

refused_by : {B C : Type 0} (only : Cause C) (r s : Result B (Cause C)) → s ≡ r → OnlyCause only s → ((x : B) → s ≡ Ok x → ⊥) → s ≡ Err only
refused_by only (Ok x) s e one none = absurd (none x e)
refused_by {B = B} {C = C} only (Err cause) s e one none = e ∙ ap (λ (z : Cause C). Err z) (one cause e)

pub refused : {B C : Type 0} (only cause : Cause C) (r : Result B (Cause C)) → OnlyCause only r → ((x : B) → r ≡ Ok x → ⊥) → cause ≡ only → r ≡ Err cause
refused only cause r one none e = rw e (refused_by only r r refl one none)

-- a reader refuses what it finds at fault
pub refuses_found : {B C : Type 0} (read : Reader B C) → Refuses read (FoundBy read)
refuses_found read = record { says = λ bytes cause h. h; again = λ bytes cause h. h }

pub refuses_place : {A C : Type 0} (read : Reader (Front A) C) (Fits : A → Type 0) (word : A → List ℕ) → IsPlace read Fits word
    → ((bytes : List ℕ) → OnlyCause Word (read bytes)) → Refuses read (WordFault Fits word)
refuses_place read Fits word place one = record {
  says = λ bytes cause h. (one bytes cause h, λ value rest fits s. not_both (read bytes) (value, rest) cause (place.again bytes rest value fits s) h);
  again = λ bytes cause f. refused Word cause (read bytes) (one bytes) (λ x h. let t = place.takes bytes x.1 x.0 h in f.1 x.0 x.1 t.0 t.1) f.0;
}

pub refuses_naming : {A C : Type 0} (only : Cause C) (read : Reader A C) (Fits : A → Type 0) (word : A → List ℕ) → IsNaming read Fits word
    → ((text : List ℕ) → OnlyCause only (read text)) → Refuses read (NamingFault only Fits word)
refuses_naming only read Fits word naming one = record {
  says = λ text cause h. (one text cause h, λ value fits e. not_both (read text) value cause (subst (λ (z : List ℕ). read z ≡ Ok value) e (naming.again value fits)) h);
  again = λ text cause f. refused only cause (read text) (one text) (λ x h. let t = naming.takes text x h in f.1 x t.0 t.1) f.0;
}

pub refuses_form : {V C : Type 0} (read : Reader V C) (Fits : V → Type 0) (words : Wording V) → IsForm read Fits words
    → ((line : List ℕ) → OnlyCause Word (read line)) → Refuses read (λ line cause. (cause ≡ Word) × ((value : V) → Fits value → ¬ HasWords (words value) line))
refuses_form read Fits words form one = record {
  says = λ line cause h. (one line cause h, λ value fits s. not_both (read line) value cause (form.again line value fits s) h);
  again = λ line cause f. refused Word cause (read line) (one line) (λ x h. let t = form.takes line x h in f.1 x t.0 t.1) f.0;
}
