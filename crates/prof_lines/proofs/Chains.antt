-- Places in a row are at fault at the first that is at fault.
use Rattle.std.proofs.Common.{◌≡◌, ◌≢◌, ℕ, List, Bool, true, false, cond, if◌then◌else◌, Result, Ok, Err, refl, bytes_eq, inl, inr, ◌⊎◌}
use Rattle.std.proofs.lemmas.Bool.{both_ways, false_from_ne_true}
use Rattle.std.proofs.lemmas.Slice.Eq.{bytes_eq-Decides}
use Rattle.prof_lines.specs.declared.fault.Cause.{Cause}
use Rattle.prof_lines.specs.Answers.{Reader, Front, followed}
use Rattle.prof_lines.specs.Words.{fixed_at, end_at}
use Rattle.prof_lines.specs.Spelled.{IsWord}
use Rattle.prof_lines.specs.Forms.{IsPlace}
use Rattle.prof_lines.specs.Causes.{Faults, Refuses, AtOrAfter, FixedFault, FixedOrAfter, EndFault, ChosenFault}
use Rattle.prof_lines.proofs.Steps.{bind_err}
use Rattle.prof_lines.proofs.PlainWords.{fixed_takes, fixed_again}
use Rattle.prof_lines.proofs.PlaceFaults.{fixed_refuses, end_refuses}

-- a reader that only makes something of what another one gives
pub refuses_made : {A B C : Type 0} (read : Reader A C) (made : A → B) (Fault : Faults C) → Refuses read Fault → Refuses (followed read (λ x. Ok (made x))) Fault
refuses_made read made Fault r = record {
  says = λ bytes cause h. elim (bind_err (read bytes) (λ x. Ok (made x)) cause h) [
    | inl e ↦ r.says bytes cause e
    | inr q ↦ absurd (let e = q.2 in cc)
  ];
  again = λ bytes cause f. rw (r.again bytes cause f) refl;
}

pub refuses_chain : {A B C : Type 0} (read : Reader (Front A) C) (Fits : A → Type 0) (word : A → List ℕ) (Fault : Faults C)
    (next : Front A → Result B (Cause C)) (Later : A → Faults C)
    → IsPlace read Fits word → Refuses read Fault → ((value : A) → Refuses (λ rest. next (value, rest)) (Later value)) → Refuses (followed read next) (AtOrAfter Fits word Fault Later)
refuses_chain read Fits word Fault next Later place r later = record {
  says = λ bytes cause h. elim (bind_err (read bytes) next cause h) [
    | inl e ↦ inl (r.says bytes cause e)
    | inr q ↦ let t = place.takes bytes q.0.1 q.0.0 q.1 in inr (q.0.0, q.0.1, t.0, t.1, (later q.0.0).says q.0.1 cause q.2)
  ];
  again = λ bytes cause f. elim f [
    | inl e ↦ rw (r.again bytes cause e) refl
    | inr q ↦ rw (place.again bytes q.1 q.0 q.2 q.3) ((later q.0).again q.1 cause q.4)
  ];
}

-- a fixed word, and then what comes after it
pub refuses_after_fixed : {B C : Type 0} (wanted : List ℕ) (next : Reader B C) (Later : Faults C) → IsWord wanted → Refuses next Later
    → Refuses (followed (fixed_at wanted) next) (FixedOrAfter wanted Later)
refuses_after_fixed {C = C} wanted next Later w later =
    let r : Refuses {C = C} (fixed_at wanted) (FixedFault wanted) = fixed_refuses wanted w in
    record {
      says = λ bytes cause h. elim (bind_err (fixed_at wanted bytes) next cause h) [
        | inl e ↦ inl (r.says bytes cause e)
        | inr q ↦ inr (q.0, fixed_takes wanted bytes q.0 q.1, later.says q.0 cause q.2)
      ];
      again = λ bytes cause f. elim f [
        | inl e ↦ rw (r.again bytes cause e) refl
        | inr q ↦ rw (fixed_again wanted bytes q.0 w q.1) (later.again q.0 cause q.2)
      ];
    }

pub refuses_end : {B C : Type 0} (value : B) → Refuses {C = C} (followed end_at (λ u. Ok value)) EndFault
refuses_end value = refuses_made end_at (λ u. value) EndFault end_refuses

chosen_says : {B C : Type 0} (name word : List ℕ) (t : Bool) (named other : Result B (Cause C)) (cause : Cause C) (Named Other : Type 0) → bytes_eq word name ≡ t
    → cond t named other ≡ Err cause
    → (named ≡ Err cause → Named) → (other ≡ Err cause → Other) → ((word ≡ name) × Named) ⊎ ((word ≢ name) × Other)
chosen_says name word true named other cause Named Other e h first second = inl ((bytes_eq-Decides word name).0 e, first h)
chosen_says name word false named other cause Named Other e h first second = inr (λ same. both_ways (bytes_eq word name) e ((bytes_eq-Decides word name).1 same), second h)

-- a word that chooses between two forms
pub refuses_chosen : {B C : Type 0} (name : List ℕ) (named other : Reader B C) (Named Other : Faults C) → Refuses named Named → Refuses other Other
    → (word : List ℕ) → Refuses (λ bytes. if bytes_eq word name then named bytes else other bytes) (ChosenFault name Named Other word)
refuses_chosen name named other Named Other first second word = record {
  says = λ bytes cause h.
      let by = chosen_says name word (bytes_eq word name) (named bytes) (other bytes) cause (Named bytes cause) (Other bytes cause) refl in
      by h (first.says bytes cause) (second.says bytes cause);
  again = λ bytes cause f. elim f [
    | inl q ↦ rw ((bytes_eq-Decides word name).1 q.0) (first.again bytes cause q.1)
    | inr q ↦ rw (false_from_ne_true (bytes_eq word name) (λ e. q.0 ((bytes_eq-Decides word name).0 e))) (second.again bytes cause q.1)
  ];
}
