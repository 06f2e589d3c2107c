-- The faults of forms up to the end of a line: a word that may be missing, and numbers.
use Rattle.std.proofs.Common.{◌≡◌, ℕ, zero, suc, ◌^◌, ◌<◌, List, [], ◌∷◌, Bool, true, false, cond, Result, Ok, Err, refl, decimal, inl, inr}
use Rattle.std.proofs.lemmas.Bool.{both_ways, false_from_ne_true}
use Rattle.prof_lines.specs.declared.fault.Cause.{Cause}
use Rattle.prof_lines.specs.declared.fault.Cause.TheVariants.{Word}
use Rattle.prof_lines.specs.Answers.{◌>>=◌, followed}
use Rattle.prof_lines.specs.Words.{is_end, InRange, fixed_at, number_at, end_at, optional_at, numbers_at}
use Rattle.prof_lines.specs.Spelled.{IsWord, optional_word}
use Rattle.prof_lines.specs.Causes.{Refuses, EndFault, OptionalFault, NumberFault, NumbersFault, AtOrAfter}
use Rattle.prof_lines.proofs.Steps.{bind_err}
use Rattle.prof_lines.proofs.Ends.{none_left, left_none}
use Rattle.prof_lines.proofs.Numbers.{number_place}
use Rattle.prof_lines.proofs.EndForms.{optional_form}
use Rattle.prof_lines.proofs.Causes.{OnlyCause, refuses_form}
use Rattle.prof_lines.proofs.PlaceFaults.{fixed_refuses, end_refuses, number_refuses}
use Rattle.prof_lines.proofs.Chains.{refuses_made, refuses_chain}

-- the line does not end here, and is refused further on
on_by : {A E : Type 0} (t : Bool) (x : A) (r : Result A E) (e : E) → cond t (Ok x) r ≡ Err e → (t ≡ false) × (r ≡ Err e)
on_by true x r e h = absurd cc
on_by false x r e h = (refl, h)

end_made : {A C : Type 0} (made : Unit {0} → A) → Refuses {C = C} (followed end_at (λ u. Ok (made u))) EndFault
end_made made = refuses_made end_at made EndFault end_refuses

optional_only : {C : Type 0} (wanted : List ℕ) → IsWord wanted → (bytes : List ℕ) → OnlyCause {C = C} Word (optional_at wanted bytes)
unfolding optional_at
optional_only {C = C} wanted w bytes cause h =
    let on = on_by (is_end bytes) false (fixed_at wanted bytes >>= λ rest. end_at rest >>= λ u. Ok true) cause h in
    let fixed : Refuses {C = C} (fixed_at wanted) _ = fixed_refuses wanted w in
    let end : Refuses {C = C} (followed end_at (λ u. Ok true)) EndFault = end_made (λ u. true) in
    elim (bind_err (fixed_at wanted bytes) (λ rest. end_at rest >>= λ u. Ok true) cause on.1) [
      | inl e ↦ (fixed.says bytes cause e).0
      | inr q ↦ (end.says q.0 cause q.2).0
    ]

pub optional_refuses : {C : Type 0} (wanted : List ℕ) → IsWord wanted → Refuses {C = C} (optional_at wanted) (OptionalFault wanted)
optional_refuses {C = C} wanted w =
    let r : Refuses {C = C} (optional_at wanted) _ = refuses_form (optional_at wanted) (λ there. Unit {0}) (optional_word wanted) (optional_form wanted w) (optional_only wanted w) in
    record {
      says = λ bytes cause h. let f = r.says bytes cause h in (f.0, λ there s. f.1 there tt s);
      again = λ bytes cause f. r.again bytes cause (f.0, λ there fits s. f.1 there s);
    }

-- numbers with room for one more, where the line does not end
abbrev MoreFault : {C : Type 0} → ℕ → ℕ → ℕ → List ℕ → Cause C → Type 0
MoreFault least most room bytes cause = AtOrAfter (InRange least most) decimal (NumberFault least most) (λ n. NumbersFault least most room) bytes cause

more_refuses : {C : Type 0} (least most : ℕ) → most < 2 ^ 64 → (room : ℕ) → Refuses {C = C} (numbers_at least most room) (NumbersFault least most room)
    → Refuses {C = C} (λ bytes. number_at least most bytes >>= λ first. numbers_at least most room first.1 >>= λ others. Ok (first.0 ∷ others)) (MoreFault least most room)
more_refuses least most small room r =
    refuses_chain (number_at least most) (InRange least most) decimal (NumberFault least most) (λ first. numbers_at least most room first.1 >>= λ others. Ok (first.0 ∷ others))
    (λ n. NumbersFault least most room)
    (number_place least most small) (number_refuses least most small) (λ n. refuses_made (numbers_at least most room) (λ others. n ∷ others) (NumbersFault least most room) r)

none_refuses : {C : Type 0} (least most : ℕ) → Refuses {C = C} (numbers_at least most zero) (NumbersFault least most zero)
unfolding numbers_at
none_refuses least most = end_made (λ u. [])

some_refuse : {C : Type 0} (least most : ℕ) → most < 2 ^ 64 → (room : ℕ) → Refuses {C = C} (numbers_at least most room) (NumbersFault least most room)
    → Refuses {C = C} (numbers_at least most (suc room)) (NumbersFault least most (suc room))
unfolding numbers_at
some_refuse {C = C} least most small room r =
    let more : Refuses {C = C} _ (MoreFault least most room) = more_refuses least most small room r in
    record {
      says = λ bytes cause h.
          let on = on_by (is_end bytes) [] _ cause h in
          (λ none. both_ways (is_end bytes) on.0 (left_none bytes none), more.says bytes cause on.1);
      again = λ bytes cause f. rw (false_from_ne_true (is_end bytes) (λ e. f.0 (none_left bytes e))) (more.again bytes cause f.1);
    }

pub numbers_refuse : {C : Type 0} (least most : ℕ) → most < 2 ^ 64 → (room : ℕ) → Refuses {C = C} (numbers_at least most room) (NumbersFault least most room)
numbers_refuse least most small zero = none_refuses least most
numbers_refuse least most small (suc room) = some_refuse least most small room (numbers_refuse least most small room)
