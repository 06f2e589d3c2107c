-- The places of sessions in a list, by their ids.
use Rattle.std.proofs.Common.{◌≡◌, ℕ, zero, suc, ◌+◌, ◌<◌, ◌≤◌, List, [], ◌∷◌, length, map, get_or, refl, sym, ap, ap₂, ◌∙◌, arith}
use Rattle.std.specs.Prelude.{Bool, true, false, cond, not, ◌==◌, nat_le, nat_lt, Option, Some, None, find}
use Rattle.std.specs.List.{insert, remove, position, position_or_len, Contains}
use Rattle.std.specs.Prelude.{◌↔◌, IsTrue, is_some}
use Rattle.std.proofs.Common.{eq-eqb, eqb-true, rules}
use Rattle.std.proofs.lemmas.Bool.{both_ways}
use Rattle.std.proofs.lemmas.List.Quantifiers.{position-Some}
use Rattle.prof_base.proofs.Ordered.{position-None}
use Rattle.std.proofs.lemmas.Bool.{cond-false, cond-true}
use Rattle.std.proofs.lemmas.List.{length-map}
use Rattle.session_book.specs.Book.{IsPlaceFor, number_of, with_session, without_session}
use Rattle.session_book.specs.declared.session.Session.{Session}

position_or_len-map : {A B : Type 0} (test : B → Bool) (f : A → B) (xs : List A) → position_or_len (λ x. test (f x)) xs ≡ position_or_len test (map f xs)
position_or_len-map test f [] = refl
position_or_len-map test f (x ∷ xs) = ap (λ n. cond (not (test (f x))) (1 + n) 0) (position_or_len-map test f xs)

-- the first that passes, by what the test looks at
pub position-map : {A B : Type 0} (test : B → Bool) (f : A → B) (xs : List A) → position (λ x. test (f x)) xs ≡ position test (map f xs)
position-map test f xs = ap₂ (λ n m. cond (nat_lt n m) (Some n) None) (position_or_len-map test f xs) (sym (length-map xs f))

-- a session goes to the first place at which the id is not less, or to the end
pub put_at : (session : Session) (others : List Session) (at : ℕ) → at ≤ length others → (at < length others → nat_le session.id.0 (get_or (map number_of others) at 0) ≡ true)
    → ((k : ℕ) → k < at → nat_le session.id.0 (get_or (map number_of others) k 0) ≡ false) → insert others at session ≡ with_session session others
put_at session [] zero within here before = refl
put_at session [] (suc at) within here before = absurd (omega arith)
put_at session (other ∷ others) zero within here before = sym (cond-true (nat_le session.id.0 other.id.0) _ _ (here (omega arith)))
put_at session (other ∷ others) (suc at) within here before =
    ap (λ l. other ∷ l) (put_at session others at (omega arith) (λ lt. here (omega arith)) (λ k lt. before (suc k) (omega arith)))
    ∙ sym (cond-false (nat_le session.id.0 other.id.0) _ _ (before 0 (omega arith)))

-- the first session of an id is taken from its place
pub taken_from : (number : ℕ) (sessions : List Session) (at : ℕ) (d : Session) → at < length sessions → (get_or (map number_of sessions) at 0 == number) ≡ true
    → ((k : ℕ) → k < at → (get_or (map number_of sessions) k 0 == number) ≡ false)
    → (Some (get_or sessions at d) ≡ find (λ session. session.id.0 == number) sessions) × (remove sessions at ≡ without_session number sessions)
taken_from number [] at d within here before = absurd (omega arith)
taken_from number (session ∷ sessions) zero d within here before =
    (sym (cond-true (session.id.0 == number) _ _ here), sym (cond-true (session.id.0 == number) _ _ here))
taken_from number (session ∷ sessions) (suc at) d within here before =
    let rest = taken_from number sessions at d (omega arith) here (λ k lt. before (suc k) (omega arith)) in
    let no = before 0 (omega arith) in
    (rest.0 ∙ sym (cond-false (session.id.0 == number) _ _ no), ap (λ l. session ∷ l) rest.1 ∙ sym (cond-false (session.id.0 == number) _ _ no))

-- where there is none of the id, nothing is taken
pub none_taken : (number : ℕ) (sessions : List Session) → ((k : ℕ) → k < length sessions → (get_or (map number_of sessions) k 0 == number) ≡ false)
    → (None ≡ find (λ session. session.id.0 == number) sessions) × (sessions ≡ without_session number sessions)
none_taken number [] none = (refl, refl)
none_taken number (session ∷ sessions) none =
    let rest = none_taken number sessions (λ k lt. none (suc k) (omega arith)) in
    let no = none 0 (omega arith) in
    (rest.0 ∙ sym (cond-false (session.id.0 == number) _ _ no), ap (λ l. session ∷ l) rest.1 ∙ sym (cond-false (session.id.0 == number) _ _ no))

-- what a search finds, by the ids
pub found_for : (number : ℕ) (sessions : List Session) (at : ℕ) → position (λ session. nat_le number session.id.0) sessions ≡ Some at → IsPlaceFor number (map number_of sessions) at
found_for number sessions at e =
    let found = position-Some (nat_le number) (map number_of sessions) at 0 (sym (position-map (nat_le number) number_of sessions) ∙ e) in
    record { within = omega (arith, found.0); here = λ lt. found.1; before = found.2 }

pub end_for : (number : ℕ) (sessions : List Session) → position (λ session. nat_le number session.id.0) sessions ≡ None → IsPlaceFor number (map number_of sessions) (length sessions)
end_for number sessions e = record {
  within = omega (arith, length-map sessions number_of);
  here = λ lt. absurd (omega (arith, length-map sessions number_of));
  before = λ k lt. position-None (nat_le number) (map number_of sessions) 0 (sym (position-map (nat_le number) number_of sessions) ∙ e) k (omega (arith, length-map sessions number_of));
}

pub put_for : (session : Session) (others : List Session) (at : ℕ) → IsPlaceFor session.id.0 (map number_of others) at → insert others at session ≡ with_session session others
put_for session others at is =
    put_at session others at (omega (arith, is.within, length-map others number_of)) (λ lt. is.here (omega (arith, length-map others number_of))) is.before

pub taken_at : (number : ℕ) (sessions : List Session) (at : ℕ) (d : Session) → position (λ session. session.id.0 == number) sessions ≡ Some at
    → (Some (get_or sessions at d) ≡ find (λ session. session.id.0 == number) sessions) × (remove sessions at ≡ without_session number sessions)
taken_at number sessions at d e =
    let found = position-Some (λ m. m == number) (map number_of sessions) at 0 (sym (position-map (λ m. m == number) number_of sessions) ∙ e) in
    taken_from number sessions at d (omega (arith, found.0, length-map sessions number_of)) found.1 found.2

pub not_taken : (number : ℕ) (sessions : List Session) → position (λ session. session.id.0 == number) sessions ≡ None
    → (None ≡ find (λ session. session.id.0 == number) sessions) × (sessions ≡ without_session number sessions)
not_taken number sessions e =
    none_taken number sessions
    (λ k lt. position-None (λ m. m == number) (map number_of sessions) 0 (sym (position-map (λ m. m == number) number_of sessions) ∙ e) k (omega (arith, length-map sessions number_of)))

-- a session is found exactly where its id is listed
pub found_listed : (number : ℕ) (sessions : List Session) (place : Option ℕ) → position (λ session. session.id.0 == number) sessions ≡ place
    → IsTrue (is_some place) ↔ Contains (map number_of sessions) number
found_listed number sessions (Some at) e =
    let found = position-Some (λ m. m == number) (map number_of sessions) at number (sym (position-map (λ m. m == number) number_of sessions) ∙ e) in
    (λ is. (at, found.0, eqb-true _ _ found.1), λ has. search rules)
found_listed number sessions None e = (
  λ is. absurd (search rules),
  λ has.
      absurd (both_ways _
      (position-None (λ m. m == number) (map number_of sessions) number (sym (position-map (λ m. m == number) number_of sessions) ∙ e) has.0 has.1)
      (eq-eqb _ _ has.2)),
)
