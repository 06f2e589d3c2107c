-- What a book stands for, as a session is stopped.
use Rattle.std.proofs.Common.{◌≡◌, ℕ, ◌≤◌, inl, inr, true≢false, List, [], ◌∷◌, ◌++◌, length, map, refl, sym, ap, ◌∙◌, subst, arith, eq-eqb, eqb-true}
use Rattle.std.specs.Prelude.{Bool, true, false, cond, not, ◌==◌, Option, Some, None, option_map, find}
use Rattle.std.specs.List.{AllByRecursion, Contains}
use Rattle.std.specs.Ordering.{nat_cmp}
use Rattle.std.specs.declared.cmp.Ordering.TheVariants.{Less}
use Rattle.std.proofs.lemmas.Bool.{cond-false, cond-true, cond_both}
use Rattle.std.proofs.lemmas.Bool.Decides.{nat_tests}
use Rattle.prof_base.specs.Ordered.{AllAfter, Rises}
use Rattle.prof_base.specs.declared.ids.SessionId.{SessionId}
use Rattle.prof_base.proofs.Ordered.{Has, contains_from_has, has_from_contains}
use Rattle.code_event.specs.DeoptReasons.{DeoptReasons}
use Rattle.code_event.specs.ItemList.{without}
use Rattle.code_event.specs.Profile.{profile_of, finished_of}
use Rattle.code_event.specs.Recording.{Recording, ended}
use Rattle.code_event.specs.RecordingLaws.{closes}
use Rattle.code_event.specs.Seen.{Seen, stopped}
use Rattle.code_event.specs.Subsample.{kept}
use Rattle.code_event.specs.declared.profile.Finished.{Finished}
use Rattle.code_event.specs.declared.recording.Begun.{Begun}
use Rattle.session_book.specs.Begun.{begun_after}
use Rattle.session_book.specs.Book.{BookParts, IsBook, running, number_of, without_session, AllRecorded, StandsFor}
use Rattle.session_book.specs.Session.{HasRecorded, IsProfile, without_reasons}
use Rattle.session_book.specs.declared.session.Session.{Session}
use Rattle.session_book.proofs.Appended.{running_on-append, recording_behind-stopped}
use Rattle.session_book.proofs.OfBook.{running_is, running_by}
use Rattle.session_book.proofs.Standing.{AreApart, recorded_still}

pub all_without : (P : Session → Type 0) (number : ℕ) (sessions : List Session) → AllByRecursion P sessions → AllByRecursion P (without_session number sessions)
all_without P number [] all = tt
all_without P number (session ∷ sessions) all =
    cond_both (session.id.0 == number) sessions (session ∷ without_session number sessions) (AllByRecursion P) (λ _. all.1) (λ _. (all.0, all_without P number sessions all.1))

less_apart : (number other : ℕ) → nat_cmp number other ≡ Less → (number == other) ≡ false
less_apart number other less = grind (arith, nat_tests)

after_apart : (number : ℕ) (sessions : List Session) → AllAfter nat_cmp number (map number_of sessions) → AreApart number sessions
after_apart number [] all = tt
after_apart number (session ∷ sessions) all = (less_apart number session.id.0 all.0, after_apart number sessions all.1)

turned : (number other : ℕ) → (other == number) ≡ false → (number == other) ≡ false
turned number other apart = grind (arith, nat_tests)

-- of rising ids, one is there only once
pub stays_apart : (number : ℕ) (sessions : List Session) → Rises nat_cmp (map number_of sessions) → AreApart number (without_session number sessions)
stays_apart number [] rises = tt
stays_apart number (session ∷ sessions) rises =
    cond_both (session.id.0 == number) sessions (session ∷ without_session number sessions) (AreApart number)
    (λ same. subst (λ n. AreApart n sessions) (eqb-true session.id.0 number same) (after_apart session.id.0 sessions rises.0))
    (λ apart. (turned number session.id.0 apart, stays_apart number sessions rises.1))

kept_all : (number : ℕ) (sessions : List Session) → AreApart number sessions → map number_of sessions ≡ without number (map number_of sessions)
kept_all number [] apart = refl
kept_all number (session ∷ sessions) apart =
    ap (λ l. session.id.0 ∷ l) (kept_all number sessions apart.1)
    ∙ sym (cond-true (not (session.id.0 == number)) _ _ (ap not (turned session.id.0 number apart.0)))

pub ids_without : (number : ℕ) (sessions : List Session) → Rises nat_cmp (map number_of sessions) → map number_of (without_session number sessions) ≡ without number (map number_of sessions)
ids_without number [] rises = refl
ids_without number (session ∷ sessions) rises =
    let others : List ℕ = without number (map number_of sessions) in
    elim (session.id.0 == number) as (λ (b : Bool). (session.id.0 == number) ≡ b
    → map number_of (cond b sessions (session ∷ without_session number sessions)) ≡ cond (not b) (session.id.0 ∷ others) others) [
      | true ↦ λ same. kept_all number sessions (subst (λ n. AreApart n sessions) (eqb-true session.id.0 number same) (after_apart session.id.0 sessions rises.0))
      | false ↦ λ apart. ap (λ l. session.id.0 ∷ l) (ids_without number sessions rises.1)
    ] refl

after_without : (first number : ℕ) (sessions : List Session) → AllAfter nat_cmp first (map number_of sessions) → AllAfter nat_cmp first (map number_of (without_session number sessions))
after_without first number [] all = tt
after_without first number (session ∷ sessions) all =
    cond_both (session.id.0 == number) sessions (session ∷ without_session number sessions) (λ l. AllAfter nat_cmp first (map number_of l)) (λ _. all.1) (λ _. (all.0, after_without first number sessions all.1))

pub rises_without : (number : ℕ) (sessions : List Session) → Rises nat_cmp (map number_of sessions) → Rises nat_cmp (map number_of (without_session number sessions))
rises_without number [] rises = tt
rises_without number (session ∷ sessions) rises =
    cond_both (session.id.0 == number) sessions (session ∷ without_session number sessions) (λ l. Rises nat_cmp (map number_of l)) (λ _. rises.1)
    (λ _. (after_without session.id.0 number sessions rises.0, rises_without number sessions rises.1))

pub length_without : (number : ℕ) (sessions : List Session) → length (without_session number sessions) ≤ length sessions
length_without number [] = omega arith
length_without number (session ∷ sessions) =
    cond_both (session.id.0 == number) sessions (session ∷ without_session number sessions) (λ l. length l ≤ length (session ∷ sessions)) (λ _. omega arith) (λ _. omega (arith, length_without number sessions))

stopped_others : (base : ℕ) (seen : List Seen) (s : SessionId) (time : ℕ) (reasons : DeoptReasons) (others : List Session) → AreApart s.0 others → AllRecorded base seen others
    → AllRecorded base (seen ++ stopped s time reasons ∷ []) others
stopped_others base seen s time reasons [] apart all = tt
stopped_others base seen s time reasons (other ∷ others) apart all = (
  recorded_still base seen (stopped s time reasons) other (cond-false (s.0 == other.id.0) _ _ apart.0) all.0,
  stopped_others base seen s time reasons others apart.1 all.1,
)

pub stands_stopped : (base : ℕ) (sessions : List Session) (s : SessionId) (time : ℕ) → Rises nat_cmp (map number_of sessions) → (seen : List Seen) (reasons : DeoptReasons)
    → StandsFor (record { base = base; sessions = sessions }) seen → StandsFor (record { base = base; sessions = without_session s.0 sessions }) (seen ++ stopped s time reasons ∷ [])
unfolding StandsFor
stands_stopped base sessions s time rises seen reasons stands = (
  ids_without s.0 sessions rises ∙ ap (without s.0) stands.0 ∙ sym (running_on-append [] seen (stopped s time reasons)),
  stopped_others base seen s time reasons (without_session s.0 sessions) (stays_apart s.0 sessions rises)
      (all_without (λ x. HasRecorded base x (begun_after x.id.0 seen)) s.0 sessions stands.1),
)

-- what is found is of the list, and has the number
pub found_of : (P : Session → Type 0) (number : ℕ) (sessions : List Session) (session : Session) → Some session ≡ find (λ s. s.id.0 == number) sessions → AllByRecursion P sessions
    → P session × (session.id.0 ≡ number)
found_of P number [] session found all = absurd (cc)
found_of P number (first ∷ sessions) session found all =
    elim (first.id.0 == number) as (λ (b : Bool). (first.id.0 == number) ≡ b → Some session ≡ cond b (Some first) (find (λ s. s.id.0 == number) sessions) → P session × (session.id.0 ≡ number)) [
      | true ↦ λ is here. let same : first ≡ session = cc in (subst P same all.0, subst (λ s. s.id.0 ≡ number) same (eqb-true first.id.0 number is))
      | false ↦ λ is here. found_of P number sessions session here all.1
    ] refl found

profile_by : (base : ℕ) (session : Session) (s : SessionId) (time : ℕ) (told : Finished) (reasons : DeoptReasons) (so_far : Option Begun) → session.id ≡ s → IsProfile session time told
    → HasRecorded base session so_far
    → Some told ≡ option_map without_reasons (option_map (λ (r : Recording). profile_of s r (kept base r.begun)) (ended so_far time reasons))
profile_by base session s time told reasons None same is h = absurd h
profile_by base session s time told reasons (Some begun) same is h =
    ap Some (is base begun reasons h ∙ ap (λ id. without_reasons (profile_of id (record { begun = begun; end = time; reasons = reasons }) (kept base begun))) same)

pub profile_stopped : (base : ℕ) (sessions : List Session) (session : Session) (s : SessionId) (time : ℕ) (told : Finished) → Some session ≡ find (λ x. x.id.0 == s.0) sessions
    → IsProfile session time told → (seen : List Seen) (reasons : DeoptReasons) → StandsFor (record { base = base; sessions = sessions }) seen
    → AllByRecursion (λ mark. closes s.0 mark ≡ false) seen
    → Some told ≡ option_map without_reasons (finished_of base s (seen ++ stopped s time reasons ∷ []))
unfolding StandsFor
profile_stopped base sessions session s time told found is seen reasons stands unended =
    let here = found_of (λ x. HasRecorded base x (begun_after x.id.0 seen)) s.0 sessions session found stands.1 in
    profile_by base session s time told reasons (begun_after s.0 seen) (ap (λ n. record { 0 = n }) here.1) is (subst (λ n. HasRecorded base session (begun_after n seen)) here.1 here.0)
    ∙ ap (λ r. option_map without_reasons (option_map (λ (x : Recording). profile_of s x (kept base x.begun)) r)) (sym (recording_behind-stopped s.0 None seen s time reasons refl unended))

has_of : (number : ℕ) (sessions : List Session) (session : Session) → Some session ≡ find (λ s. s.id.0 == number) sessions → Has (map number_of sessions) number
has_of number [] session found = absurd (cc)
has_of number (first ∷ sessions) session found =
    elim (first.id.0 == number) as (λ (b : Bool). (first.id.0 == number) ≡ b → Some session ≡ cond b (Some first) (find (λ s. s.id.0 == number) sessions) → Has (map number_of (first ∷ sessions)) number) [
      | true ↦ λ is here. inl (eqb-true first.id.0 number is)
      | false ↦ λ is here. inr (has_of number sessions session here)
    ] refl found

has_not : (number : ℕ) (sessions : List Session) → None ≡ find (λ s. s.id.0 == number) sessions → Has (map number_of sessions) number → ⊥
has_not number [] none has = has
has_not number (first ∷ sessions) none has =
    elim (first.id.0 == number) as (λ (b : Bool). (first.id.0 == number) ≡ b → None ≡ cond b (Some first) (find (λ s. s.id.0 == number) sessions) → ⊥) [
      | true ↦ λ is here. cc
      | false ↦ λ is here. elim has [ inl same ↦ true≢false (sym (eq-eqb first.id.0 number same) ∙ is) | inr more ↦ has_not number sessions here more ]
    ] refl none

pub found_runs : (book : BookParts) (base number : ℕ) (sessions : List Session) (session : Session) → record { base = base; sessions = sessions } ≡ book
    → Some session ≡ find (λ s. s.id.0 == number) sessions → Contains (running book) number
found_runs book base number sessions session is found =
    subst (λ ids. Contains ids number) (running_is book base sessions is) (contains_from_has (map number_of sessions) number (has_of number sessions session found))

pub none_runs : (book : BookParts) (base number : ℕ) (sessions : List Session) → record { base = base; sessions = sessions } ≡ book
    → None ≡ find (λ s. s.id.0 == number) sessions → ¬ Contains (running book) number
none_runs book base number sessions is none =
    subst (λ ids. ¬ Contains ids number) (running_is book base sessions is) (λ has. has_not number sessions none (has_from_contains (map number_of sessions) number has))

pub book_without : (base number : ℕ) (old new : List Session) → new ≡ without_session number old → IsBook base old → IsBook base new
book_without base number old new taken is =
    subst (IsBook base) (sym taken)
    (record { low = is.low; high = is.high; rises = rises_without number old is.rises; few = omega (arith, length_without number old, is.few) })

pub runs_without : (book : BookParts) (base number : ℕ) (old new : List Session) → record { base = base; sessions = old } ≡ book → new ≡ without_session number old → IsBook base old
    → running (record { base = base; sessions = new }) ≡ without number (running book)
runs_without book base number old new is taken book_is =
    running_by base new ∙ ap (map number_of) taken ∙ ids_without number old book_is.rises ∙ ap (without number) (running_is book base old is)

pub stands_without : (book : BookParts) (base : ℕ) (s : SessionId) (time : ℕ) (old new : List Session) → record { base = base; sessions = old } ≡ book → new ≡ without_session s.0 old → IsBook base old
    → (seen : List Seen) (reasons : DeoptReasons) → StandsFor book seen → StandsFor (record { base = base; sessions = new }) (seen ++ stopped s time reasons ∷ [])
stands_without book base s time old new is taken book_is seen reasons stands =
    subst (λ sessions. StandsFor (record { base = base; sessions = sessions }) (seen ++ stopped s time reasons ∷ [])) (sym taken)
    (stands_stopped base old s time book_is.rises seen reasons (subst (λ b. StandsFor b seen) (sym is) stands))

pub profile_of_book : (book : BookParts) (base : ℕ) (sessions : List Session) (session : Session) (s : SessionId) (time : ℕ) (told : Finished) → record { base = base; sessions = sessions } ≡ book
    → Some session ≡ find (λ x. x.id.0 == s.0) sessions → IsProfile session time told → (seen : List Seen) (reasons : DeoptReasons) → StandsFor book seen
    → AllByRecursion (λ mark. closes s.0 mark ≡ false) seen → Some told ≡ option_map without_reasons (finished_of book.base s (seen ++ stopped s time reasons ∷ []))
profile_of_book book base sessions session s time told is found profile seen reasons stands unended =
    profile_stopped base sessions session s time told found profile seen reasons (subst (λ b. StandsFor b seen) (sym is) stands) unended
    ∙ ap (λ (b : BookParts). option_map without_reasons (finished_of b.base s (seen ++ stopped s time reasons ∷ []))) is
