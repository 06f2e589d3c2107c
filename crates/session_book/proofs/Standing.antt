-- What a book stands for, as it takes starts and ticks.
use Rattle.std.proofs.Common.{◌≡◌, ℕ, ◌+◌, List, [], ◌∷◌, ◌++◌, length, map, refl, sym, ap, ap₂, ◌∙◌, subst, inl, inr, arith, eq-eqb}
use Rattle.std.specs.Prelude.{true, false, ◌==◌, nat_le, Option, Some, None, option_map}
use Rattle.std.specs.List.{AllByRecursion, AllZip, Contains}
use Rattle.std.specs.Ordering.{nat_cmp, is_lt, is_eq}
use Rattle.std.proofs.lemmas.Bool.{cond-false, cond-true, cond_both}
use Rattle.std.proofs.lemmas.Bool.Decides.{nat_tests}
use Rattle.prof_base.specs.Ordered.{insert_sorted}
use Rattle.prof_base.proofs.Ordered.{Has, contains_from_has}
use Rattle.code_event.specs.Recording.{with_tick}
use Rattle.code_event.specs.Seen.{Seen, started, ticked}
use Rattle.code_event.specs.declared.event.Options.{Options}
use Rattle.code_event.specs.declared.path.PathPair.{PathPair}
use Rattle.code_event.specs.declared.recording.Begun.{Begun}
use Rattle.code_event.specs.declared.seen.ResolvedFrame.{ResolvedFrame}
use Rattle.code_event.specs.declared.tick.Tick.{Tick}
use Rattle.prof_base.specs.declared.ids.SessionId.{SessionId}
use Rattle.session_book.specs.Begun.{fresh, begun_next, begun_after}
use Rattle.session_book.specs.Book.{number_of, with_session, AllRecorded, StandsFor}
use Rattle.session_book.specs.Session.{HasRecorded, HasBegun, TakesTick, paths_over, seen_tick}
use Rattle.session_book.specs.declared.session.Session.{Session}
use Rattle.session_book.proofs.Appended.{begun_behind-append, running_on-append}

-- none of the sessions has the number
abbrev pub AreApart : ℕ → List Session → Type 0
AreApart number sessions = AllByRecursion (λ session. (number == session.id.0) ≡ false) sessions

differ : (number other : ℕ) → (other ≡ number → ⊥) → (number == other) ≡ false
differ number other apart = grind (arith, nat_tests)

has_none : (number : ℕ) (sessions : List Session) → (Has (map number_of sessions) number → ⊥) → AreApart number sessions
has_none number [] none = tt
has_none number (session ∷ sessions) none = (differ number session.id.0 (λ e. none (inl e)), has_none number sessions (λ h. none (inr h)))

pub apart : (number : ℕ) (sessions : List Session) → ¬ Contains (map number_of sessions) number → AreApart number sessions
apart number sessions none = has_none number sessions (λ h. none (contains_from_has (map number_of sessions) number h))

-- ---- a start

pub all_with : (P : Session → Type 0) (session : Session) (others : List Session) → P session → AllByRecursion P others → AllByRecursion P (with_session session others)
all_with P session [] here all = (here, tt)
all_with P session (other ∷ others) here all =
    cond_both (nat_le session.id.0 other.id.0) (session ∷ other ∷ others) (other ∷ with_session session others) (AllByRecursion P) (λ _. (here, all)) (λ _. (all.0, all_with P session others here all.1))

pub length_with : (session : Session) (others : List Session) → length (with_session session others) ≡ length others + 1
length_with session [] = refl
length_with session (other ∷ others) =
    cond_both (nat_le session.id.0 other.id.0) (session ∷ other ∷ others) (other ∷ with_session session others) (λ l. length l ≡ length (other ∷ others) + 1)
    (λ _. omega arith) (λ _. omega (arith, length_with session others))

lt_by : (number other : ℕ) → (number == other) ≡ false → nat_le number other ≡ true → is_lt (nat_cmp number other) ≡ true
lt_by number other apart le = grind (arith, nat_tests)

not_lt_by : (number other : ℕ) → nat_le number other ≡ false → is_lt (nat_cmp number other) ≡ false
not_lt_by number other above = grind (arith, nat_tests)

not_eq_by : (number other : ℕ) → nat_le number other ≡ false → is_eq (nat_cmp number other) ≡ false
not_eq_by number other above = grind (arith, nat_tests)

pub ids_with : (session : Session) (others : List Session) → AreApart session.id.0 others → map number_of (with_session session others) ≡ insert_sorted nat_cmp session.id.0 (map number_of others)
ids_with session [] apart = refl
ids_with session (other ∷ others) apart =
    let number = session.id.0 in
    cond_both (nat_le number other.id.0) (session ∷ other ∷ others) (other ∷ with_session session others) (λ l. map number_of l ≡ insert_sorted nat_cmp number (other.id.0 ∷ map number_of others))
    (λ le. sym (cond-true (is_lt (nat_cmp number other.id.0)) _ _ (lt_by number other.id.0 apart.0 le)))
    (λ above.
    ap (λ l. other.id.0 ∷ l) (ids_with session others apart.1) ∙ sym (cond-false (is_eq (nat_cmp number other.id.0)) _ _ (not_eq_by number other.id.0 above))
    ∙ sym (cond-false (is_lt (nat_cmp number other.id.0)) _ _ (not_lt_by number other.id.0 above)))

-- a mark that changes nothing for a session
pub recorded_still : (base : ℕ) (seen : List Seen) (next : Seen) (session : Session) → begun_next session.id.0 (begun_after session.id.0 seen) next ≡ begun_after session.id.0 seen
    → HasRecorded base session (begun_after session.id.0 seen) → HasRecorded base session (begun_after session.id.0 (seen ++ next ∷ []))
recorded_still base seen next session same h = subst (HasRecorded base session) (sym (begun_behind-append session.id.0 None seen next ∙ same)) h

started_others : (base : ℕ) (seen : List Seen) (s : SessionId) (options : Options) (time : ℕ) (others : List Session) → AreApart s.0 others → AllRecorded base seen others
    → AllRecorded base (seen ++ started s options time ∷ []) others
started_others base seen s options time [] apart all = tt
started_others base seen s options time (other ∷ others) apart all = (
  recorded_still base seen (started s options time) other (cond-false (s.0 == other.id.0) _ _ apart.0) all.0,
  started_others base seen s options time others apart.1 all.1,
)

started_itself : (base : ℕ) (seen : List Seen) (s : SessionId) (options : Options) (time : ℕ) (session : Session) → session.id ≡ s → HasBegun base session (fresh options time)
    → HasRecorded base session (begun_after session.id.0 (seen ++ started s options time ∷ []))
started_itself base seen s options time session is h =
    subst (HasRecorded base session)
    (sym (begun_behind-append session.id.0 None seen (started s options time) ∙ cond-true (s.0 == session.id.0) _ _ (eq-eqb s.0 session.id.0 (ap (λ id. id.0) (sym is))))) h

pub stands_started : (base : ℕ) (sessions : List Session) (session : Session) (s : SessionId) (options : Options) (time : ℕ) → AreApart s.0 sessions → session.id ≡ s
    → HasBegun base session (fresh options time) → (seen : List Seen) → StandsFor (record { base = base; sessions = sessions }) seen
    → StandsFor (record { base = base; sessions = with_session session sessions }) (seen ++ started s options time ∷ [])
unfolding StandsFor
stands_started base sessions session s options time apart is begun seen stands = (
  ids_with session sessions (subst (λ id. AreApart id.0 sessions) (sym is) apart) ∙ ap₂ (λ id ids. insert_sorted nat_cmp id.0 ids) is stands.0
      ∙ sym (running_on-append [] seen (started s options time)),
  all_with (λ x. HasRecorded base x (begun_after x.id.0 (seen ++ started s options time ∷ []))) session sessions
      (started_itself base seen s options time session is begun) (started_others base seen s options time sessions apart stands.1),
)

-- ---- a tick

recorded_tick : (base : ℕ) (seen : List Seen) (tick : Tick) (paths : PathPair) (frames : List ResolvedFrame) (old new : Session) (so_far : Option Begun) → paths ≡ paths_over frames
    → TakesTick tick paths old new → HasRecorded base old so_far → HasRecorded base new (option_map (with_tick old.id.0 (seen_tick tick frames)) so_far)
recorded_tick base seen tick paths frames old new None same takes h = absurd h
recorded_tick base seen tick paths frames old new (Some begun) same takes h = takes base begun frames same h

ticked_all : (base : ℕ) (seen : List Seen) (tick : Tick) (paths : PathPair) (frames : List ResolvedFrame) (old new : List Session) → paths ≡ paths_over frames
    → AllZip (TakesTick tick paths) old new → map number_of new ≡ map number_of old → AllRecorded base seen old
    → AllRecorded base (seen ++ ticked (seen_tick tick frames) ∷ []) new
ticked_all base seen tick paths frames [] [] same takes ids all = tt
ticked_all base seen tick paths frames [] (n ∷ new) same takes ids all = absurd takes
ticked_all base seen tick paths frames (o ∷ old) [] same takes ids all = absurd takes
ticked_all base seen tick paths frames (o ∷ old) (n ∷ new) same takes ids all =
    let number : n.id.0 ≡ o.id.0 = cc in
    let rest : map number_of new ≡ map number_of old = cc in (
      subst (HasRecorded base n)
          (sym (begun_behind-append o.id.0 None seen (ticked (seen_tick tick frames))) ∙ ap (λ k. begun_after k (seen ++ ticked (seen_tick tick frames) ∷ [])) (sym number))
          (recorded_tick base seen tick paths frames o n (begun_after o.id.0 seen) same takes.0 all.0),
      ticked_all base seen tick paths frames old new same takes.1 rest all.1,
    )

pub stands_ticked : (base : ℕ) (tick : Tick) (paths : PathPair) (old new : List Session) → AllZip (TakesTick tick paths) old new → map number_of new ≡ map number_of old
    → (seen : List Seen) (frames : List ResolvedFrame) → paths ≡ paths_over frames → StandsFor (record { base = base; sessions = old }) seen
    → StandsFor (record { base = base; sessions = new }) (seen ++ ticked (seen_tick tick frames) ∷ [])
unfolding StandsFor
stands_ticked base tick paths old new takes ids seen frames same stands =
    (ids ∙ stands.0 ∙ sym (running_on-append [] seen (ticked (seen_tick tick frames))), ticked_all base seen tick paths frames old new same takes ids stands.1)
