-- What books stand for after many calls, and what sessions depend on.
use Rattle.std.proofs.Common.{◌≡◌, ℕ, List, [], ◌∷◌, ◌++◌, map, refl, sym, ap, ◌∙◌, subst, append_assoc, append-nil}
use Rattle.std.specs.Prelude.{Bool, true, false, cond, ◌==◌, Option, Some, None, option_map, filter}
use Rattle.std.specs.List.{AllZip}
use Rattle.std.proofs.lemmas.Bool.{cond-true}
use Rattle.code_event.specs.Profile.{profile_of}
use Rattle.code_event.specs.Recording.{Recording, is_for, with_tick, recording, recording_behind, ended}
use Rattle.code_event.specs.Seen.{Seen, started, stopped, finished, ticked}
use Rattle.code_event.specs.Subsample.{kept}
use Rattle.code_event.specs.declared.recording.Begun.{Begun}
use Rattle.code_event.specs.declared.seen.ResolvedTick.{ResolvedTick}
use Rattle.session_book.specs.Begun.{fresh, begun_after}
use Rattle.session_book.specs.Book.{BookParts, number_of, AllRecorded, StandsFor, running, intervals}
use Rattle.session_book.specs.Laws.{TakesAll, BooksStandForWhatTheyTook, RunningSessionsAreSeen, HasInterval, IntervalsAreSeen, StopsEndWhatBegan, is_own, SessionsAreIndependent}
use Rattle.session_book.specs.Session.{HasRecorded}
use Rattle.session_book.specs.declared.session.Session.{Session}
use Rattle.session_book.proofs.Appended.{recording_behind-stopped}

took_more : (first last : BookParts) (before seen : List Seen) → StandsFor first before → TakesAll first seen last → StandsFor last (before ++ seen)
took_more first last before [] stands all = subst (λ b. StandsFor b (before ++ [])) all (subst (StandsFor first) (sym (append-nil before)) stands)
took_more first last before (next ∷ seen) stands all =
    subst (StandsFor last) (append_assoc before (next ∷ []) seen) (took_more all.0 last (before ++ next ∷ []) seen (all.1 before stands) all.2)

pub books_stand_for_what_they_took : BooksStandForWhatTheyTook
books_stand_for_what_they_took first last seen stands all = took_more first last [] seen stands all

pub running_sessions_are_seen : RunningSessionsAreSeen
unfolding StandsFor running
running_sessions_are_seen book seen stands = stands.0

has_interval : (base : ℕ) (session : Session) (seen : List Seen) (so_far : Option Begun) → begun_after session.id.0 seen ≡ so_far → HasRecorded base session so_far
    → HasInterval seen session.id.0 session.options.interval
has_interval base session seen None is has = absurd has
has_interval base session seen (Some begun) is has = (begun, is, ap (λ o. o.interval) (sym has.options))

all_intervals : (base : ℕ) (seen : List Seen) (sessions : List Session) → AllRecorded base seen sessions
    → AllZip (HasInterval seen) (map number_of sessions) (map (λ (session : Session). session.options.interval) sessions)
all_intervals base seen [] all = tt
all_intervals base seen (session ∷ sessions) all = (has_interval base session seen (begun_after session.id.0 seen) refl all.0, all_intervals base seen sessions all.1)

pub intervals_are_seen : IntervalsAreSeen
unfolding StandsFor running intervals
intervals_are_seen book seen stands = all_intervals book.base seen book.sessions stands.1

pub stops_end_what_began : StopsEndWhatBegan
stops_end_what_began seen session time reasons unended = recording_behind-stopped session.0 None seen session time reasons refl unended

-- ---- independence

-- a tick for another session changes nothing
passed_by : (number : ℕ) (tick : ResolvedTick) (begun : Option Begun) → is_for number tick.only ≡ false → option_map (with_tick number tick) begun ≡ begun
passed_by number tick None other = refl
passed_by number tick (Some begun) other = ap (λ b. Some (cond b (record begun { ticks = begun.ticks ++ tick ∷ [] }) begun)) other

own_tick : (number : ℕ) (tick : ResolvedTick) (own seen : List Seen) (begun : Option Begun) (b : Bool) → is_for number tick.only ≡ b
    → ((so_far : Option Begun) → recording_behind number so_far own ≡ recording_behind number so_far seen)
    → recording_behind number begun (cond b (ticked tick ∷ own) own) ≡ recording_behind number (option_map (with_tick number tick) begun) seen
own_tick number tick own seen begun true is behind = behind (option_map (with_tick number tick) begun)
own_tick number tick own seen begun false is behind = behind begun ∙ ap (λ so_far. recording_behind number so_far seen) (sym (passed_by number tick begun is))

-- where a test passes, the first that the test chooses is the one, and both are the same elsewhere
kept_mark : (P : List Seen → Option Recording) (mark : Seen) (own : List Seen) (b : Bool) (here there : Option Recording) → (b ≡ true → P (mark ∷ own) ≡ here) → (b ≡ false → P own ≡ there)
    → P (cond b (mark ∷ own) own) ≡ cond b here there
kept_mark P mark own true here there one other = one refl
kept_mark P mark own false here there one other = other refl

own_behind : (number : ℕ) (begun : Option Begun) (seen : List Seen) → recording_behind number begun (filter (is_own number) seen) ≡ recording_behind number begun seen
own_behind number begun [] = refl
own_behind number begun (started s options time ∷ seen) =
    kept_mark (recording_behind number begun) (started s options time) (filter (is_own number) seen) (s.0 == number) (recording_behind number (Some (fresh options time)) seen) (recording_behind number begun seen)
    (λ is. cond-true (s.0 == number) _ _ is ∙ own_behind number (Some (fresh options time)) seen) (λ _. own_behind number begun seen)
own_behind number begun (ticked tick ∷ seen) = own_tick number tick (filter (is_own number) seen) seen begun (is_for number tick.only) refl (λ so_far. own_behind number so_far seen)
own_behind number begun (stopped s time reasons ∷ seen) =
    kept_mark (recording_behind number begun) (stopped s time reasons) (filter (is_own number) seen) (s.0 == number) (ended begun time reasons) (recording_behind number begun seen)
    (λ is. cond-true (s.0 == number) _ _ is) (λ _. own_behind number begun seen)
own_behind number begun (finished time files reasons ∷ seen) = refl

pub sessions_are_independent : SessionsAreIndependent
sessions_are_independent base session one other same =
    ap (option_map (λ (r : Recording). profile_of session r (kept base r.begun)))
    (sym (own_behind session.0 None one) ∙ ap (recording session.0) same ∙ own_behind session.0 None other)
