-- What a book stands for.
use Rattle.std.specs.Prelude.{◌≡◌, ℕ, ◌<◌, ◌≤◌, true, false, slice_index, List, [], ◌∷◌, length, map, nat_le, ◌==◌, if◌then◌else◌}
use Rattle.std.specs.List.{AllByRecursion}
use Rattle.std.specs.Ordering.{nat_cmp}
use Rattle.prof_base.specs.Ordered.{Rises}
use Rattle.prof_base.specs.declared.interval.TheConstants.{MAX_INTERVAL}
use Rattle.code_event.specs.FileLaws.{running_on}
use Rattle.code_event.specs.Seen.{Seen}
use Rattle.code_event.specs.declared.event.TheConstants.{MAX_SESSIONS}
use Rattle.session_book.specs.Begun.{begun_after}
use Rattle.session_book.specs.Session.{HasRecorded}
use Rattle.session_book.specs.declared.session.Session.{Session}

abbrev pub number_of : Session → ℕ
number_of session = session.id.0

-- the base, and the running sessions
pub record BookParts : Type 0 where
  pub base : ℕ
  pub sessions : List Session

-- the base is in its range, the sessions are in the order of their ids, and there are not too many of them
pub record IsBook (base : ℕ) (sessions : List Session) : Type 0 where
  pub low : 1 ≤ base
  pub high : base ≤ MAX_INTERVAL
  pub rises : Rises nat_cmp (map number_of sessions)
  pub few : length sessions ≤ MAX_SESSIONS

-- the ids of the running sessions
unfoldable pub running : BookParts → List ℕ
running book = map number_of book.sessions

-- the intervals that the running sessions ask for
unfoldable pub intervals : BookParts → List ℕ
intervals book = map (λ (session : Session). session.options.interval) book.sessions

-- the place before the first id that is not less, or the end
pub record IsPlaceFor (number : ℕ) (ids : List ℕ) (at : ℕ) : Type 0 where
  pub within : at ≤ length ids
  pub here : at < length ids → nat_le number (slice_index ids at) ≡ true
  pub before : (k : ℕ) → k < at → nat_le number (slice_index ids k) ≡ false

-- a session before the first whose id is not less
abbrev pub with_session : Session → List Session → List Session
with_session session [] = session ∷ []
with_session session (other ∷ others) = if nat_le session.id.0 other.id.0 then session ∷ other ∷ others else other ∷ with_session session others

-- the sessions without the first of this id
abbrev pub without_session : ℕ → List Session → List Session
without_session number [] = []
without_session number (session ∷ sessions) = if session.id.0 == number then sessions else session ∷ without_session number sessions

-- each of the sessions has recorded what is seen
abbrev pub AllRecorded : ℕ → List Seen → List Session → Type 0
AllRecorded base seen sessions = AllByRecursion (λ session. HasRecorded base session (begun_after session.id.0 seen)) sessions

-- the book's sessions are those that run after what is seen, and each has recorded its part
unfoldable pub StandsFor : BookParts → List Seen → Type 0
StandsFor book seen = (map number_of book.sessions ≡ running_on [] seen) × AllRecorded book.base seen book.sessions
