-- What holds of books and sessions, whatever the calls.
use Rattle.std.specs.Prelude.{◌≡◌, ℕ, List, [], ◌∷◌, ◌++◌, Bool, true, false, ◌==◌, Some, filter}
use Rattle.std.specs.List.{AllByRecursion, AllZip}
use Rattle.prof_base.specs.declared.ids.SessionId.{SessionId}
use Rattle.code_event.specs.DeoptReasons.{DeoptReasons}
use Rattle.code_event.specs.FileLaws.{running_on}
use Rattle.code_event.specs.Profile.{finished_of}
use Rattle.code_event.specs.Recording.{is_for, recording, ended}
use Rattle.code_event.specs.RecordingLaws.{closes}
use Rattle.code_event.specs.Seen.{Seen, started, stopped, finished, ticked}
use Rattle.code_event.specs.declared.recording.Begun.{Begun}
use Rattle.session_book.specs.Begun.{begun_after}
use Rattle.session_book.specs.Book.{BookParts, StandsFor, running, intervals}

-- whatever the old book stands for, the new one stands for that and what is seen next
abbrev pub Follows : BookParts → Seen → BookParts → Type 0
Follows old next new = (seen : List Seen) → StandsFor old seen → StandsFor new (seen ++ next ∷ [])

-- from the one book to the other, all this was taken one by one
abbrev pub TakesAll : BookParts → List Seen → BookParts → Type 0
TakesAll first [] last = first ≡ last
TakesAll first (next ∷ seen) last = (middle : BookParts) × Follows first next middle × TakesAll middle seen last

-- a new book that took starts, ticks and stops one by one stands for them
abbrev pub BooksStandForWhatTheyTook : Type 0
BooksStandForWhatTheyTook = (first last : BookParts) (seen : List Seen) → StandsFor first [] → TakesAll first seen last → StandsFor last seen

-- the ids of the running sessions are those that run after what is seen
abbrev pub RunningSessionsAreSeen : Type 0
RunningSessionsAreSeen = (book : BookParts) (seen : List Seen) → StandsFor book seen → running book ≡ running_on [] seen

-- each running session has begun, and asks for the interval that it was started with
abbrev pub HasInterval : List Seen → ℕ → ℕ → Type 0
HasInterval seen number interval = (begun : Begun) × (begun_after number seen ≡ Some begun) × (begun.options.interval ≡ interval)

abbrev pub IntervalsAreSeen : Type 0
IntervalsAreSeen = (book : BookParts) (seen : List Seen) → StandsFor book seen → AllZip (HasInterval seen) (running book) (intervals book)

-- a session that nothing has ended is recorded up to its stop
abbrev pub StopsEndWhatBegan : Type 0
StopsEndWhatBegan =
    (seen : List Seen) (session : SessionId) (time : ℕ) (reasons : DeoptReasons) → AllByRecursion (λ mark. closes session.0 mark ≡ false) seen
    → recording session.0 (seen ++ stopped session time reasons ∷ []) ≡ ended (begun_after session.0 seen) time reasons

-- a mark of the session, a finish, or a tick that is for the session
abbrev pub is_own : ℕ → Seen → Bool
is_own number (started session options time) = session.0 == number
is_own number (stopped session time reasons) = session.0 == number
is_own number (finished time files reasons) = true
is_own number (ticked tick) = is_for number tick.only

-- a session's profile depends on nothing but its own marks and ticks
abbrev pub SessionsAreIndependent : Type 0
SessionsAreIndependent =
    (base : ℕ) (session : SessionId) (one other : List Seen) → filter (is_own session.0) one ≡ filter (is_own session.0) other
    → finished_of base session one ≡ finished_of base session other
