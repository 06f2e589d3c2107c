-- When a session is not started or stopped.
use Rattle.std.specs.Prelude.{◌≡◌, ℕ, ◌<◌, List, length}
use Rattle.std.specs.List.{Contains}
use Rattle.code_event.specs.declared.event.TheConstants.{MAX_SESSIONS}
use Rattle.session_book.specs.declared.refused.StartRefused.{StartRefused}
use Rattle.session_book.specs.declared.refused.StartRefused.TheVariants as start
use Rattle.session_book.specs.declared.refused.StopRefused.{StopRefused}
use Rattle.session_book.specs.declared.refused.StopRefused.TheVariants as stop

-- the session does not run, and fewer run than may
abbrev pub MayStart : List ℕ → ℕ → Type 0
MayStart running number = (¬ Contains running number) × (length running < MAX_SESSIONS)

-- what a refusal to start a session says of those that run
abbrev pub IsStartRefused : List ℕ → ℕ → StartRefused → Type 0
IsStartRefused running number start.TooMany = (¬ Contains running number) × (length running ≡ MAX_SESSIONS)
IsStartRefused running number start.Already = Contains running number
IsStartRefused running number start.Memory = MayStart running number

-- what a refusal to stop a session says of those that run
abbrev pub IsStopRefused : List ℕ → ℕ → StopRefused → Type 0
IsStopRefused running number stop.NoSession = ¬ Contains running number
IsStopRefused running number stop.Memory = Contains running number
