-- What a session records: its ticks, from its start to its stop or to a finish.
use Rattle.std.specs.Prelude.{ℕ, List, [], ◌∷◌, ◌++◌, Bool, true, ◌==◌, Option, Some, None, option_map, if◌then◌else◌}
use Rattle.prof_base.specs.declared.ids.SessionId.{SessionId}
use Rattle.code_event.specs.DeoptReasons.{DeoptReasons, reasons_in}
use Rattle.code_event.specs.Seen.{Seen, started, stopped, finished, ticked}
use Rattle.code_event.specs.declared.seen.ResolvedTick.{ResolvedTick}
use Rattle.code_event.specs.declared.recording.Begun.{Begun}
use Rattle.code_event.specs.declared.recording.Recording.{Recording as ListedRecording}

-- a tick is for a session: for all, or for that one
abbrev pub is_for : ℕ → Option SessionId → Bool
is_for session None = true
is_for session (Some only) = only.0 == session

-- a session that has ended
pub record Recording : Type 0 where
  pub begun : Begun
  pub end : ℕ
  pub reasons : DeoptReasons

-- a session that has ended, of which the code keeps the reasons in a list
abbrev pub recording_by : ListedRecording → Recording
recording_by listed = record { begun = listed.begun; end = listed.end; reasons = reasons_in listed.reasons }

-- one more tick, if it is for the session
abbrev pub with_tick : ℕ → ResolvedTick → Begun → Begun
with_tick session tick begun =
    if is_for session tick.only then record begun { ticks = begun.ticks ++ tick ∷ [] } else begun

abbrev pub ended : Option Begun → ℕ → DeoptReasons → Option Recording
ended begun end reasons = option_map (λ b. record { begun = b; end = end; reasons = reasons }) begun

-- the session's recording, where this had begun before: from its last start to its first stop, or to a finish
abbrev pub recording_behind : ℕ → Option Begun → List Seen → Option Recording
recording_behind session begun [] = None
recording_behind session begun (started s options time ∷ seen) =
    if s.0 == session
    then recording_behind session (Some (record { options = options; start = time; ticks = [] })) seen
    else recording_behind session begun seen
recording_behind session begun (ticked tick ∷ seen) = recording_behind session (option_map (with_tick session tick) begun) seen
recording_behind session begun (stopped s time reasons ∷ seen) = if s.0 == session then ended begun time reasons else recording_behind session begun seen
recording_behind session begun (finished time files reasons ∷ seen) = ended begun time reasons

abbrev pub recording : ℕ → List Seen → Option Recording
recording session seen = recording_behind session None seen
