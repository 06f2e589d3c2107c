-- What a session has recorded so far, after what is seen.
use Rattle.std.specs.Prelude.{ℕ, List, [], ◌∷◌, ◌==◌, Option, Some, None, option_map, if◌then◌else◌}
use Rattle.code_event.specs.Recording.{with_tick}
use Rattle.code_event.specs.Seen.{Seen, started, stopped, finished, ticked}
use Rattle.code_event.specs.declared.event.Options.{Options}
use Rattle.code_event.specs.declared.recording.Begun.{Begun}

-- a session that has just begun
abbrev pub fresh : Options → ℕ → Begun
fresh options time = record { options = options; start = time; ticks = [] }

-- what a session has after this, where it had this before: nothing unless it runs
abbrev pub begun_next : ℕ → Option Begun → Seen → Option Begun
begun_next number begun (started s options time) = if s.0 == number then Some (fresh options time) else begun
begun_next number begun (ticked tick) = option_map (with_tick number tick) begun
begun_next number begun (stopped s time reasons) = if s.0 == number then None else begun
begun_next number begun (finished time files reasons) = None

-- what a session has after all this, where it had this before
abbrev pub begun_behind : ℕ → Option Begun → List Seen → Option Begun
begun_behind number begun [] = begun
begun_behind number begun (next ∷ seen) = begun_behind number (begun_next number begun next) seen

-- what a session has after all this
abbrev pub begun_after : ℕ → List Seen → Option Begun
begun_after number seen = begun_behind number None seen
