-- That a session's recording does not depend on ticks for other sessions.
use Rattle.std.proofs.Common.{◌≡◌, ℕ, List, [], ◌∷◌, ◌++◌, refl, ap, sym, ◌∙◌}
use Rattle.std.specs.Prelude.{Bool, true, false, cond, Option, Some, None, option_map, filter, ◌==◌}
use Rattle.code_event.specs.Recording.{is_for, with_tick, recording_behind, ended}
use Rattle.code_event.specs.Subsample.{kept}
use Rattle.code_event.specs.Laws.{concerns, RecordingsAreTheirOwn, KeptTicksAreTheirOwn}
use Rattle.code_event.specs.Seen.{Seen, started, stopped, finished, ticked}
use Rattle.code_event.specs.declared.recording.Begun.{Begun}
use Rattle.code_event.specs.declared.seen.ResolvedTick.{ResolvedTick}

-- a tick for another session changes nothing
passed_by : (session : ℕ) (tick : ResolvedTick) (begun : Option Begun) → is_for session tick.only ≡ false → option_map (with_tick session tick) begun ≡ begun
passed_by session tick None other = refl
passed_by session tick (Some begun) other = ap (λ b. Some (cond b (record begun { ticks = begun.ticks ++ tick ∷ [] }) begun)) other

-- one more tick, by whether it is for the session
own_tick : (session : ℕ) (tick : ResolvedTick) (seen : List Seen) (begun : Option Begun) (b : Bool) → is_for session tick.only ≡ b
    → ((so_far : Option Begun) → recording_behind session so_far (filter (concerns session) seen) ≡ recording_behind session so_far seen)
    → recording_behind session begun (cond b (ticked tick ∷ filter (concerns session) seen) (filter (concerns session) seen)) ≡ recording_behind session (option_map (with_tick session tick) begun) seen
own_tick session tick seen begun true own behind = behind (option_map (with_tick session tick) begun)
own_tick session tick seen begun false other behind = behind begun ∙ ap (λ so_far. recording_behind session so_far seen) (sym (passed_by session tick begun other))

own_behind : (session : ℕ) (begun : Option Begun) (seen : List Seen) → recording_behind session begun (filter (concerns session) seen) ≡ recording_behind session begun seen
own_behind session begun [] = refl
own_behind session begun (started s options time ∷ seen) =
    λ i. cond (s.0 == session) (own_behind session (Some (record { options = options; start = time; ticks = [] })) seen i) (own_behind session begun seen i)
own_behind session begun (ticked tick ∷ seen) = own_tick session tick seen begun (is_for session tick.only) refl (λ so_far. own_behind session so_far seen)
own_behind session begun (stopped s time reasons ∷ seen) = λ i. cond (s.0 == session) (ended begun time reasons) (own_behind session begun seen i)
own_behind session begun (finished time files reasons ∷ seen) = refl

pub own_recordings : RecordingsAreTheirOwn
own_recordings session seen = own_behind session None seen

pub own_kept_ticks : KeptTicksAreTheirOwn
own_kept_ticks base session seen = ap (option_map (λ told. kept base told.begun)) (own_recordings session seen)
