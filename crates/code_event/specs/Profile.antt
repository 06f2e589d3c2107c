-- The finished profile of a session: its tree, samples and times.
use Rattle.std.specs.Prelude.{ℕ, ◌-◌, List, [], ◌∷◌, map, take, Option, Some, None, option_map}
use Rattle.prof_base.specs.declared.ids.SessionId.{SessionId}
use Rattle.code_event.specs.Seen.{Seen}
use Rattle.code_event.specs.declared.seen.ResolvedTick.{ResolvedTick}
use Rattle.code_event.specs.Symbolizer.{path, leaf_line}
use Rattle.code_event.specs.Recording.{Recording, recording}
use Rattle.code_event.specs.Subsample.{kept}
use Rattle.code_event.specs.declared.visit.Visit.{Visit}
use Rattle.code_event.specs.Tree.{nodes, id_of, fin_nodes}
use Rattle.code_event.specs.declared.event.Mode.{Mode}
use Rattle.code_event.specs.declared.profile.Finished.{Finished}

-- a kept tick in the tree of its session
abbrev pub visit_of : Mode → ResolvedTick → Visit
visit_of mode tick = record { path = path mode tick.frames; line = leaf_line tick.frames; hit = tick.hit }

abbrev pub visits_of : Mode → List ResolvedTick → List Visit
visits_of mode ticks = map (visit_of mode) ticks

-- the first elements, at most this many, or all
abbrev pub cut : {A : Type 0} → Option ℕ → List A → List A
cut None xs = xs
cut (Some most) xs = take most xs

-- the ids of the ticks' nodes, in order
abbrev pub samples : List Visit → List ℕ
samples visits = map (λ visit. id_of (nodes visits) visit.path) visits

-- the difference of each time from the one before it, and of the first from this one
abbrev pub deltas : ℕ → List ℕ → List ℕ
deltas before [] = []
deltas before (time ∷ times) = (time - before) ∷ deltas time times

-- the profile of kept ticks
abbrev pub profile_of : SessionId → Recording → List ResolvedTick → Finished
profile_of session recording ticks =
    let options = recording.begun.options in
    let visits = visits_of options.mode ticks in
    record {
      session = session;
      port = options.port;
      start = recording.begun.start;
      end = recording.end;
      nodes = fin_nodes visits recording.reasons;
      samples = cut options.max_samples (samples visits);
      deltas = deltas recording.begun.start (cut options.max_samples (map (λ tick. tick.time) ticks));
    }

-- the finished profile of a session, by the isolate's base; none where the session was not ended
abbrev pub finished_of : ℕ → SessionId → List Seen → Option Finished
finished_of base session seen = option_map (λ r. profile_of session r (kept base r.begun)) (recording session.0 seen)
