-- What a running session consists of, by what it has recorded.
use Rattle.std.specs.Prelude.{◌≡◌, ℕ, ◌-◌, List, [], ◌∷◌, ◌++◌, length, map, Bool, nat_lt, Option, Some, None, if◌then◌else◌}
use Rattle.std.specs.Prelude.{true}
use Rattle.std.specs.List.{AllZip}
use Rattle.prof_base.specs.Interval.{rounded_of}
use Rattle.code_event.specs.DeoptReasons.{DeoptReasons}
use Rattle.code_event.specs.Profile.{visits_of, cut, deltas, profile_of}
use Rattle.code_event.specs.Recording.{with_tick}
use Rattle.code_event.specs.Subsample.{kept}
use Rattle.code_event.specs.Symbolizer.{path, leaf_line}
use Rattle.code_event.specs.declared.event.Mode.{Mode}
use Rattle.code_event.specs.declared.event.Mode.TheVariants.{Leaf, Caller}
use Rattle.code_event.specs.declared.path.PathPair.{PathPair}
use Rattle.code_event.specs.declared.path.PathStep.{PathStep}
use Rattle.code_event.specs.declared.profile.FinNode.{FinNode}
use Rattle.code_event.specs.declared.profile.Finished.{Finished}
use Rattle.code_event.specs.declared.recording.Begun.{Begun}
use Rattle.code_event.specs.declared.seen.ResolvedFrame.{ResolvedFrame}
use Rattle.code_event.specs.declared.seen.ResolvedTick.{ResolvedTick}
use Rattle.code_event.specs.declared.tick.Tick.{Tick}
use Rattle.code_event.specs.declared.visit.Visit.{Visit}
use Rattle.profile_tree.specs.Grown.{StandsFor as IsTreeOf, Names}
use Rattle.session_book.specs.Counter.{IsLeft, since_after}
use Rattle.session_book.specs.declared.session.Session.{Session}

-- the paths of these frames in both modes
abbrev pub paths_over : List ResolvedFrame → PathPair
paths_over frames = record { leaf = path Leaf frames; caller = path Caller frames; leaf_line = leaf_line frames }

-- a tick with these frames
abbrev pub seen_tick : Tick → List ResolvedFrame → ResolvedTick
seen_tick tick frames = record { time = tick.time; interval = tick.interval; hit = tick.hit; only = tick.only; frames = frames }

-- the path in a mode
abbrev pub path_in : Mode → PathPair → List PathStep
path_in Leaf paths = paths.leaf
path_in Caller paths = paths.caller

-- one more sample can be listed
abbrev pub has_room : Option ℕ → ℕ → Bool
has_room None count = true
has_room (Some most) count = nat_lt count most

-- the last of some times, or this where there is none
abbrev pub last_time : ℕ → List ℕ → ℕ
last_time before [] = before
last_time before (time ∷ times) = last_time time times

-- the paths of kept ticks
abbrev pub paths_kept : Mode → List ResolvedTick → List (List PathStep)
paths_kept mode ticks = map (λ visit. visit.path) (visits_of mode ticks)

-- the times of kept ticks
abbrev pub times_of : List ResolvedTick → List ℕ
times_of ticks = map (λ tick. tick.time) ticks

-- the session has these kept ticks: its tree is of all of them, and the first are listed
pub record HasKept (session : Session) (ticks : List ResolvedTick) : Type 0 where
  pub tree : IsTreeOf session.sampled.tree (visits_of session.options.mode ticks)
  pub samples : AllZip (Names session.sampled.tree) session.sampled.samples (cut session.options.max_samples (paths_kept session.options.mode ticks))
  pub deltas : session.deltas ≡ deltas session.start (cut session.options.max_samples (times_of ticks))
  pub last : session.last ≡ last_time session.start (cut session.options.max_samples (times_of ticks))

-- the session after a kept tick with this path and line, where it was the old one before
pub record Keeps (tick : Tick) (path : List PathStep) (line : ℕ) (old new : Session) : Type 0 where
  pub id : new.id ≡ old.id
  pub options : new.options ≡ old.options
  pub start : new.start ≡ old.start
  pub counter : new.counter ≡ old.counter
  pub tree : (visits : List Visit) → IsTreeOf old.sampled.tree visits → IsTreeOf new.sampled.tree (visits ++ record { path = path; line = line; hit = tick.hit } ∷ [])
  pub samples : (paths : List (List PathStep)) → AllZip (Names old.sampled.tree) old.sampled.samples paths
      → AllZip (Names new.sampled.tree) new.sampled.samples (if has_room old.options.max_samples (length old.sampled.samples) then paths ++ path ∷ [] else paths)
  pub deltas : new.deltas ≡ (if has_room old.options.max_samples (length old.sampled.samples) then old.deltas ++ (tick.time - old.last) ∷ [] else old.deltas)
  pub last : new.last ≡ (if has_room old.options.max_samples (length old.sampled.samples) then tick.time else old.last)

-- the session has recorded this, by the isolate's base
pub record HasBegun (base : ℕ) (session : Session) (begun : Begun) : Type 0 where
  pub options : session.options ≡ begun.options
  pub start : session.start ≡ begun.start
  pub rounded : session.counter.rounded ≡ rounded_of base begun.options.interval
  pub left : IsLeft session.counter (since_after session.counter.rounded None begun.ticks)
  pub kept : HasKept session (kept base begun)

-- the session has recorded this, and runs
abbrev pub HasRecorded : ℕ → Session → Option Begun → Type 0
HasRecorded base session None = ⊥
HasRecorded base session (Some begun) = HasBegun base session begun

-- whatever the old session has recorded, the new one has that and the tick, if it is for the session
abbrev pub TakesTick : Tick → PathPair → Session → Session → Type 0
TakesTick tick paths old new =
    (base : ℕ) (begun : Begun) (frames : List ResolvedFrame) → paths ≡ paths_over frames → HasBegun base old begun
    → HasBegun base new (with_tick old.id.0 (seen_tick tick frames) begun)

-- a profile without the reasons of its nodes
abbrev pub without_reasons : Finished → Finished
without_reasons finished = record finished { nodes = map (λ (node : FinNode). record node { reason = None }) finished.nodes }

-- whatever the session has recorded, this is its profile without reasons
abbrev pub IsProfile : Session → ℕ → Finished → Type 0
IsProfile session end finished =
    (base : ℕ) (begun : Begun) (reasons : DeoptReasons) → HasBegun base session begun
    → finished ≡ without_reasons (profile_of session.id (record { begun = begun; end = end; reasons = reasons }) (kept base begun))
