-- A session's recording by where its start, its ticks and its end are, and its kept ticks by sums.
use Rattle.std.specs.Prelude.{◌≡◌, ℕ, ◌+◌, ◌≤◌, ◌↔◌, ◌⊎◌, List, [], ◌∷◌, ◌++◌, map, sum_by, Bool, true, false, ◌&&◌, ◌==◌, nat_lt, Some, None, if◌then◌else◌}
use Rattle.std.specs.List.{AllByRecursion}
use Rattle.code_event.specs.DeoptReasons.{DeoptReasons}
use Rattle.code_event.specs.ItemFile.{session}
use Rattle.code_event.specs.Recording.{Recording, is_for, recording}
use Rattle.code_event.specs.Seen.{Seen, started, stopped, finished, ticked}
use Rattle.code_event.specs.Subsample.{kept_since}
use Rattle.code_event.specs.declared.seen.ResolvedTick.{ResolvedTick}

-- it is a start of the session
abbrev pub starts : ℕ → Seen → Bool
starts number (started s options time) = s.0 == number
starts number other = false

-- it is an end of the session: a stop of it, or a finish
abbrev pub closes : ℕ → Seen → Bool
closes number (stopped s time reasons) = s.0 == number
closes number (finished time files reasons) = true
closes number other = false

-- it is an end of the session, at this time and with these reasons
abbrev pub ClosesWith : ℕ → ℕ → DeoptReasons → Seen → Type 0
ClosesWith number end reasons (stopped s time given) = (s.0 ≡ number) × (time ≡ end) × (given ≡ reasons)
ClosesWith number end reasons (finished time files given) = (time ≡ end) × (given ≡ reasons)
ClosesWith number end reasons other = ⊥

-- the ticks that are for the session, in order
abbrev pub ticks_for : ℕ → List Seen → List ResolvedTick
ticks_for number [] = []
ticks_for number (ticked tick ∷ seen) = if is_for number tick.only then tick ∷ ticks_for number seen else ticks_for number seen
ticks_for number (started s options time ∷ seen) = ticks_for number seen
ticks_for number (stopped s time reasons ∷ seen) = ticks_for number seen
ticks_for number (finished time files reasons ∷ seen) = ticks_for number seen

-- The recording is found in what is seen: the first stop of the session, or a finish before any stop, ends it; the last start of the session before that begins it; its ticks are those in between that are for the session.
pub record IsRecordedIn (seen : List Seen) (number : ℕ) (recording : Recording) : Type 0 where
  pub before : List Seen
  pub between : List Seen
  pub close : Seen
  pub after : List Seen
  pub parts : seen ≡ before ++ started (session number) recording.begun.options recording.begun.start ∷ between ++ close ∷ after
  pub end : ClosesWith number recording.end recording.reasons close
  pub first_end : AllByRecursion (λ other. closes number other ≡ false) (before ++ between)
  pub last_start : AllByRecursion (λ other. starts number other ≡ false) between
  pub ticks : recording.begun.ticks ≡ ticks_for number between

-- a session has a recording exactly where one is found in what is seen, and it is that one
abbrev pub RecordingsStandBetween : Type 0
RecordingsStandBetween = (seen : List Seen) (number : ℕ) (told : Recording) → (recording number seen ≡ Some told) ↔ IsRecordedIn seen number told

-- a tick, and whether it is kept
pub record Choice : Type 0 where
  pub tick : ResolvedTick
  pub is_kept : Bool

-- it is kept and has an interval above 0, so that intervals are added up from it on
abbrev pub is_counted_from : Choice → Bool
is_counted_from choice = choice.is_kept && nat_lt 0 choice.tick.interval

-- The intervals of the ticks after the last that was kept with an interval above 0, with this one's own, add up to at least the rounded interval.
pub record AddsUp (rounded : ℕ) (before : List Choice) (tick : ResolvedTick) : Type 0 where
  pub early : List Choice
  pub last : Choice
  pub since : List Choice
  pub parts : before ≡ early ++ last ∷ since
  pub is_last : is_counted_from last ≡ true
  pub none_since : AllByRecursion (λ choice. is_counted_from choice ≡ false) since
  pub enough : rounded ≤ sum_by (λ choice. choice.tick.interval) since + tick.interval

-- A tick is to be kept after these: it has interval 0, or none with an interval above 0 was kept yet, or the intervals add up.
abbrev pub IsToBeKept : ℕ → List Choice → ResolvedTick → Type 0
IsToBeKept rounded before tick =
    (tick.interval ≡ 0) ⊎ AllByRecursion (λ choice. is_counted_from choice ≡ false) before ⊎ AddsUp rounded before tick

-- of these ticks, which follow those before, exactly those are kept that are to be kept
abbrev pub AreChosen : ℕ → List Choice → List Choice → Type 0
AreChosen rounded before [] = Unit {0}
AreChosen rounded before (choice ∷ choices) =
    ((choice.is_kept ≡ true) ↔ IsToBeKept rounded before choice.tick) × AreChosen rounded (before ++ choice ∷ []) choices

-- the ticks that are kept
abbrev pub chosen : List Choice → List ResolvedTick
chosen [] = []
chosen (choice ∷ choices) = if choice.is_kept then choice.tick ∷ chosen choices else chosen choices

-- A session keeps the ticks that are to be kept, by its rounded interval.
abbrev pub SubsamplesAddUp : Type 0
SubsamplesAddUp = (rounded : ℕ) (choices : List Choice) → AreChosen rounded [] choices → kept_since rounded None (map (λ choice. choice.tick) choices) ≡ chosen choices

-- whatever the ticks, each of them is to be kept or is not
abbrev pub EachTickIsChosenOrNot : Type 0
EachTickIsChosenOrNot = (rounded : ℕ) (ticks : List ResolvedTick) → (choices : List Choice) × (map (λ choice. choice.tick) choices ≡ ticks) × AreChosen rounded [] choices
