-- What is kept through the turns of an isolate and the samples between them.
use Rattle.std.specs.Prelude.{◌≡◌, ◌⊎◌, ℕ, List, [], ◌∷◌, ◌++◌, Bool, true, false, None}
use Rattle.guest_program.specs.declared.instr.Func.{Func}
use Rattle.code_event.specs.declared.event.CodeEvent.{CodeEvent}
use Rattle.code_event.specs.declared.tick.Item.{Item}
use Rattle.isolate_acts.specs.Acts.{numbered, raised_on}
use Rattle.isolate_acts.specs.FitsSoFar.{FitsSoFar}
use Rattle.isolate_acts.specs.Phases.{HasRoom, first_phase}
use Rattle.isolate_acts.specs.Progress.{Moment, Progress, IsWithin, some_runs}
use Rattle.isolate_acts.specs.Sampling.{after_sample, raised_by_sample}
use Rattle.isolate_acts.specs.ScheduleSoFar.{EachDropsLate, IsLateDrop, KeepsRules}
use Rattle.isolate_acts.specs.Stands.{IsMoment, StandsFor}
use Rattle.isolate_ends.specs.Runs.{Whole, Goes}
use Rattle.isolate_ends.specs.declared.turn.IsoTurn.{IsoTurn}
use Rattle.isolate_guest.specs.Guest.{OpensAt}

-- All that holds of an isolate of this program that has raised these items, with its guest at this moment: its stack is the plain machine's, its numbers are in their ranges, it stands for the items, and the program reaches each entry.
pub record IsKept (funcs : List Func) (moment : Moment) (progress : Progress) (raised : List Item) : Type 0 where
  pub shows : IsMoment moment
  pub within : IsWithin progress
  pub stands : StandsFor funcs moment progress raised
  pub fits : FitsSoFar funcs moment progress (first_phase progress)

-- an isolate that opens has raised the one event of its opening
abbrev pub OpeningsAreKept : Type 0
OpeningsAreKept =
    (funcs : List Func) (moment : Moment) (progress : Progress) (event : CodeEvent) → OpensAt funcs event moment → IsWithin progress
    → progress.schedule.entries ≡ [] → progress.step ≡ 0 → progress.events ≡ 1 → progress.ticks ≡ 0 → progress.ending ≡ None
    → IsKept funcs moment progress (numbered 0 0 (event ∷ []))

-- A sample was taken between turns, while the isolate goes on.
pub record IsSampled (before after : Whole) (now : ℕ) (is_in : Bool) : Type 0 where
  pub going : before.progress.ending ≡ None
  pub once : before.progress.is_sampled ≡ false
  pub session : some_runs before.progress ≡ true
  pub room : HasRoom before.progress
  pub moment : after.moment ≡ before.moment
  pub progress : after.progress ≡ after_sample before.progress now is_in

-- A turn was done.
pub record IsTurn (before after : Whole) : Type 0 where
  pub answer : IsoTurn
  pub goes : Goes before after (first_phase before.progress) answer

-- Items were taken out of the queues, or the ports were used otherwise: the guest and the progress are as before.
pub record IsLeft (before after : Whole) : Type 0 where
  pub moment : after.moment ≡ before.moment
  pub progress : after.progress ≡ before.progress

-- What may come next of an isolate, with the items that it raises: a turn, a sample, or nothing of its own.
abbrev pub Follows : Whole → Whole → List Item → Type 0
Follows before after more =
    ((turn : IsTurn before after) × (more ≡ raised_on before.moment before.progress turn.goes.runs.acts))
    ⊎ ((now : ℕ) × (is_in : Bool) × IsSampled before after now is_in × (more ≡ raised_by_sample before.moment before.progress now is_in))
    ⊎ (IsLeft before after × (more ≡ []))

-- each of these follows the one before it, and has raised these items
abbrev pub EachFollows : Whole → List (Whole × List Item) → Type 0
EachFollows before [] = Unit {0}
EachFollows before (next ∷ rest) = Follows before next.0 next.1 × EachFollows next.0 rest

-- the last of them
abbrev pub last_of : Whole → List (Whole × List Item) → Whole
last_of before [] = before
last_of before (next ∷ rest) = last_of next.0 rest

-- all that they have raised, in order
abbrev pub all_raised : List (Whole × List Item) → List Item
all_raised [] = []
all_raised (next ∷ rest) = next.1 ++ all_raised rest

-- whatever turns, samples and takings follow one another, all of this is kept: the isolate stands for what it stood for, and all that it raises after it
abbrev pub HistoriesAreKept : Type 0
HistoriesAreKept =
    (funcs : List Func) (before : Whole) (history : List (Whole × List Item)) (raised : List Item)
    → IsKept funcs before.moment before.progress raised → EachFollows before history
    → IsKept funcs (last_of before history).moment (last_of before history).progress (raised ++ all_raised history)

-- What may come next where samples are dropped only after as many were taken as the ring has places.
abbrev pub FollowsLate : Whole → Whole → Type 0
FollowsLate before after =
    ((turn : IsTurn before after) × EachDropsLate before.moment before.progress turn.goes.runs.acts)
    ⊎ ((now : ℕ) × (is_in : Bool) × IsSampled before after now is_in × IsLateDrop before.progress is_in)
    ⊎ IsLeft before after

-- each of these follows the one before it so
abbrev pub EachFollowsLate : Whole → List Whole → Type 0
EachFollowsLate before [] = Unit {0}
EachFollowsLate before (next ∷ rest) = FollowsLate before next × EachFollowsLate next rest

-- the last of them
abbrev pub last_whole : Whole → List Whole → Whole
last_whole before [] = before
last_whole before (next ∷ rest) = last_whole next rest

-- the schedule keeps its rules through all of them
abbrev pub RulesAreKept : Type 0
RulesAreKept =
    (before : Whole) (history : List Whole) → KeepsRules before.progress (first_phase before.progress) → EachFollowsLate before history
    → KeepsRules (last_whole before history).progress (first_phase (last_whole before history).progress)
