-- An isolate with its ports and its queues, and what an act and a run of acts make of it.
use Rattle.std.specs.Prelude.{◌≡◌, ℕ, suc, ◌<◌, ◌+◌, List, ◌++◌, count_by, Bool, true, false, Option, Some, None}
use Rattle.prof_base.specs.Causes.{Rose}
use Rattle.run_schedule.specs.declared.schedule.EndCause.{EndCause}
use Rattle.run_schedule.specs.declared.schedule.ScheduleEntry.{ScheduleEntry}
use Rattle.run_schedule.specs.declared.schedule.What.{What}
use Rattle.run_schedule.specs.declared.schedule.What.TheVariants.{Dropped}
use Rattle.pipe_core.specs.Observed.{IsObserved}
use Rattle.isolate_acts.specs.Acts.{Act, act_after, act_calls, act_raises, calls_on, moment_after, moment_on, progress_on, raised_on}
use Rattle.isolate_acts.specs.Calls.{Call, with_calls}
use Rattle.isolate_acts.specs.Phases.{Phase, IsOver, LeadTo, MayAct, after_command, at_port, most_commands, unless_ended}
use Rattle.isolate_acts.specs.Progress.{Moment, Progress, entry_count}
use Rattle.isolate_ends.specs.Queues.{Shown, HaveMore}
use Rattle.isolate_ends.specs.declared.turn.IsoTurn.{IsoTurn}
use Rattle.isolate_ends.specs.declared.turn.IsoTurn.TheVariants as turn

-- All that is said of an isolate: the moment of its guest, how far it is, the calls at its ports where they can be observed, and what its queues show.
pub record Whole : Type 0 where
  pub moment : Moment
  pub progress : Progress
  pub calls : Option (List Call)
  pub queues : Shown

-- all of it
abbrev pub whole : Moment → Progress → Option (List Call) → Shown → Whole
whole moment progress calls queues = record { moment = moment; progress = progress; calls = calls; queues = queues }

-- an act was done
pub record Does (before after : Whole) (act : Act) : Type 0 where
  pub moment : after.moment ≡ moment_after before.moment act
  pub progress : after.progress ≡ act_after before.moment before.progress act
  pub calls : after.calls ≡ with_calls before.calls (act_calls before.moment before.progress act)
  pub queues : HaveMore before.queues after.queues (act_raises before.moment before.progress act)

-- a run of acts was done, each where it may come, from one phase of a turn to another
pub record Runs (before after : Whole) (phase last : Phase) : Type 0 where
  pub acts : List Act
  pub follow : LeadTo before.moment before.progress phase acts last
  pub moment : after.moment ≡ moment_on before.moment acts
  pub progress : after.progress ≡ progress_on before.moment before.progress acts
  pub calls : after.calls ≡ with_calls before.calls (calls_on before.moment before.progress acts)
  pub queues : HaveMore before.queues after.queues (raised_on before.moment before.progress acts)

-- what a turn answers: whether the isolate has ended, and why
abbrev pub Answers : IsoTurn → Option EndCause → Type 0
Answers turn.Ran ending = ending ≡ None
Answers (turn.Ended cause) ending = ending ≡ Some cause

-- a turn, or the rest of one from this phase, is a run of acts to where the turn is over, and this is its answer
pub record Goes (before after : Whole) (phase : Phase) (answer : IsoTurn) : Type 0 where
  pub last : Phase
  pub runs : Runs before after phase last
  pub over : IsOver after.moment after.progress last
  pub answer_is : Answers answer after.progress.ending

abbrev pub is_dropped : What → Bool
is_dropped Dropped = true
is_dropped other = false

-- Entries were added, and this many samples were dropped among them.
pub record Adds (before after : List ScheduleEntry) (dropped : ℕ) : Type 0 where
  pub more : List ScheduleEntry
  pub added : after ≡ before ++ more
  pub dropped_are : count_by (λ entry. is_dropped entry.what) more ≡ dropped

-- Samples were dropped only where the count of full slots rose. Where what was put in can be observed, that counts just the samples that were dropped.
pub record DropsWhereFull {A : Type 0} (passed : Option A) (fulls fulls_after : ℕ) (before after : List ScheduleEntry) : Type 0 where
  pub dropped : ℕ
  pub adds : Adds before after dropped
  pub rose : 0 < dropped → Rose fulls fulls_after
  pub counted : IsObserved passed → fulls_after ≡ fulls + dropped

-- A command of this port was obeyed, after any number of commands below the most that a turn takes, and its answer was taken or not.
pub record Obeys (before after : Whole) (port : ℕ) (is_taken : Bool) : Type 0 where
  pub act : Act
  pub may : (commands : ℕ) → commands < most_commands → MayAct before.moment before.progress (at_port port commands) act (unless_ended after.progress is_taken (after_command after.progress port (suc commands)))
  pub does : Does before after act

-- What commands leave: the step, the limits, and whether a sample was entered at this step. Where the isolate goes on after them, it did before, and there is a place for the end.
pub record Stays (before after : Progress) : Type 0 where
  pub step : after.step ≡ before.step
  pub budget : after.schedule.budget ≡ before.schedule.budget
  pub limit : after.schedule.limit ≡ before.schedule.limit
  pub is_sampled : after.is_sampled ≡ before.is_sampled
  pub going : after.ending ≡ None → before.ending ≡ None
  pub place : after.ending ≡ None → entry_count after < after.schedule.limit
  pub adds : Adds before.schedule.entries after.schedule.entries 0
