-- Each act keeps what the isolate stands for, and what comes with the end.
use Rattle.std.specs.Prelude.{◌≡◌, List, [], ◌++◌, Some, None}
use Rattle.guest_program.specs.declared.instr.Func.{Func}
use Rattle.code_event.specs.ItemFile.{item_files}
use Rattle.code_event.specs.declared.tick.Item.{Item}
use Rattle.run_schedule.specs.declared.schedule.EndCause.TheVariants as cause
use Rattle.isolate_acts.specs.Acts.{Act, act_after, act_raises, moment_after, moment_on, progress_on, raised_on}
use Rattle.isolate_acts.specs.Phases.{Phase, MayAct, LeadTo, IsAfterEnd, first_phase}
use Rattle.isolate_acts.specs.Progress.{Moment, Progress, IsWithin}
use Rattle.isolate_acts.specs.Stands.{IsMoment, StandsFor}

-- where the isolate stands for a list, it stands after an act that may come for that list and what the act raises
abbrev pub ActsAreStoodFor : Type 0
ActsAreStoodFor =
    (funcs : List Func) (moment : Moment) (p : Progress) (phase next : Phase) (act : Act) (raised : List Item)
    → StandsFor funcs moment p raised → IsMoment moment → IsWithin p → MayAct moment p phase act next
    → StandsFor funcs (moment_after moment act) (act_after moment p act) (raised ++ act_raises moment p act)

-- so it does after a run of acts, for that list and what they raise, and the numbers stay in their ranges
abbrev pub RunsAreStoodFor : Type 0
RunsAreStoodFor =
    (funcs : List Func) (moment : Moment) (p : Progress) (phase last : Phase) (acts : List Act) (raised : List Item)
    → StandsFor funcs moment p raised → IsMoment moment → IsWithin p → LeadTo moment p phase acts last
    → StandsFor funcs (moment_on moment acts) (progress_on moment p acts) (raised ++ raised_on moment p acts) × IsWithin (progress_on moment p acts)

-- an end out of memory adds no file: the sessions that still run have none
abbrev pub EndsOutOfMemoryAddNoFile : Type 0
EndsOutOfMemoryAddNoFile =
    (funcs : List Func) (moment : Moment) (p : Progress) (phase next : Phase) (act : Act) (raised : List Item)
    → StandsFor funcs moment p raised → MayAct moment p phase act next → (act_after moment p act).ending ≡ Some cause.Memory
    → item_files p.schedule.base (raised ++ act_raises moment p act) ≡ item_files p.schedule.base raised

-- after the end nothing is entered, and nothing is raised
abbrev pub NothingFollowsTheEnd : Type 0
NothingFollowsTheEnd =
    (moment : Moment) (p : Progress) (phase next : Phase) (act : Act) → ¬ (p.ending ≡ None) → MayAct moment p phase act next
    → (act_raises moment p act ≡ []) × (act_after moment p act ≡ p)

-- once the isolate has ended, a turn is at a port or is over: it only takes commands
abbrev pub OnlyCommandsFollowTheEnd : Type 0
OnlyCommandsFollowTheEnd =
    (moment : Moment) (p : Progress) (last : Phase) (acts : List Act) → LeadTo moment p (first_phase p) acts last → ¬ ((progress_on moment p acts).ending ≡ None) → IsAfterEnd last
