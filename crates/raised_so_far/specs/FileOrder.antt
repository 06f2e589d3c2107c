-- The files of what a run has raised, in the order in which their sessions end.
use Rattle.std.specs.Prelude.{◌≡◌, ℕ, List, [], ◌∷◌, ◌++◌, false}
use Rattle.std.specs.List.{AllByRecursion}
use Rattle.guest_program.specs.declared.instr.Func.{Func}
use Rattle.code_event.specs.ItemFile.{item_files}
use Rattle.code_event.specs.declared.event.CodeEvent.{CodeEvent}
use Rattle.code_event.specs.declared.event.CodeEvent.TheVariants.{Stop, Finish}
use Rattle.code_event.specs.declared.tick.Item.{Item}
use Rattle.code_event.specs.declared.tick.Item.TheVariants as item
use Rattle.run_schedule.specs.ScheduleParts.{ScheduleParts}
use Rattle.run_schedule.specs.declared.schedule.EndCause.TheVariants as cause
use Rattle.run_schedule.specs.declared.schedule.ScheduleEntry.{ScheduleEntry}
use Rattle.run_schedule.specs.declared.schedule.What.TheVariants as what
use Rattle.isolate.specs.PlainFile.{plain_files}
use Rattle.raised_so_far.specs.Raised.{EndsFor, IsRaised, IsWhole}

-- the event leaves no file: it is not a stop, and if it is a finish, it is one without files
abbrev pub LeavesNoFile : CodeEvent → Type 0
LeavesNoFile (Stop session time) = ⊥
LeavesNoFile (Finish time files) = files ≡ false
LeavesNoFile other = Unit {0}

-- the item leaves no file
abbrev pub ItemLeavesNoFile : Item → Type 0
ItemLeavesNoFile (item.Event e) = LeavesNoFile e.event
ItemLeavesNoFile (item.Tick t) = Unit {0}

-- the files of what was raised so far are those of the entries so far
abbrev pub FilesSoFarAreThePlainOnes : Type 0
FilesSoFarAreThePlainOnes =
    (funcs : List Func) (schedule : ScheduleParts) (step : ℕ) (raised : List Item)
    → IsRaised funcs schedule.base schedule.entries step raised → item_files schedule.base raised ≡ plain_files funcs schedule

-- the files of a whole run are those of its schedule, unless it ended out of memory
abbrev pub WholeRunsHaveThePlainFiles : Type 0
WholeRunsHaveThePlainFiles =
    (funcs : List Func) (schedule : ScheduleParts) (raised : List Item)
    → IsWhole funcs schedule raised → ¬ EndsFor cause.Memory schedule.entries → item_files schedule.base raised ≡ plain_files funcs schedule

-- where it ended out of memory, they are those of its schedule too, as long as what was raised last leaves no file
abbrev pub ShortTurnsAddNoFiles : Type 0
ShortTurnsAddNoFiles =
    (funcs : List Func) (schedule : ScheduleParts) (entries : List ScheduleEntry) (step time : ℕ) (raised more : List Item)
    → IsRaised funcs schedule.base entries step raised → schedule.entries ≡ entries ++ record { step = step; time = time; what = what.End cause.Memory } ∷ []
    → AllByRecursion ItemLeavesNoFile more
    → item_files schedule.base (raised ++ more) ≡ plain_files funcs schedule
