-- What a call says of its end on `err`.
use Rattle.std.specs.Prelude.{◌≡◌, ℕ, List, Option}
use Rattle.prof_outer.specs.Files.{FileMap}
use Rattle.run_schedule.specs.ScheduleParts.{ScheduleParts}
use Rattle.prof_top.specs.Asked.{AsksFor, AsksForKind, HoldsFault, HoldsProgramFault, guest_program, item_list}
use Rattle.prof_top.specs.Ending.{status_of, line_of, due_of}
use Rattle.prof_top.specs.RunSchedule.{IsRunSchedule}
use Rattle.prof_top.specs.Task.{OfRun}
use Rattle.prof_top.specs.Written.{IsWritten}
use Rattle.prof_top.specs.declared.ending.Ending.{Ending}
use Rattle.prof_top.specs.declared.ending.Ending.TheVariants.{ProgramRefused, ItemsRefused, Missing, CannotRead, Trapped, BudgetSpent, ScheduleFull}

-- the run that the words ask for may have a schedule by which it is due to end in this way
abbrev pub EndsSo : List (List ℕ) → Option FileMap → Ending → Type 0
EndsSo words held ending =
    OfRun words held (λ funcs options. (schedule : ScheduleParts) × IsRunSchedule funcs options schedule × (due_of schedule.entries ≡ ending))

-- an end that names a text names one that the words ask for; a text that is refused has its first fault at that line, with that cause; a trap, a spent budget and a full schedule are ends of the run that the words ask for
abbrev pub IsNamed : List (List ℕ) → Option FileMap → Ending → Type 0
IsNamed words held (ProgramRefused name line cause) = AsksForKind words guest_program (λ text. (text.name ≡ name) × HoldsProgramFault held text.name line cause)
IsNamed words held (ItemsRefused line cause) = AsksForKind words item_list (λ text. HoldsFault held text.name line cause)
IsNamed words held (Missing name) = AsksFor words (λ text. text.name ≡ name)
IsNamed words held (CannotRead name) = AsksFor words (λ text. text.name ≡ name)
IsNamed words held (Trapped trap step) = EndsSo words held (Trapped trap step)
IsNamed words held (BudgetSpent steps) = EndsSo words held (BudgetSpent steps)
IsNamed words held ScheduleFull = EndsSo words held ScheduleFull
IsNamed words held other = Unit {0}

-- the line of error of a call that ended with this status: no bytes for status 0
pub record IsSaid (words : List (List ℕ)) (held : Option FileMap) (status : ℕ) (before now : Option (List ℕ)) (faults faults' : ℕ) : Type 0 where
  pub ending : Ending
  pub status_is : status_of ending ≡ status
  pub named : IsNamed words held ending
  pub written : IsWritten (line_of ending) status before now faults faults'
