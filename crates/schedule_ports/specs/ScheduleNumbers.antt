-- A schedule as a list of numbers, from which it can be read back.
use Rattle.std.specs.Prelude.{◌≡◌, ℕ, suc, List, [], ◌∷◌, Option, Some, None}
use Rattle.code_event.specs.declared.event.Mode.{Mode}
use Rattle.code_event.specs.declared.event.Mode.TheVariants as mode
use Rattle.run_schedule.specs.ScheduleParts.{ScheduleParts}
use Rattle.run_schedule.specs.declared.schedule.EndCause.{EndCause}
use Rattle.run_schedule.specs.declared.schedule.EndCause.TheVariants as cause
use Rattle.run_schedule.specs.declared.schedule.ScheduleEntry.{ScheduleEntry}
use Rattle.run_schedule.specs.declared.schedule.What.{What}
use Rattle.run_schedule.specs.declared.schedule.What.TheVariants.{Sampled, Dropped, Start, Stop, End}

abbrev pub mode_number : Mode → ℕ
mode_number mode.Leaf = 0
mode_number mode.Caller = 1

-- 0 for none, else one more than the number
abbrev pub option_number : Option ℕ → ℕ
option_number None = 0
option_number (Some number) = suc number

abbrev pub cause_number : EndCause → ℕ
cause_number cause.Halt = 0
cause_number cause.Overflow = 1
cause_number cause.OffEnd = 2
cause_number cause.Budget = 3
cause_number cause.Full = 4
cause_number cause.Memory = 5

-- the numbers of what happened, before those of what happened after it
abbrev pub what_numbers : What → List ℕ → List ℕ
what_numbers Sampled later = 0 ∷ later
what_numbers Dropped later = 1 ∷ later
what_numbers (Start options) later = 2 ∷ options.port ∷ options.interval ∷ mode_number options.mode ∷ option_number options.max_samples ∷ later
what_numbers (Stop port session) later = 3 ∷ port ∷ session.0 ∷ later
what_numbers (End why) later = 4 ∷ cause_number why ∷ later

abbrev pub entry_numbers : List ScheduleEntry → List ℕ
entry_numbers [] = []
entry_numbers (entry ∷ entries) = entry.step ∷ entry.time ∷ what_numbers entry.what (entry_numbers entries)

abbrev pub schedule_numbers : ScheduleParts → List ℕ
schedule_numbers schedule = schedule.base ∷ schedule.ring ∷ schedule.budget ∷ schedule.limit ∷ entry_numbers schedule.entries

-- no two schedules have the same numbers
abbrev pub NumbersTellApart : Type 0
NumbersTellApart = (one other : ScheduleParts) → schedule_numbers one ≡ schedule_numbers other → one ≡ other
