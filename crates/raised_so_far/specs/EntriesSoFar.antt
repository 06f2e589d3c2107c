-- A run so far: what is seen of its schedule's entries and of the steps since the last of them.
use Rattle.std.specs.Prelude.{ℕ, List, [], ◌∷◌, ◌++◌, Bool, false, ◌||◌, ◌==◌}
use Rattle.guest_program.specs.declared.instr.Func.{Func}
use Rattle.code_event.specs.Seen.{Seen}
use Rattle.isolate.specs.PlainFile.{seen_on}
use Rattle.isolate.specs.RunLaws.{given_up_until}
use Rattle.run_schedule.specs.declared.schedule.What.{What}
use Rattle.run_schedule.specs.declared.schedule.What.TheVariants.{Stop}
use Rattle.run_schedule.specs.declared.schedule.ScheduleEntry.{ScheduleEntry}

-- what is seen of the entries so far, and then the deoptimisations since the last of them, up to this step
abbrev pub seen_so_far : List Func → ℕ → List ScheduleEntry → ℕ → List Seen
seen_so_far funcs base entries step = seen_on funcs base entries ++ given_up_until funcs entries step

-- it is a stop of the session with this number
abbrev pub is_stop_of : ℕ → What → Bool
is_stop_of number (Stop port session) = session.0 == number
is_stop_of number other = false

-- one of these entries stops the session with this number
abbrev pub has_stop : ℕ → List ScheduleEntry → Bool
has_stop number [] = false
has_stop number (entry ∷ entries) = is_stop_of number entry.what || has_stop number entries
