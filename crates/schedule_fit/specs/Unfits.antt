-- The first entry of a schedule that does not fit a program.
use Rattle.std.specs.Prelude.{◌≡◌, ◌≤◌, ℕ, List, [], ◌∷◌, take, Some}
use Rattle.std.specs.List.{slice_get, AllByRecursion}
use Rattle.guest_program.specs.declared.instr.Func.{Func}
use Rattle.isolate.specs.Fits.{MayComeAbout}
use Rattle.run_schedule.specs.declared.schedule.ScheduleEntry.{ScheduleEntry}
use Rattle.schedule_fit.specs.declared.fitting.Unfit.{Unfit}
use Rattle.schedule_fit.specs.declared.fitting.Unfit.TheVariants as unfit

-- the program reaches each of these entries
abbrev pub AllFit : List Func → List ScheduleEntry → Type 0
AllFit funcs entries = AllByRecursion (λ entry. MayComeAbout funcs entry.step entry.what) entries

-- The program reaches each entry before the one with this number, counted from 0, and does not reach that one.
pub record IsFirstUnfit (funcs : List Func) (entries : List ScheduleEntry) (number : ℕ) : Type 0 where
  pub before : AllFit funcs (take number entries)
  pub entry : ScheduleEntry
  pub there : slice_get entries number ≡ Some entry
  pub unfit : ¬ MayComeAbout funcs entry.step entry.what

-- What an answer says that is not Ok. Out of memory, it says nothing.
abbrev pub IsUnfit : List Func → List ScheduleEntry → Unfit → Type 0
IsUnfit funcs entries (unfit.At number) = IsFirstUnfit funcs entries number
IsUnfit funcs entries unfit.Memory = Unit {0}

-- no entry is at an earlier step than the one before it, and the first is not before this step
abbrev pub Rise : ℕ → List ScheduleEntry → Type 0
Rise step [] = Unit {0}
Rise step (entry ∷ entries) = (step ≤ entry.step) × Rise entry.step entries
