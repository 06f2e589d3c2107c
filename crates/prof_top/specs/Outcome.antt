-- How a call turned out: what was asked for was done, and what came of it is handed out; or nothing was done, and nothing came out; or memory ran out in a run.
use Rattle.std.specs.Prelude.{◌≡◌, ◌⊎◌, ℕ, List, [], Option, IfSome}
use Rattle.prof_outer.specs.Files.{FileMap}
use Rattle.run_schedule.specs.ScheduleParts.{ScheduleParts}
use Rattle.prof_top.specs.Command.{AsksToRun}
use Rattle.prof_top.specs.HandedOut.{Outlets, IsHandedOut, IsEndedSo}
use Rattle.prof_top.specs.Product.{Product, Makes}
use Rattle.prof_top.specs.Task.{IsLoaded}
use Rattle.prof_top.specs.declared.load.Task.{Task}
use Rattle.prof_top.specs.declared.load.Task.TheVariants as task

-- the statuses of a call that did what was asked for, where it did not end out of memory
abbrev pub IsAfterWork : ℕ → Type 0
IsAfterWork status = (status ≡ 0) ⊎ ((status ≡ 5) ⊎ ((status ≡ 7) ⊎ ((status ≡ 8) ⊎ ((status ≡ 13) ⊎ (status ≡ 14)))))

-- the statuses of a call that did nothing, where it did not end out of memory
abbrev pub IsBeforeWork : ℕ → Type 0
IsBeforeWork status = (status ≡ 1) ⊎ ((status ≡ 2) ⊎ ((status ≡ 3) ⊎ ((status ≡ 4) ⊎ (status ≡ 10))))

-- it was done, and what came of it is handed out
pub record IsDone (task : Task) (status : ℕ) (schedules : List ScheduleParts) (before now : Outlets) : Type 0 where
  pub product : Product
  pub makes : Makes task product
  pub schedules_are : schedules ≡ product.schedules
  pub handed : IsHandedOut product.files product.text status before now
  pub ended : IsEndedSo product.due status before now

-- nothing has come out
pub record IsIdle (schedules : List ScheduleParts) (before now : Outlets) : Type 0 where
  pub none : schedules ≡ []
  pub parts : now.parts ≡ before.parts
  pub written : now.written ≡ before.written

-- memory ran out in a run: no file was delivered, and nothing was printed; where the stream's last part was unfinished before, nothing is said of its parts
pub record IsCut (schedules : List ScheduleParts) (before now : Outlets) : Type 0 where
  pub none : schedules ≡ []
  pub parts : IfSome before.parts (λ parts. parts.1 ≡ []) → now.parts ≡ before.parts
  pub written : now.written ≡ before.written

-- memory ran out in the midst of this, which no fold does
abbrev pub IsCutShort : Task → List ScheduleParts → Outlets → Outlets → Type 0
IsCutShort (task.Run funcs options) schedules before now = IsCut schedules before now
IsCutShort (task.Fold list) schedules before now = ⊥

-- it was done, or memory ran out before anything came out, or in a run
abbrev pub IsWorked : Task → ℕ → List ScheduleParts → Outlets → Outlets → Type 0
IsWorked task status schedules before now =
    IsDone task status schedules before now
    ⊎ (((status ≡ 6) × IsIdle schedules before now) ⊎ ((status ≡ 6) × IsCutShort task schedules before now))

-- what the words ask for was done, or nothing was done, or memory ran out in the run that they ask for
abbrev pub HasOutcome : List (List ℕ) → Option FileMap → ℕ → List ScheduleParts → Outlets → Outlets → Type 0
HasOutcome words held status schedules before now =
    ((task : Task) × IsLoaded words held task × IsDone task status schedules before now)
    ⊎ ((((status ≡ 6) ⊎ IsBeforeWork status) × IsIdle schedules before now)
    ⊎ ((status ≡ 6) × AsksToRun words × IsCut schedules before now))
