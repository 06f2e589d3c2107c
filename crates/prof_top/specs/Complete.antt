-- That a call does what the words ask for, where nothing outside stands in its way.
use Rattle.std.specs.Prelude.{◌≡◌, ◌⊎◌, ℕ, List, Option}
use Rattle.prof_base.specs.Causes.{Rose}
use Rattle.prof_outer.specs.Files.{FileMap}
use Rattle.run_schedule.specs.ScheduleParts.{ScheduleParts}
use Rattle.prof_top.specs.Causes.{Outside}
use Rattle.prof_top.specs.Ending.{status_of}
use Rattle.prof_top.specs.Product.{Product, Makes}
use Rattle.prof_top.specs.Task.{IsLoaded}
use Rattle.prof_top.specs.declared.load.Task.{Task}

-- no fault of what was handed in was counted, and no abort
pub record HasNoFault (before now : Outside) : Type 0 where
  pub read : ¬ Rose before.read_faults now.read_faults
  pub aborts : ¬ Rose before.aborts now.aborts
  pub stream : ¬ Rose before.stream_faults now.stream_faults
  pub out : ¬ Rose before.out_faults now.out_faults
  pub write : ¬ Rose before.write_faults now.write_faults

-- Memory ran out; or what the words ask for was done, its schedules are returned, and the status is that of the end that is due: of a run, as its schedule ends.
abbrev pub IsComplete : List (List ℕ) → Option FileMap → ℕ → List ScheduleParts → Type 0
IsComplete words held status schedules =
    (status ≡ 6)
    ⊎ ((task : Task) × IsLoaded words held task × (product : Product) × Makes task product × (schedules ≡ product.schedules) × (status ≡ status_of product.due))
