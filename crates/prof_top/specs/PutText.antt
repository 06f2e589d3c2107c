-- What a call puts into the depot: a run the text of its schedule.
use Rattle.std.specs.Prelude.{◌≡◌, ◌≢◌, ℕ, List, [], ◌∷◌, Option, codes}
use Rattle.prof_base.specs.Causes.{Rose}
use Rattle.prof_outer.specs.Files.{FileMap}
use Rattle.prof_outer.specs.Puts.{IsPut, AfterFailedPut}
use Rattle.record_text.specs.ScheduleTexts.{schedule_text}
use Rattle.run_schedule.specs.ScheduleParts.{ScheduleParts}

-- the name of the file that has the text of a run's schedule
abbrev pub schedule_name : List ℕ
schedule_name = codes "cpuprof-1.schedule"

-- the text of this schedule was put, by the files and the faults of writes of the depot before and now: the name may have its old bytes, the new ones or no file where a write failed or memory ran out; where the call did all, there was no fault
pub record IsTextPut (schedule : ScheduleParts) (status : ℕ) (held held' : Option FileMap) (faults faults' : ℕ) : Type 0 where
  pub part : AfterFailedPut held schedule_name (schedule_text schedule) held'
  pub whole : ¬ Rose faults faults' → status ≢ 6 → IsPut held schedule_name (schedule_text schedule) held'
  pub done : status ≡ 0 → IsPut held schedule_name (schedule_text schedule) held' × (faults' ≡ faults)

-- what was put in a call that returned these schedules: nothing without one, and else the text of the one that there is
abbrev pub HasPut : List ScheduleParts → ℕ → Option FileMap → Option FileMap → ℕ → ℕ → Type 0
HasPut [] status held held' faults faults' = (held' ≡ held) × (faults' ≡ faults)
HasPut (schedule ∷ schedules) status held held' faults faults' = IsTextPut schedule status held held' faults faults'
