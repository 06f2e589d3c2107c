-- What is kept of a schedule while its text is read.
use Rattle.std.specs.Prelude.{◌≡◌, ℕ, ◌≤◌, List, [], ◌∷◌}
use Rattle.std.specs.List.{AllByRecursion}
use Rattle.run_schedule.specs.declared.limits.TheConstants.{MAX_ENTRIES}
use Rattle.run_schedule.specs.declared.schedule.ScheduleEntry.{ScheduleEntry}
use Rattle.run_schedule.specs.Schedule.{Course, none_yet, course_on, MayStandBehind}
use Rattle.run_schedule.specs.ScheduleParts.{ScheduleParts}
use Rattle.record_text.specs.ScheduleRules.{sampled_in}

-- each entry may stand behind each one before it
abbrev pub AreInOrder : List ScheduleEntry → Type 0
AreInOrder [] = Unit {0}
AreInOrder (entry ∷ entries) = AllByRecursion (λ later. MayStandBehind later entry) entries × AreInOrder entries

-- the number of samples that were taken and the sessions are those of the entries so far, which are in order and are to be few
pub record IsKept (schedule : ScheduleParts) (sampled : ℕ) (sessions : Course) : Type 0 where
  pub few : schedule.limit ≤ MAX_ENTRIES
  pub order : AreInOrder schedule.entries
  pub taken : sampled ≡ sampled_in schedule.entries
  pub course : sessions ≡ course_on none_yet schedule.entries
