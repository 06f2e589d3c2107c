-- What a schedule consists of, and the ranges of its numbers.
use Rattle.std.specs.Prelude.{ℕ, ◌≤◌, List, length, Option, Some, None, IfSome}
use Rattle.std.specs.List.{AllByRecursion}
use Rattle.prof_base.specs.declared.interval.TheConstants.{MAX_INTERVAL}
use Rattle.run_schedule.specs.declared.limits.TheConstants.{MAX_RING, MAX_BUDGET, MIN_ENTRIES, MAX_ENTRIES, MAX_PORT}
use Rattle.run_schedule.specs.declared.schedule.What.{What}
use Rattle.run_schedule.specs.declared.schedule.What.TheVariants.{Start, Stop}
use Rattle.run_schedule.specs.declared.schedule.ScheduleEntry.{ScheduleEntry}

-- the base interval in microseconds, the ring of samples, the budget of steps, the limit of entries, and the entries in order
pub record ScheduleParts : Type 0 where
  pub base : ℕ
  pub ring : ℕ
  pub budget : ℕ
  pub limit : ℕ
  pub entries : List ScheduleEntry

-- the port that a command came from
abbrev pub port_of : What → Option ℕ
port_of (Start options) = Some options.port
port_of (Stop port session) = Some port
port_of other = None

-- the port of a command is one that exists
abbrev pub HasPort : What → Type 0
HasPort what = IfSome (port_of what) (λ port. port ≤ MAX_PORT)

-- its numbers are in the ranges that a text may give them, and the entries are within the limit
pub record IsInRange (schedule : ScheduleParts) : Type 0 where
  pub base_low : 1 ≤ schedule.base
  pub base_high : schedule.base ≤ MAX_INTERVAL
  pub ring_low : 1 ≤ schedule.ring
  pub ring_high : schedule.ring ≤ MAX_RING
  pub budget_low : 1 ≤ schedule.budget
  pub budget_high : schedule.budget ≤ MAX_BUDGET
  pub limit_low : MIN_ENTRIES ≤ schedule.limit
  pub limit_high : schedule.limit ≤ MAX_ENTRIES
  pub room : length schedule.entries ≤ schedule.limit
  pub ports : AllByRecursion (λ entry. HasPort entry.what) schedule.entries
