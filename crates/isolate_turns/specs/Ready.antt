-- What holds of every isolate between its turns.
use Rattle.std.specs.Prelude.{◌≡◌, ℕ, ◌<◌, List, false, None}
use Rattle.guest_machine.specs.Machine.{IsMachine}
use Rattle.guest_machine.specs.declared.machine.Machine.{Machine}
use Rattle.plain_machine.specs.PlainMachine.{plain}
use Rattle.isolate_acts.specs.Phases.{HasRoom}
use Rattle.isolate_acts.specs.Progress.{Moment, Progress, entry_count}
use Rattle.isolate_guest.specs.Guest.{IsAt}

-- While the isolate goes on: the guest has not ended, its steps are below the budget, and there is room for the end, and for an entry before it where no sample was entered at this step.
pub record IsReady (machine : Machine) (progress : Progress) : Type 0 where
  pub machine_is : IsMachine machine
  pub guest_goes_on : machine.ended ≡ None
  pub budget : progress.step < progress.schedule.budget
  pub place : entry_count progress < progress.schedule.limit
  pub room : progress.is_sampled ≡ false → HasRoom progress

-- the isolate has ended, or is ready to go on
abbrev pub IsIsolate : Machine → Progress → Type 0
IsIsolate machine progress = progress.ending ≡ None → IsReady machine progress

-- The guest is at this moment, while the isolate goes on, and this is what its program has printed. After the end nothing more is said of the guest, which may be spent.
pub record IsNow (machine : Machine) (progress : Progress) (printed : List ℕ) (moment : Moment) : Type 0 where
  pub at : progress.ending ≡ None → IsAt machine moment
  pub printed_is : printed ≡ (plain moment.funcs moment.steps).printed
