-- How far a machine has run that runs alone.
use Rattle.std.specs.Prelude.{◌≡◌, ◌<◌, ◌≤◌, ◌-◌, ℕ, List, true, Option, Some, None, is_some}
use Rattle.code_event.specs.declared.event.CodeEvent.{CodeEvent}
use Rattle.guest_machine.specs.Machine.{IsMachine, Reflects, program_of}
use Rattle.guest_machine.specs.declared.machine.Machine.{Machine}
use Rattle.isolate.specs.Fits.{IsGoing}
use Rattle.plain_machine.specs.declared.ended.Ended.{Ended}
use Rattle.plain_machine.specs.declared.ended.Ended.TheVariants as ended
use Rattle.run_schedule.specs.declared.schedule.EndCause.TheVariants as cause
use Rattle.run_schedule.specs.declared.schedule.What.{What}
use Rattle.run_schedule.specs.declared.schedule.What.TheVariants.{End}

-- The machine is as the plain machine after as many steps as it has counted, and had not ended before the last of them.
pub record Runs (machine : Machine) : Type 0 where
  pub whole : IsMachine machine
  pub events : List CodeEvent
  pub reflects : Reflects machine machine.steps events
  pub going : IsGoing (program_of machine) (machine.steps - 1)

-- The machine is at this step, or has ended before it.
pub record HasReached (machine : Machine) (step : ℕ) : Type 0 where
  pub up_to : machine.steps ≤ step
  pub there : machine.steps < step → is_some machine.ended ≡ true

-- how the program has ended where this happens, or none where it has not ended
abbrev pub end_wanted : What → Option Ended
end_wanted (End cause.Halt) = Some ended.Halt
end_wanted (End cause.Overflow) = Some ended.Overflow
end_wanted (End cause.OffEnd) = Some ended.OffEnd
end_wanted other = None
