-- The calls of the step clock, one after another.
use Rattle.std.proofs.Common.{◌≡◌, ℕ, List}
use Rattle.std.specs.Prelude.{Bool, true, not, ◌&&◌, ◌==◌, Option, Some, None, if◌then◌else◌}
use Rattle.code_event.specs.declared.event.Options.{Options}
use Rattle.code_event.specs.declared.event.Command.{Command}
use Rattle.code_event.specs.declared.event.Command.TheVariants as command
use Rattle.isolate_acts.specs.Calls.{Call, commanded, answered, asked, read, told}
use Rattle.port_calls.proofs.Answering.{EachCall, each_call}
use Rattle.step_clock.specs.ClockCalls.{AreByClock, as_answered, begun_after}
use Rattle.step_clock.specs.StepClock.{is_asked}

-- what a call returned, where the recording has begun before it or not
abbrev pub IsByClock : Options → Bool → Call → Type 0
IsByClock recording begun (commanded port step given) = given ≡ (if port == 0 && not begun then Some (command.Start recording) else None)
IsByClock recording begun (answered port answer place is_taken) = is_taken ≡ true
IsByClock recording begun (asked step result) = result ≡ is_asked recording.interval step
IsByClock recording begun (read step now) = now ≡ step
IsByClock recording begun (told interval) = Unit {0}

-- what each of these calls returned
abbrev pub EachByClock : Options → Bool → List Call → Type 0
EachByClock recording begun calls = EachCall (IsByClock recording) begun_after begun calls

is_by_clock : (recording : Options) (begun : Bool) (call : Call) → call ≡ as_answered recording begun call → IsByClock recording begun call
is_by_clock recording begun (commanded port step given) same = same_given port step given (if port == 0 && not begun then Some (command.Start recording) else None) same where
  same_given : (port step : ℕ) (a b : Option Command) → commanded port step a ≡ commanded port step b → a ≡ b
  same_given port step a b same = cc
is_by_clock recording begun (answered port answer place is_taken) same = cc
is_by_clock recording begun (asked step result) same = same_asked step result (is_asked recording.interval step) same where
  same_asked : (step : ℕ) (a b : Bool) → asked step a ≡ asked step b → a ≡ b
  same_asked step a b same = cc
is_by_clock recording begun (read step now) same = cc
is_by_clock recording begun (told interval) same = tt

-- each of them is as the clock answers it
pub each_by_clock : (recording : Options) (begun : Bool) (calls : List Call) → AreByClock recording begun calls → EachByClock recording begun calls
each_by_clock recording begun calls same = each_call (as_answered recording) begun_after (IsByClock recording) (is_by_clock recording) begun calls same
