-- What the ports of the step clock answer to an isolate: port 0 starts one recording when it is first asked for a command, and no other command is given; samples are asked for by the step; and the time is the number of steps.
use Rattle.std.specs.Prelude.{List, Bool, true, false, not, ◌&&◌, ◌||◌, ◌==◌, Some, None, if◌then◌else◌}
use Rattle.code_event.specs.declared.event.Command.TheVariants as command
use Rattle.code_event.specs.declared.event.Options.{Options}
use Rattle.isolate_acts.specs.Calls.{Call, commanded, answered, asked, read, told}
use Rattle.port_calls.specs.Answering.{AreAnswered, state_on}
use Rattle.step_clock.specs.StepClock.{is_asked}

-- the call asks port 0 for a command
abbrev pub asks_port : Call → Bool
asks_port (commanded port step given) = port == 0
asks_port other = false

-- whether the recording has begun after a call, where it had before it or not
abbrev pub begun_after : Bool → Call → Bool
begun_after begun call = begun || asks_port call

-- the recording has begun after these calls, where it had before them or not
abbrev pub begun_on : Bool → List Call → Bool
begun_on begun calls = state_on begun_after begun calls

-- a call with what the clock returns to it, where the recording has begun before it or not
abbrev pub as_answered : Options → Bool → Call → Call
as_answered recording begun (commanded port step given) = commanded port step (if port == 0 && not begun then Some (command.Start recording) else None)
as_answered recording begun (answered port answer place is_taken) = answered port answer place true
as_answered recording begun (asked step result) = asked step (is_asked recording.interval step)
as_answered recording begun (read step now) = read step step
as_answered recording begun (told interval) = told interval

-- each of these calls returned what the clock returns to it
abbrev pub AreByClock : Options → Bool → List Call → Type 0
AreByClock recording begun calls = AreAnswered (as_answered recording) begun_after begun calls
