-- The calls of ports, as an isolate sees them.
use Rattle.isolate_acts.specs.Calls.{Call, commanded, answered, asked, read, told}
use Rattle.port_calls.specs.declared.calls.PortCall.{PortCall}
use Rattle.port_calls.specs.declared.calls.PortCall.TheVariants as made

-- a call that was made, with what it returned
abbrev pub call_of : PortCall → Call
call_of (made.Commanded port step given) = commanded port step given
call_of (made.Answered port answer place is_taken) = answered port answer place is_taken
call_of (made.Asked step result) = asked step result
call_of (made.Read step now) = read step now
call_of (made.Told interval) = told interval
