-- What ports answer to an isolate that is to do what a schedule says: each entry is for its commands, its samples and its time, and is used up when its time is read.
use Rattle.std.specs.Prelude.{ℕ, List, [], ◌∷◌, map, Bool, true, false, ◌==◌, ◌&&◌, Option, Some, None, if◌then◌else◌}
use Rattle.code_event.specs.declared.event.Answer.{Answer}
use Rattle.code_event.specs.declared.event.Answer.TheVariants as answer
use Rattle.code_event.specs.declared.event.Command.{Command}
use Rattle.code_event.specs.declared.event.Command.TheVariants as command
use Rattle.run_schedule.specs.Schedule.{is_sample}
use Rattle.run_schedule.specs.ScheduleParts.{ScheduleParts}
use Rattle.run_schedule.specs.declared.schedule.ScheduleEntry.{ScheduleEntry}
use Rattle.run_schedule.specs.declared.schedule.What.{What}
use Rattle.run_schedule.specs.declared.schedule.What.TheVariants.{Start, Stop}
use Rattle.isolate_acts.specs.Calls.{Call, commanded, answered, asked, read, told}
use Rattle.isolate_ends.specs.Runs.{is_dropped}
use Rattle.port_calls.specs.Answering.{AreAnswered, state_on}
use Rattle.port_calls.specs.PortCalls.{call_of}
use Rattle.port_calls.specs.declared.calls.PortCall.{PortCall}

-- the entry that comes next, where any is left
abbrev pub next_of : List ScheduleEntry → Option ScheduleEntry
next_of [] = None
next_of (entry ∷ left) = Some entry

-- the entries after it
abbrev pub without_next : List ScheduleEntry → List ScheduleEntry
without_next [] = []
without_next (entry ∷ left) = left

-- the command of a start or a stop, for the port that gave it
abbrev pub command_of : ℕ → What → Option Command
command_of port (Start options) = if options.port == port then Some (command.Start options) else None
command_of port (Stop from number) = if from == port then Some (command.Stop number) else None
command_of port other = None

-- the command that a port gives after this many steps, where this entry comes next
abbrev pub command_at : ℕ → ℕ → Option ScheduleEntry → Option Command
command_at port step None = None
command_at port step (Some entry) = if entry.step == step then command_of port entry.what else None

-- whether a sample is asked for after this many steps, where this entry comes next
abbrev pub is_asked_at : ℕ → Option ScheduleEntry → Bool
is_asked_at step None = false
is_asked_at step (Some entry) = entry.step == step && is_sample entry.what

-- the time, where this entry comes next
abbrev pub time_next : Option ScheduleEntry → ℕ
time_next None = 0
time_next (Some entry) = entry.time

-- whether an answer says that the isolate has ended
abbrev pub is_ended : Answer → Bool
is_ended answer.Ended = true
is_ended other = false

-- a call with what the ports return to it, where these entries are left
abbrev pub by_schedule : List ScheduleEntry → Call → Call
by_schedule left (commanded port step given) = commanded port step (command_at port step (next_of left))
by_schedule left (answered port answer place is_taken) = answered port answer place true
by_schedule left (asked step result) = asked step (is_asked_at step (next_of left))
by_schedule left (read step now) = read step (time_next (next_of left))
by_schedule left (told interval) = told interval

-- the entries that are left after a call: each reading of the clock uses one up, and after the isolate has ended none is left
abbrev pub left_after : List ScheduleEntry → Call → List ScheduleEntry
left_after left (read step now) = without_next left
left_after left (answered port answer place is_taken) = if is_ended answer then [] else left
left_after left other = left

-- those that are left after these calls
abbrev pub left_on : List ScheduleEntry → List Call → List ScheduleEntry
left_on left calls = state_on left_after left calls

-- those that are left of a schedule after the calls of a history
abbrev pub left_of : ScheduleParts → List PortCall → List ScheduleEntry
left_of schedule history = left_on schedule.entries (map call_of history)

-- each of these calls returned what the ports return to it, where these entries were left before them
abbrev pub AreBySchedule : List ScheduleEntry → List Call → Type 0
AreBySchedule left calls = AreAnswered by_schedule left_after left calls

-- whether the sample of this step is dropped: of the entries that are left at this step, the first that is a sample
abbrev pub is_dropped_at : ℕ → List ScheduleEntry → Bool
is_dropped_at step [] = false
is_dropped_at step (entry ∷ left) = entry.step == step && (if is_sample entry.what then is_dropped entry.what else is_dropped_at step left)
