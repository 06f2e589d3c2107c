-- The rules of scripts: they are the rules Order and Session of schedules, of the entries that the lines stand for. They stand here as tests, and the laws of scripts say that the tests are the rules.
use Rattle.std.specs.Prelude.{ℕ, List, map, length, Bool, not, ◌==◌, nat_lt, nat_le, if◌then◌else◌, Option, Some, None}
use Rattle.std.specs.List.{list_any}
use Rattle.prof_lines.specs.declared.fault.Cause.{Cause}
use Rattle.prof_lines.specs.declared.fault.Cause.TheVariants.{Own}
use Rattle.code_event.specs.declared.event.Command.{Command}
use Rattle.code_event.specs.declared.event.Command.TheVariants as command
use Rattle.code_event.specs.declared.event.TheConstants.{MAX_SESSIONS}
use Rattle.run_schedule.specs.declared.schedule.What.{What}
use Rattle.run_schedule.specs.declared.schedule.What.TheVariants as what
use Rattle.run_schedule.specs.declared.schedule.ScheduleEntry.{ScheduleEntry}
use Rattle.run_schedule.specs.Schedule.{Running, running_after}
use Rattle.record_text.specs.declared.rule.Rule.{Rule}
use Rattle.record_text.specs.declared.rule.Rule.TheVariants as rule
use Rattle.record_text.specs.declared.script.ScriptLine.{ScriptLine}

-- what an isolate does at a command of port 0
abbrev pub what_of : Command → What
what_of (command.Start options) = what.Start options
what_of (command.Stop session) = what.Stop 0 session

-- the entry that a line stands for; a script has no times, so all have the same
abbrev pub entry_of : ScriptLine → ScheduleEntry
entry_of line = record { step = line.step; time = 0; what = what_of line.command }

-- the entries that lines stand for
abbrev pub script_entries : List ScriptLine → List ScheduleEntry
script_entries lines = map entry_of lines

-- the sessions that run after these lines
abbrev pub running_after_lines : List ScriptLine → List Running
running_after_lines lines = running_after (script_entries lines)

-- one of these lines has a greater step
abbrev pub is_passed_by : ℕ → List ScriptLine → Bool
is_passed_by step lines = list_any (λ line. nat_lt step line.step) lines

-- the session with this number runs
abbrev pub is_running : List Running → ℕ → Bool
is_running running session = list_any (λ one. one.session == session) running

-- the rule Session, while these run: at most 100 run at once, and a session is stopped while it runs
abbrev pub breaks_session : List Running → Command → Bool
breaks_session running (command.Start options) = nat_le MAX_SESSIONS (length running)
breaks_session running (command.Stop session) = not (is_running running session.0)

-- the first rule that a line breaks after these: Order and Session, in this order
abbrev pub script_fault : List ScriptLine → ScriptLine → Option (Cause Rule)
script_fault before line =
    if is_passed_by line.step before then Some (Own rule.Order)
    else if breaks_session (running_after_lines before) line.command then Some (Own rule.Session)
    else None
