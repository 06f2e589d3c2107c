-- The rules of schedules as tests, and the first of them that an entry breaks. The laws of schedules say that these tests are the rules.
use Rattle.std.specs.Prelude.{ℕ, suc, List, [], ◌∷◌, length, count_by, Bool, true, not, ◌&&◌, ◌||◌, ◌==◌, nat_lt, nat_le, if◌then◌else◌, Option, Some, None}
use Rattle.std.specs.List.{list_all, list_any}
use Rattle.prof_lines.specs.declared.fault.Cause.{Cause}
use Rattle.prof_lines.specs.declared.fault.Cause.TheVariants.{Own}
use Rattle.code_event.specs.declared.event.TheConstants.{MAX_SESSIONS}
use Rattle.run_schedule.specs.declared.schedule.EndCause.{EndCause}
use Rattle.run_schedule.specs.declared.schedule.EndCause.TheVariants as cause
use Rattle.run_schedule.specs.declared.schedule.What.{What}
use Rattle.run_schedule.specs.declared.schedule.What.TheVariants.{Sampled, Dropped, Start, Stop, End}
use Rattle.run_schedule.specs.declared.schedule.ScheduleEntry.{ScheduleEntry}
use Rattle.run_schedule.specs.Schedule.{Running, running_after, is_sample, is_sampled, is_end}
use Rattle.run_schedule.specs.ScheduleParts.{ScheduleParts, port_of}
use Rattle.record_text.specs.declared.rule.Rule.{Rule}
use Rattle.record_text.specs.declared.rule.Rule.TheVariants as rule

-- a command does not come from a smaller port than another one
abbrev pub has_later_port : Option ℕ → Option ℕ → Bool
has_later_port (Some earlier) (Some later) = nat_le earlier later
has_later_port (Some earlier) None = true
has_later_port None port = true

-- one may come after the other at the same step: only an end after a sample, and commands in the order of their ports
abbrev pub may_share_step : What → What → Bool
may_share_step before what = (not (is_sample before) || is_end what) && has_later_port (port_of before) (port_of what)

-- the rule Order, of an entry and one before it
abbrev pub may_stand_behind : ScheduleEntry → ScheduleEntry → Bool
may_stand_behind entry before =
    nat_le before.step entry.step && nat_le before.time entry.time && not (is_end before.what)
    && (not (before.step == entry.step) || may_share_step before.what entry.what)

-- the rule Order, of an entry and all before it
abbrev pub is_in_order : List ScheduleEntry → ScheduleEntry → Bool
is_in_order before entry = list_all (may_stand_behind entry) before

-- the session with this number runs, and was started from this port
abbrev pub is_running : List Running → ℕ → ℕ → Bool
is_running running port session = list_any (λ one. one.session == session && one.port == port) running

-- the rule Session, while these run
abbrev pub has_session : List Running → What → Bool
has_session running Sampled = nat_le 1 (length running)
has_session running Dropped = nat_le 1 (length running)
has_session running (Start options) = nat_lt (length running) MAX_SESSIONS
has_session running (Stop port session) = is_running running port session.0
has_session running (End cause) = true

-- how many samples were taken
abbrev pub sampled_in : List ScheduleEntry → ℕ
sampled_in entries = count_by (λ entry. is_sampled entry.what) entries

-- the rule Limit of an entry that is not an end, and comes after those of the schedule so far
abbrev pub leaves_room : ScheduleParts → ℕ → Bool
leaves_room schedule step = nat_lt (suc (length schedule.entries)) schedule.limit && nat_lt step schedule.budget

-- the last entry, if any, is at this step
abbrev pub is_at_last_step : List ScheduleEntry → ℕ → Bool
is_at_last_step [] step = true
is_at_last_step (entry ∷ []) step = entry.step == step
is_at_last_step (entry ∷ next ∷ entries) step = is_at_last_step (next ∷ entries) step

-- the rule Limit of an end
abbrev pub is_end_within : ScheduleParts → ℕ → EndCause → Bool
is_end_within schedule step cause.Full = suc (length schedule.entries) == schedule.limit && is_at_last_step schedule.entries step && nat_le step schedule.budget
is_end_within schedule step cause.Budget = nat_lt (suc (length schedule.entries)) schedule.limit && step == schedule.budget
is_end_within schedule step other = nat_lt (suc (length schedule.entries)) schedule.limit && nat_le step schedule.budget

-- the rule Limit of what happens next at this step
abbrev pub is_within_limits : ScheduleParts → ℕ → What → Bool
is_within_limits schedule step Dropped = leaves_room schedule step && nat_le schedule.ring (sampled_in schedule.entries)
is_within_limits schedule step (End cause) = is_end_within schedule step cause
is_within_limits schedule step other = leaves_room schedule step

-- the first rule that an entry breaks after those of the schedule so far: Order, Session and Limit, in this order
abbrev pub entry_fault : ScheduleParts → ScheduleEntry → Option (Cause Rule)
entry_fault schedule entry =
    if not (is_in_order schedule.entries entry) then Some (Own rule.Order)
    else if not (has_session (running_after schedule.entries) entry.what) then Some (Own rule.Session)
    else if not (is_within_limits schedule entry.step entry.what) then Some (Own rule.Limit)
    else None
