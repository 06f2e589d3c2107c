-- The rules of an item list's text: what a line may say after those before it.
use Rattle.std.specs.Prelude.{ℕ, suc, ◌+◌, ◌*◌, ◌^◌, List, [], ◌∷◌, ◌++◌, length, Bool, true, false, not, ◌&&◌, ◌||◌, ◌==◌, nat_lt, nat_le, if◌then◌else◌, Option, Some, None}
use Rattle.std.specs.Option.{option_map_or}
use Rattle.std.specs.List.{list_any}
use Rattle.prof_lines.specs.declared.fault.Cause.{Cause}
use Rattle.prof_lines.specs.declared.fault.Cause.TheVariants.{Own}
use Rattle.code_event.specs.declared.event.TheConstants.{MAX_SESSIONS}
use Rattle.code_event.specs.declared.layout.Slot.{Slot}
use Rattle.code_event.specs.declared.layout.Unit.{Unit as CodeUnit}
use Rattle.code_event.specs.declared.layout.TheConstants.{SLOT_SIZE}
use Rattle.code_event.specs.declared.layout.TheConstants.Layout.{MAX_UNITS, MAX_SLOTS, MAX_ABOVE}
use Rattle.code_event.specs.ItemList.{ListSoFar, without}
use Rattle.code_event.specs.Layout.{sites_above}
use Rattle.record_text.specs.declared.rule.Rule.{Rule}
use Rattle.record_text.specs.declared.rule.Rule.TheVariants as rule
use Rattle.item_text.specs.declared.item_line.LineEvent.{LineEvent}
use Rattle.item_text.specs.declared.item_line.LineEvent.TheVariants.{Move, NoOpt, Deopt, Delete, Start, Stop, Finish}
use Rattle.item_text.specs.declared.item_line.ItemLine.{ItemLine}
use Rattle.item_text.specs.declared.item_line.ItemLine.TheVariants as line
use Rattle.item_text.specs.declared.item_line.TextLine.{TextLine}
use Rattle.item_text.specs.declared.item_line.TextLine.TheVariants.{Head, Body}

-- a code object that was begun: its start, and its units and slots so far
pub record BegunCode : Type 0 where
  pub start : ℕ
  pub units : List CodeUnit
  pub slots : List Slot

-- What lines say so far: the latest time, the sessions that were started and those that run, whether there was a finish, and the code object that was begun, if any.
pub record Course : Type 0 where
  pub list : ListSoFar
  pub finished : Bool
  pub begun : Option BegunCode

-- before the first line
abbrev pub no_course : Course
no_course = record { list = record { time = 0; started = []; running = [] }; finished = false; begun = None }

abbrev pub list_after_event : ListSoFar → LineEvent → ListSoFar
list_after_event list (Start session port interval mode max time) = record { time = time; started = session.0 ∷ list.started; running = session.0 ∷ list.running }
list_after_event list (Stop session time) = record { time = time; started = list.started; running = without session.0 list.running }
list_after_event list (Finish time files) = record { time = time; started = list.started; running = list.running }
list_after_event list (Move from to) = list
list_after_event list (NoOpt start reason) = list
list_after_event list (Deopt start reason) = list
list_after_event list (Delete start) = list

-- the latest time and the sessions after a line
abbrev pub list_after : ListSoFar → ItemLine → ListSoFar
list_after list (line.Create start) = list
list_after list (line.Unit u) = list
list_after list (line.Slot slot) = list
list_after list (line.Event event) = list_after_event list event
list_after list (line.Tick tick) = record { time = tick.time; started = list.started; running = list.running }

abbrev pub is_finish_event : LineEvent → Bool
is_finish_event (Move from to) = false
is_finish_event (NoOpt start reason) = false
is_finish_event (Deopt start reason) = false
is_finish_event (Delete start) = false
is_finish_event (Start session port interval mode max time) = false
is_finish_event (Stop session time) = false
is_finish_event (Finish time files) = true

abbrev pub is_finish : ItemLine → Bool
is_finish (line.Create start) = false
is_finish (line.Unit u) = false
is_finish (line.Slot slot) = false
is_finish (line.Event event) = is_finish_event event
is_finish (line.Tick tick) = false

-- the code object that was begun, with one more unit
abbrev pub with_unit : BegunCode → CodeUnit → BegunCode
with_unit code u = record { start = code.start; units = code.units ++ u ∷ []; slots = code.slots }

-- the same with one more slot
abbrev pub with_slot : BegunCode → Slot → BegunCode
with_slot code slot = record { start = code.start; units = code.units; slots = code.slots ++ slot ∷ [] }

-- the code object that was begun after a line; a unit and a slot go on with it, and every other line ends it
abbrev pub begun_after : Option BegunCode → ItemLine → Option BegunCode
begun_after begun (line.Create start) = Some (record { start = start; units = []; slots = [] })
begun_after None (line.Unit u) = None
begun_after (Some code) (line.Unit u) = Some (with_unit code u)
begun_after None (line.Slot slot) = None
begun_after (Some code) (line.Slot slot) = Some (with_slot code slot)
begun_after begun (line.Event event) = None
begun_after begun (line.Tick tick) = None

-- what lines say with one more
abbrev pub item_after : Course → ItemLine → Course
item_after course line = record { list = list_after course.list line; finished = course.finished || is_finish line; begun = begun_after course.begun line }

abbrev pub course_after : Course → TextLine → Course
course_after course (Head base) = course
course_after course (Body line) = item_after course line

abbrev pub course_on : Course → List TextLine → Course
course_on course [] = course
course_on course (line ∷ lines) = course_on (course_after course line) lines

-- what these lines say
abbrev pub course_of : List TextLine → Course
course_of lines = course_on no_course lines

abbrev pub is_none : {X : Type 0} → List X → Bool
is_none xs = length xs == 0

-- it has a unit and a slot
abbrev pub is_whole : BegunCode → Bool
is_whole code = not (is_none code.units) && not (is_none code.slots)

-- the code object that was begun, if any, may end here
abbrev pub may_end : Option BegunCode → Bool
may_end None = true
may_end (Some code) = is_whole code

-- a unit comes next that is the first of its code object
abbrev pub is_first : Option BegunCode → Bool
is_first None = false
is_first (Some code) = is_none code.units

-- units follow their create, and slots follow the units; every other line comes when the code object before it may end
abbrev pub is_in_place : Option BegunCode → ItemLine → Bool
is_in_place None (line.Unit u) = false
is_in_place (Some code) (line.Unit u) = is_none code.slots
is_in_place None (line.Slot slot) = false
is_in_place (Some code) (line.Slot slot) = not (is_none code.units)
is_in_place begun (line.Create start) = may_end begun
is_in_place begun (line.Event event) = may_end begun
is_in_place begun (line.Tick tick) = may_end begun

abbrev pub event_time : LineEvent → Option ℕ
event_time (Start session port interval mode max time) = Some time
event_time (Stop session time) = Some time
event_time (Finish time files) = Some time
event_time (Move from to) = None
event_time (NoOpt start reason) = None
event_time (Deopt start reason) = None
event_time (Delete start) = None

-- the time of a line that has one
abbrev pub item_time : ItemLine → Option ℕ
item_time (line.Create start) = None
item_time (line.Unit u) = None
item_time (line.Slot slot) = None
item_time (line.Event event) = event_time event
item_time (line.Tick tick) = Some tick.time

-- a line that has a time is earlier than the latest
abbrev pub is_earlier : ℕ → Option ℕ → Bool
is_earlier latest time = option_map_or (λ t. nat_lt t latest) time false

-- the rule Order: nothing follows a finish, each line is in its place, and times do not fall
abbrev pub breaks_order : Course → ItemLine → Bool
breaks_order course line = course.finished || not (is_in_place course.begun line) || is_earlier course.list.time (item_time line)

-- it is one of these numbers
abbrev pub is_among : List ℕ → ℕ → Bool
is_among numbers n = list_any (λ m. m == n) numbers

abbrev pub event_breaks_session : ListSoFar → LineEvent → Bool
event_breaks_session list (Start session port interval mode max time) = is_among list.started session.0 || not (nat_lt (length list.running) MAX_SESSIONS)
event_breaks_session list (Stop session time) = not (is_among list.running session.0)
event_breaks_session list (Finish time files) = false
event_breaks_session list (Move from to) = false
event_breaks_session list (NoOpt start reason) = false
event_breaks_session list (Deopt start reason) = false
event_breaks_session list (Delete start) = false

-- the rule Session: no session is started twice, at most 100 run at once, and a session is stopped only while it runs
abbrev pub breaks_session : ListSoFar → ItemLine → Bool
breaks_session list (line.Create start) = false
breaks_session list (line.Unit u) = false
breaks_session list (line.Slot slot) = false
breaks_session list (line.Event event) = event_breaks_session list event
breaks_session list (line.Tick tick) = false

-- the unit above, if any, does not come before
abbrev pub is_late_parent : BegunCode → CodeUnit → Bool
is_late_parent code u = option_map_or (λ site. nat_le (length code.units) site.unit) u.parent false

-- how many units are above the unit with this number, as far as one more than there may be
abbrev pub units_above : List CodeUnit → ℕ → ℕ
units_above units number = length (sites_above (suc MAX_ABOVE) units number)

-- there is no room for the unit, its parent does not come before it, or there are too many units above it
abbrev pub unit_breaks_limit : BegunCode → CodeUnit → Bool
unit_breaks_limit code u =
    nat_le MAX_UNITS (length code.units) || is_late_parent code u || nat_lt MAX_ABOVE (units_above (code.units ++ u ∷ []) (length code.units))

-- there is no room for the slot, its unit is not there, or the code would end past the last address
abbrev pub slot_breaks_limit : BegunCode → Slot → Bool
slot_breaks_limit code slot =
    nat_le MAX_SLOTS (length code.slots) || nat_le (length code.units) slot.unit || nat_lt (2 ^ 32) (code.start + SLOT_SIZE * (length code.slots + 1))

-- the rule Limit
abbrev pub breaks_limit : Option BegunCode → ItemLine → Bool
breaks_limit None line = false
breaks_limit (Some code) (line.Unit u) = unit_breaks_limit code u
breaks_limit (Some code) (line.Slot slot) = slot_breaks_limit code slot
breaks_limit (Some code) (line.Create start) = false
breaks_limit (Some code) (line.Event event) = false
breaks_limit (Some code) (line.Tick tick) = false

-- the first rule that a line breaks: Order, Session and Limit, in this order
abbrev pub item_fault : Course → ItemLine → Option (Cause Rule)
item_fault course line =
    if breaks_order course line then Some (Own rule.Order)
    else if breaks_session course.list line then Some (Own rule.Session)
    else if breaks_limit course.begun line then Some (Own rule.Limit)
    else None

-- the first rule that a line breaks after these
abbrev pub fault_after : List TextLine → TextLine → Option (Cause Rule)
fault_after before (Head base) = None
fault_after before (Body line) = item_fault (course_of before) line
