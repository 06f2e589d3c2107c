-- How a line of an item list's text is read.
use Rattle.std.specs.Prelude.{ℕ, ◌-◌, ◌^◌, List, Bool, true, false, Ok, Err, if◌then◌else◌, bytes_eq, codes, Option, Some, None}
use Rattle.prof_base.specs.declared.interval.TheConstants.{MAX_INTERVAL, MAX_ROUNDED}
use Rattle.prof_base.specs.declared.ids.SessionId.{SessionId}
use Rattle.prof_lines.specs.declared.fault.Cause.TheVariants.{Word}
use Rattle.prof_lines.specs.Answers.{Front, ◌>>=◌}
use Rattle.prof_lines.specs.Words.{of_word, word_at, fixed_at, number_at, numbers_at, end_at}
use Rattle.prof_lines.specs.Quoted.{quoted_at}
use Rattle.code_event.specs.declared.entry.Entry.{Entry}
use Rattle.code_event.specs.declared.layout.Site.{Site}
use Rattle.code_event.specs.declared.tick.VmState.{VmState}
use Rattle.code_event.specs.declared.tick.VmState.TheVariants as state
use Rattle.code_event.specs.declared.tick.TheConstants.Frames.{MAX_LEN}
use Rattle.run_schedule.specs.declared.limits.TheConstants.{MAX_PORT}
use Rattle.record_text.specs.Words.{Read, mode_of, bound_of, session_at, time_at}
use Rattle.item_text.specs.declared.item_line.LineEvent.{LineEvent}
use Rattle.item_text.specs.declared.item_line.LineEvent.TheVariants.{Move, NoOpt, Deopt, Delete, Start, Stop, Finish}
use Rattle.item_text.specs.declared.item_line.ItemLine.{ItemLine}
use Rattle.item_text.specs.declared.item_line.ItemLine.TheVariants as line
use Rattle.item_text.specs.ItemLine.{MAX_ADDRESS, MAX_LINE, MAX_INDEX}

-- `js`, `idle`, `native` or `gc`
abbrev pub state_of : List ℕ → Read VmState
state_of word =
    if bytes_eq word (codes "js") then Ok state.Js
    else if bytes_eq word (codes "idle") then Ok state.Idle
    else if bytes_eq word (codes "native") then Ok state.Native
    else if bytes_eq word (codes "gc") then Ok state.Gc
    else Err Word

-- one of two words
abbrev pub flag_of : List ℕ → List ℕ → List ℕ → Read Bool
flag_of on off word =
    if bytes_eq word on then Ok true
    else if bytes_eq word off then Ok false
    else Err Word

abbrev pub hit_of : List ℕ → Read Bool
hit_of word = flag_of (codes "hit") (codes "nohit") word

abbrev pub files_of : List ℕ → Read Bool
files_of word = flag_of (codes "files") (codes "none") word

-- a session by its number
abbrev pub numbered : Option ℕ → Option SessionId
numbered None = None
numbered (Some n) = Some (record { 0 = n })

-- `all`, or the number of a session
abbrev pub only_of : List ℕ → Read (Option SessionId)
only_of word = bound_of 1 word >>= λ number. Ok (numbered number)

-- the address that comes next
abbrev pub address_at : List ℕ → Read (Front ℕ)
address_at bytes = number_at 0 MAX_ADDRESS bytes

abbrev pub line_at : List ℕ → Read (Front ℕ)
line_at bytes = number_at 0 MAX_LINE bytes

abbrev pub index_at : List ℕ → Read (Front ℕ)
index_at bytes = number_at 0 MAX_INDEX bytes

-- the first line
unfoldable pub head_at : List ℕ → Read ℕ
head_at bytes = do
  name ← fixed_at (codes "items") bytes
  version ← fixed_at (codes "1") name
  base ← number_at 1 MAX_INTERVAL version
  u ← end_at base.1
  Ok base.0

unfoldable pub create_at : List ℕ → Read ItemLine
create_at bytes = do
  start ← address_at bytes
  u ← end_at start.1
  Ok (line.Create start.0)

-- how a profile names a unit
unfoldable pub entry_at : List ℕ → Read (Front Entry)
entry_at bytes = do
  name ← quoted_at bytes
  url ← quoted_at name.1
  script ← number_at 0 (2 ^ 32 - 1) url.1
  begins ← line_at script.1
  column ← line_at begins.1
  Ok (record { name = name.0; url = url.0; script = script.0; line = begins.0; column = column.0 }, column.1)

-- the last words of the first unit of a code object
unfoldable pub no_parent_at : List ℕ → Read (Option Site)
no_parent_at bytes = do
  first ← fixed_at (codes "-") bytes
  second ← fixed_at (codes "-") first
  third ← fixed_at (codes "-") second
  u ← end_at third
  Ok None

-- the last words of another unit
unfoldable pub site_at : List ℕ → Read (Option Site)
site_at bytes = do
  parent ← index_at bytes
  index ← index_at parent.1
  called ← line_at index.1
  u ← end_at called.1
  Ok (Some (record { unit = parent.0; index = index.0; line = called.0 }))

abbrev pub parent_at : Bool → List ℕ → Read (Option Site)
parent_at first bytes = if first then no_parent_at bytes else site_at bytes

unfoldable pub unit_at : Bool → List ℕ → Read ItemLine
unit_at first bytes = do
  func ← number_at 0 255 bytes
  entry ← entry_at func.1
  parent ← parent_at first entry.1
  Ok (line.Unit (record { func = record { 0 = func.0 }; entry = entry.0; parent = parent }))

unfoldable pub slot_at : List ℕ → Read ItemLine
slot_at bytes = do
  unit ← index_at bytes
  index ← index_at unit.1
  begins ← line_at index.1
  u ← end_at begins.1
  Ok (line.Slot (record { unit = unit.0; index = index.0; line = begins.0 }))

unfoldable pub move_at : List ℕ → Read LineEvent
move_at bytes = do
  from ← address_at bytes
  to ← address_at from.1
  u ← end_at to.1
  Ok (Move from.0 to.0)

-- an address and a text in quotes, and the end of the line
unfoldable pub reason_at : List ℕ → Read (ℕ × List ℕ)
reason_at bytes = do
  start ← address_at bytes
  reason ← quoted_at start.1
  u ← end_at reason.1
  Ok (start.0, reason.0)

abbrev pub no_opt_at : List ℕ → Read LineEvent
no_opt_at bytes = reason_at bytes >>= λ x. Ok (NoOpt x.0 x.1)

abbrev pub deopt_at : List ℕ → Read LineEvent
deopt_at bytes = reason_at bytes >>= λ x. Ok (Deopt x.0 x.1)

unfoldable pub delete_at : List ℕ → Read LineEvent
delete_at bytes = do
  start ← address_at bytes
  u ← end_at start.1
  Ok (Delete start.0)

unfoldable pub start_at : List ℕ → Read LineEvent
start_at bytes = do
  session ← session_at bytes
  port ← number_at 0 MAX_PORT session.1
  interval ← number_at 1 MAX_INTERVAL port.1
  mode ← of_word mode_of interval.1
  max ← of_word (bound_of 0) mode.1
  time ← time_at max.1
  u ← end_at time.1
  Ok (Start (record { 0 = session.0 }) port.0 interval.0 mode.0 max.0 time.0)

unfoldable pub stop_at : List ℕ → Read LineEvent
stop_at bytes = do
  session ← session_at bytes
  time ← time_at session.1
  u ← end_at time.1
  Ok (Stop (record { 0 = session.0 }) time.0)

unfoldable pub finish_at : List ℕ → Read LineEvent
finish_at bytes = do
  time ← time_at bytes
  files ← of_word files_of time.1
  u ← end_at files.1
  Ok (Finish time.0 files.0)

-- the event that a word names, by the words after it
abbrev pub event_of : List ℕ → List ℕ → Read LineEvent
event_of word bytes =
    if bytes_eq word (codes "move") then move_at bytes
    else if bytes_eq word (codes "noopt") then no_opt_at bytes
    else if bytes_eq word (codes "deopt") then deopt_at bytes
    else if bytes_eq word (codes "delete") then delete_at bytes
    else if bytes_eq word (codes "start") then start_at bytes
    else if bytes_eq word (codes "stop") then stop_at bytes
    else if bytes_eq word (codes "finish") then finish_at bytes
    else Err Word

unfoldable pub tick_at : List ℕ → Read ItemLine
tick_at bytes = do
  time ← time_at bytes
  interval ← number_at 0 MAX_ROUNDED time.1
  was ← of_word state_of interval.1
  hit ← of_word hit_of was.1
  only ← of_word only_of hit.1
  frames ← numbers_at 0 MAX_ADDRESS MAX_LEN only.1
  Ok (line.Tick (record { time = time.0; interval = interval.0; state = was.0; hit = hit.0; only = only.0; frames = frames }))

-- the line that a word names, by the words after it; a unit is the first of its code object or another
abbrev pub item_of : Bool → List ℕ → List ℕ → Read ItemLine
item_of first word bytes =
    if bytes_eq word (codes "tick") then tick_at bytes
    else if bytes_eq word (codes "create") then create_at bytes
    else if bytes_eq word (codes "unit") then unit_at first bytes
    else if bytes_eq word (codes "slot") then slot_at bytes
    else (event_of word bytes >>= λ event. Ok (line.Event event))

-- a line after the first
unfoldable pub item_at : Bool → List ℕ → Read ItemLine
item_at first bytes = do
  word ← word_at bytes
  item_of first word.0 word.1
