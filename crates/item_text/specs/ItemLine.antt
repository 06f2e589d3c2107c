-- The lines of an item list's text: the words of each, and the ranges of their numbers.
use Rattle.std.specs.Prelude.{ℕ, ◌-◌, ◌^◌, List, [], ◌∷◌, map, Bool, true, false, Option, Some, None, IfSome, codes, decimal}
use Rattle.prof_base.specs.Text.{IsText}
use Rattle.prof_base.specs.declared.interval.TheConstants.{MAX_INTERVAL, MAX_ROUNDED}
use Rattle.prof_base.specs.declared.ids.SessionId.{SessionId}
use Rattle.prof_lines.specs.Words.{InRange}
use Rattle.prof_lines.specs.Spelled.{quoted, AreNumbers}
use Rattle.code_event.specs.declared.entry.Entry.{Entry}
use Rattle.code_event.specs.declared.layout.Site.{Site}
use Rattle.code_event.specs.declared.layout.Slot.{Slot}
use Rattle.code_event.specs.declared.layout.Unit.{Unit as CodeUnit}
use Rattle.code_event.specs.declared.tick.VmState.{VmState}
use Rattle.code_event.specs.declared.tick.VmState.TheVariants as state
use Rattle.code_event.specs.declared.tick.TheConstants.Frames.{MAX_LEN}
use Rattle.run_schedule.specs.declared.limits.TheConstants.{MAX_PORT}
use Rattle.record_text.specs.Words.{mode_word, max_word, IsMax, IsTime}
use Rattle.item_text.specs.declared.item_line.LineEvent.{LineEvent}
use Rattle.item_text.specs.declared.item_line.LineEvent.TheVariants.{Move, NoOpt, Deopt, Delete, Start, Stop, Finish}
use Rattle.item_text.specs.declared.item_line.TickLine.{TickLine}
use Rattle.item_text.specs.declared.item_line.ItemLine.{ItemLine}
use Rattle.item_text.specs.declared.item_line.ItemLine.TheVariants as line
use Rattle.item_text.specs.declared.item_line.TextLine.{TextLine}
use Rattle.item_text.specs.declared.item_line.TextLine.TheVariants.{Head, Body}

-- the greatest address
abbrev pub MAX_ADDRESS : ℕ
MAX_ADDRESS = 2 ^ 32 - 1

-- the greatest line and column
abbrev pub MAX_LINE : ℕ
MAX_LINE = 1000000

-- the greatest number of a unit, and index in a body
abbrev pub MAX_INDEX : ℕ
MAX_INDEX = 4095

abbrev pub state_word : VmState → List ℕ
state_word state.Js = codes "js"
state_word state.Idle = codes "idle"
state_word state.Native = codes "native"
state_word state.Gc = codes "gc"

abbrev pub hit_word : Bool → List ℕ
hit_word true = codes "hit"
hit_word false = codes "nohit"

abbrev pub files_word : Bool → List ℕ
files_word true = codes "files"
files_word false = codes "none"

-- the one session that a tick is for
abbrev pub only_word : Option SessionId → List ℕ
only_word None = codes "all"
only_word (Some session) = decimal session.0

-- where a unit was inlined; the first of a code object has no such place
abbrev pub parent_words : Option Site → List (List ℕ)
parent_words None = codes "-" ∷ codes "-" ∷ codes "-" ∷ []
parent_words (Some site) = decimal site.unit ∷ decimal site.index ∷ decimal site.line ∷ []

abbrev pub entry_words : Entry → List (List ℕ) → List (List ℕ)
entry_words entry rest = quoted entry.name ∷ quoted entry.url ∷ decimal entry.script ∷ decimal entry.line ∷ decimal entry.column ∷ rest

-- the first word of the line of an event
abbrev pub event_name : LineEvent → List ℕ
event_name (Move from to) = codes "move"
event_name (NoOpt start reason) = codes "noopt"
event_name (Deopt start reason) = codes "deopt"
event_name (Delete start) = codes "delete"
event_name (Start session port interval mode max time) = codes "start"
event_name (Stop session time) = codes "stop"
event_name (Finish time files) = codes "finish"

-- the words after it
abbrev pub event_operands : LineEvent → List (List ℕ)
event_operands (Move from to) = decimal from ∷ decimal to ∷ []
event_operands (NoOpt start reason) = decimal start ∷ quoted reason ∷ []
event_operands (Deopt start reason) = decimal start ∷ quoted reason ∷ []
event_operands (Delete start) = decimal start ∷ []
event_operands (Start session port interval mode max time) =
    decimal session.0 ∷ decimal port ∷ decimal interval ∷ mode_word mode ∷ max_word max ∷ decimal time ∷ []
event_operands (Stop session time) = decimal session.0 ∷ decimal time ∷ []
event_operands (Finish time files) = decimal time ∷ files_word files ∷ []

-- the first word of a line after the first
abbrev pub item_name : ItemLine → List ℕ
item_name (line.Create start) = codes "create"
item_name (line.Unit u) = codes "unit"
item_name (line.Slot slot) = codes "slot"
item_name (line.Event event) = event_name event
item_name (line.Tick tick) = codes "tick"

-- the words after it
abbrev pub item_operands : ItemLine → List (List ℕ)
item_operands (line.Create start) = decimal start ∷ []
item_operands (line.Unit u) = decimal u.func.0 ∷ entry_words u.entry (parent_words u.parent)
item_operands (line.Slot slot) = decimal slot.unit ∷ decimal slot.index ∷ decimal slot.line ∷ []
item_operands (line.Event event) = event_operands event
item_operands (line.Tick tick) =
    decimal tick.time ∷ decimal tick.interval ∷ state_word tick.state ∷ hit_word tick.hit ∷ only_word tick.only ∷ map decimal tick.frames

-- the words of a line
abbrev pub item_words : TextLine → List (List ℕ)
item_words (Head base) = codes "items" ∷ codes "1" ∷ decimal base ∷ []
item_words (Body line) = item_name line ∷ item_operands line

abbrev pub IsAddress : ℕ → Type 0
IsAddress n = InRange 0 MAX_ADDRESS n

abbrev pub IsSession : SessionId → Type 0
IsSession session = InRange 1 (2 ^ 32 - 1) session.0

abbrev pub IsOnly : Option SessionId → Type 0
IsOnly only = IfSome only IsSession

-- the first unit of a code object was not inlined, and each other one was
abbrev pub IsParent : Bool → Option Site → Type 0
IsParent true None = Unit {0}
IsParent true (Some site) = ⊥
IsParent false None = ⊥
IsParent false (Some site) = InRange 0 MAX_INDEX site.unit × InRange 0 MAX_INDEX site.index × InRange 0 MAX_LINE site.line

abbrev pub IsEntry : Entry → Type 0
IsEntry entry = IsText entry.name × IsText entry.url × InRange 0 (2 ^ 32 - 1) entry.script × InRange 0 MAX_LINE entry.line × InRange 0 MAX_LINE entry.column

-- a unit, the first of its code object or another
abbrev pub IsUnit : Bool → CodeUnit → Type 0
IsUnit first u = InRange 0 255 u.func.0 × IsEntry u.entry × IsParent first u.parent

abbrev pub IsSlot : Slot → Type 0
IsSlot slot = InRange 0 MAX_INDEX slot.unit × InRange 0 MAX_INDEX slot.index × InRange 0 MAX_LINE slot.line

abbrev pub IsEvent : LineEvent → Type 0
IsEvent (Move from to) = IsAddress from × IsAddress to
IsEvent (NoOpt start reason) = IsAddress start × IsText reason
IsEvent (Deopt start reason) = IsAddress start × IsText reason
IsEvent (Delete start) = IsAddress start
IsEvent (Start session port interval mode max time) = IsSession session × InRange 0 MAX_PORT port × InRange 1 MAX_INTERVAL interval × IsMax max × IsTime time
IsEvent (Stop session time) = IsSession session × IsTime time
IsEvent (Finish time files) = IsTime time

abbrev pub IsTick : TickLine → Type 0
IsTick tick = IsTime tick.time × InRange 0 MAX_ROUNDED tick.interval × IsOnly tick.only × AreNumbers 0 MAX_ADDRESS MAX_LEN tick.frames

-- the numbers and texts of a line are in their ranges; a unit is the first of its code object or another
abbrev pub IsItemLine : Bool → ItemLine → Type 0
IsItemLine first (line.Create start) = IsAddress start
IsItemLine first (line.Unit u) = IsUnit first u
IsItemLine first (line.Slot slot) = IsSlot slot
IsItemLine first (line.Event event) = IsEvent event
IsItemLine first (line.Tick tick) = IsTick tick
